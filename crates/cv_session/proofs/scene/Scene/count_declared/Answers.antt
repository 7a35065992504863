use Rattle.std.proofs.Common.{◌≤◌, length, subst, arith}
use Rattle.std.specs.List.{IsDistinct}
use Rattle.std.specs.Map.{keys_of}
use Rattle.std.proofs.lemmas.List.{length-map}
use Rattle.cv_valuation.specs.Keys.{same_key}
use Rattle.cv_props.specs.Winners.{Declarations}
use Rattle.cv_update.specs.Names.{key_of}
use Rattle.cv_session.specs.Scenes.{keys_in}
use Rattle.cv_session.proofs.Making.{few_among}
use Rattle.cv_session.proofs.scene.Scene.count_declared.Goals as goal

pub returns-clause-few : goal.returns-clause-few
returns-clause-few c =
    let scene = c.args.self.now in
    let few : length (keys_in scene) ≤ 2083 = omega (arith, c.requires.sound.few_names, length-map scene.names.items key_of) in
    few_among (keys_in scene) c.args.map.now few (subst (λ (d : Declarations). IsDistinct same_key (keys_of d)) c.decls.ensures c.len.ensures.once) c.requires.among
