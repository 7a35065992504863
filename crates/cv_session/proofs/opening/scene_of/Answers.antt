use Rattle.std.proofs.Common.{List, refl, subst}
use Rattle.std.specs.Prelude.{ℕ}
use Rattle.cv_doc.specs.declared.elements.Elem.{Elem}
use Rattle.cv_doc.specs.Reading.{shape_of}
use Rattle.cv_walk.specs.Extents.{AreExtents}
use Rattle.cv_update.specs.Names.{AreTold}
use Rattle.cv_session.proofs.Opened.{scene_opened, told_commands}
use Rattle.cv_session.proofs.opening.scene_of.Goals as goal

pub returns-clause-opened : goal.returns-clause-opened
returns-clause-opened c =
    scene_opened (shape_of c.args.document) c.args.contents c.args.limit _
    (record { registry = refl; elements = refl; notes = refl; maps = c.in_ok-maps.ensures; width = refl; height = refl; limit_is = refl })
    c.requires.contents c.args.custom.now c.requires.names c.winners_are_by_key.ensures c.requires.sound (subst (λ (l : List Elem). AreExtents l c.in_ok-extents.extents) c.deref.ensures.value c.in_ok-extents.ensures) c.requires.least c.requires.most c.requires.computed c.requires.stand
    c.in_ok-names.ensures.named c.in_ok-names.ensures.told c.requires.few_names

pub returns-clause-these : goal.returns-clause-these
returns-clause-these c = told_commands c.winners_are_by_key.ensures (shape_of c.args.document) c.args.custom.now _ c.requires.names c.in_ok-names.ensures.told
