use Rattle.std.proofs.Common.{refl, ap, ◌∙◌, sym}
use Rattle.cv_update.specs.Renewed.{with_fresh}
use Rattle.cv_valuation.specs.declared.computed.Computed.{Computed}
use Rattle.std.specs.Prelude.{List}
use Rattle.cv_session.proofs.Standing.{put_back, put_sound}
use Rattle.cv_session.proofs.scene.Scene.put.Goals as goal

pub returns-clause-sound : goal.returns-clause-sound
returns-clause-sound c = put_sound c.args.self.now _ c.args.altered.at c.args.altered c.requires.sound c.requires.altered
    (record { setting = refl; elements = refl; extents = refl; names = refl; maps = refl; all = put_back c.args.self.now.all.len c.put_fresh.new.all c.args.self.now.all.items _ (c.put_fresh.auto.all ∙ c.deref_mut.ensures.len) (c.put_fresh.ensures ∙ ap (λ (l : List Computed). with_fresh l c.args.altered.fresh) c.deref_mut.ensures.value) })
