use Rattle.std.proofs.Common.{arith, ap, length, refl, ◌∙◌}
use Rattle.std.proofs.lemmas.Option.{slice_get_read}
use Rattle.cv_valuation.specs.declared.key.Key.TheVariants.{Custom}
use Rattle.cv_update.proofs.Naming.{names_next}
use Rattle.cv_update.proofs.names.custom_names.Goals as goal

pub loop-name-preserved : goal.loop-name-preserved
loop-name-preserved c =
    names_next Custom c.args.custom.now c.loop-name.name-index c.name-item.result c.loop-name.all.items c.push.new.self.items c.in_ok-with_name.field-0
    (slice_get_read c.args.custom.now (length c.args.custom.now) c.loop-name.name-index c.name-item.result refl (omega (arith, c.loop-name-test.true, c.loop-name.auto.name-index-end)) c.name-item.is)
    (c.in_ok-with_name.ensures.key ∙ ap Custom c.in_ok-copy.ensures) c.in_ok-with_name.ensures.named c.in_ok-with_name.ensures.spelled c.in_ok-push.ensures.items c.loop-name.invariant
