use Rattle.cv_property.specs.Table.{properties}
use Rattle.cv_valuation.specs.declared.key.Key.TheVariants.{Table}
use Rattle.cv_update.proofs.Naming.{names_next}
use Rattle.cv_update.proofs.names.ordinary_names.Goals as goal

pub loop-number-preserved : goal.loop-number-preserved
loop-number-preserved c =
    names_next Table properties c.loop-number.number c.ordinary.result c.loop-number.all.items c.push.new.self.items c.in_ok-with_name.field-0 c.ordinary.ensures
    c.in_ok-with_name.ensures.key c.in_ok-with_name.ensures.named c.in_ok-with_name.ensures.spelled c.in_ok-push.ensures.items c.loop-number.invariant
