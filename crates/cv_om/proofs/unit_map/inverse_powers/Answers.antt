use Rattle.std.specs.Prelude.{pos}
use Rattle.std.proofs.Common.{refl, sym, ◌∙◌}
use Rattle.cv_calc.specs.declared.unit.Unit.TheVariants.{Number}
use Rattle.cv_om.proofs.UnitMaps.{inverse_refused, inverse_done}
use Rattle.cv_om.proofs.unit_map.inverse_powers.Goals as goal

pub returns-in-None-clause-err : goal.returns-in-None-clause-err
returns-in-None-clause-err c =
    inverse_refused c.args.a.now c.loop-entry.units c.loop-entry.entry-index (Number, pos 0) _ c.loop-entry-test.true refl (sym c.negative_entry.ensures ∙ c.in-None.is) c.loop-entry.invariant

pub returns-clause-ok : goal.returns-clause-ok
returns-clause-ok c = inverse_done c.args.a.now c.loop-entry.units c.loop-entry.entry-index c.loop-entry-test.false c.loop-entry.invariant
