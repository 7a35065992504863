use Rattle.std.specs.Prelude.{◌++◌}
use Rattle.std.proofs.Common.{◌≡◌, take}
use Rattle.cv_om.specs.Conversion.{numbers_of}
use Rattle.cv_om.proofs.own_units.push_numbers.Given as goal

abbrev pub invariant-loop-item : goal.invariant-loop-item
invariant-loop-item l = l.numbers ≡ l.initial.numbers ++ numbers_of (take l.item-index l.row) l.unit
