use Rattle.std.specs.Prelude.{map, Ok}
use Rattle.std.proofs.Common.{◌≡◌, take}
use Rattle.cv_om.specs.Refusal.{all_of}
use Rattle.cv_om.specs.SumValue.{sum_value}
use Rattle.cv_om.proofs.sum_value.+sum_value.Given as goal

abbrev pub invariant-rows_of-loop-child : goal.invariant-rows_of-loop-child
invariant-rows_of-loop-child l = all_of (map sum_value (take l.child-index l.children)) ≡ Ok l.rows
