use Rattle.std.specs.Prelude.{Some}
use Rattle.std.proofs.Common.{◌≡◌, take, map}
use Rattle.cv_simplify.specs.Checked.{checked, row_within, factors_within}
use Rattle.cv_simplify.proofs.calculation.+simplify.Given as goal

abbrev pub invariant-row-loop-child : goal.invariant-row-loop-child
invariant-row-loop-child l = Some l.row ≡ row_within l.how (map (checked l.x) (take l.child-index l.children))

abbrev pub invariant-factors_of-loop-child : goal.invariant-factors_of-loop-child
invariant-factors_of-loop-child l = Some l.factors ≡ factors_within (map (checked l.x) (take l.child-index l.children))
