use Rattle.std.proofs.Common.{◌≡◌, take}
use Rattle.std.specs.Prelude.{fold}
use Rattle.cv_om.specs.Arithmetic.{unit_next}
use Rattle.cv_om.proofs.arithmetic.unit_after.Given as goal

abbrev pub invariant-loop-child : goal.invariant-loop-child
invariant-loop-child l = l.unit ≡ fold (unit_next l.how) l.fn.first (take l.child-index l.rest)
