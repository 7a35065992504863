use Rattle.std.proofs.Common.{◌≡◌, drop}
use Rattle.std.specs.Prelude.{fold, Ok}
use Rattle.cv_om.specs.Arithmetic.{number_next}
use Rattle.cv_om.proofs.arithmetic.number_after.Given as goal

abbrev pub invariant-loop-child : goal.invariant-loop-child
invariant-loop-child l = fold (number_next l.how) (Ok l.number) (drop l.child-index l.rest) ≡ fold (number_next l.how) (Ok l.fn.first) l.rest
