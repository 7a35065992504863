use Rattle.std.specs.Prelude.{Some, [], fold}
use Rattle.std.proofs.Common.{◌≡◌, take}
use Rattle.cv_simplify.specs.Checked.{with_scaled}
use Rattle.cv_simplify.proofs.factors.terms_scaled.Given as goal

abbrev pub invariant-loop-term : goal.invariant-loop-term
invariant-loop-term l = Some l.row ≡ fold (with_scaled l.number) (Some []) (take l.term-index l.terms)
