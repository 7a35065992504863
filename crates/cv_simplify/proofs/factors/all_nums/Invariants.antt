use Rattle.std.proofs.Common.{◌≡◌, true, take}
use Rattle.cv_simplify.specs.Checked.{all_nums}
use Rattle.cv_simplify.proofs.factors.all_nums.Given as goal

abbrev pub invariant-loop-term : goal.invariant-loop-term
invariant-loop-term l = all_nums (take l.term-index l.terms) ≡ true
