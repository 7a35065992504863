use Rattle.std.proofs.Common.{◌≡◌, take}
use Rattle.std.specs.Prelude.{map, fold}
use Rattle.cv_calcread.specs.Figures.{evaluated, with_marks}
use Rattle.cv_calcread.proofs.divisors.+marks.Given as goal

abbrev pub invariant-add_all-loop-child : goal.invariant-add_all-loop-child
invariant-add_all-loop-child l = l.marks.items ≡ fold with_marks l.initial.marks.items (map evaluated (take l.child-index l.children))
