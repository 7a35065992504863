use Rattle.std.proofs.Common.{◌≡◌, take}
use Rattle.std.specs.Prelude.{map, fold, None}
use Rattle.std.specs.Option.{option_map}
use Rattle.cv_calcread.specs.Figures.{shown, evaluated, sum_of, product_of, chosen_next}
use Rattle.cv_calcread.proofs.divisors.+evaluate.Given as goal

abbrev pub invariant-sum-loop-child : goal.invariant-sum-loop-child
invariant-sum-loop-child l = shown l.found ≡ sum_of (map evaluated (take l.child-index l.children))

abbrev pub invariant-product-loop-child : goal.invariant-product-loop-child
invariant-product-loop-child l = shown l.found ≡ product_of (map evaluated (take l.child-index l.children))

abbrev pub invariant-chosen-loop-child : goal.invariant-chosen-loop-child
invariant-chosen-loop-child l = option_map shown l.found ≡ fold (chosen_next l.fn.joining) None (map evaluated (take l.child-index l.children))
