use Rattle.std.proofs.Common.{◌≡◌, take}
use Rattle.std.specs.Prelude.{map, fold, None}
use Rattle.cv_calc.specs.Linear.{shape, further_shape}
use Rattle.cv_calc.specs.Products.{no_factors, with_child}
use Rattle.cv_calc.proofs.shape.+shape.Given as goal

abbrev pub invariant-sum_shape-loop-child : goal.invariant-sum_shape-loop-child
invariant-sum_shape-loop-child l = l.found ≡ fold further_shape None (map shape (take l.child-index l.children))

abbrev pub invariant-product_shape-loop-child : goal.invariant-product_shape-loop-child
invariant-product_shape-loop-child l = l.factors ≡ fold with_child no_factors (map shape (take l.child-index l.children))
