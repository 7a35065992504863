use Rattle.std.specs.Prelude.{List, map, fold, length, take, ◌==◌, None}
use Rattle.std.proofs.Common.{◌≡◌, ℕ, ◌≤◌, sym, ◌∙◌, ap}
use Rattle.std.proofs.lemmas.List.{take_all, length-map}
use Rattle.cv_calc.specs.declared.calc.Calc.{Calc}
use Rattle.cv_calc.specs.Linear.{shape, further_shape}
use Rattle.cv_calc.specs.Products.{no_factors, with_child, factors_shape}
use Rattle.cv_calc.proofs.Multiplied.{product_none, product_found, sum_none, sum_found}
use Rattle.cv_calc.proofs.shape.+shape.Goals as goal

-- all children were looked at
all_looked : (n : ℕ) (cs : List Calc) → length cs ≤ n → map shape (take n cs) ≡ map shape cs
all_looked n cs h = ap (map shape) (take_all n cs h)

count : (cs : List Calc) → (length (map shape cs) == 0) ≡ (length cs == 0)
count cs = ap (λ n. n == 0) (length-map cs shape)

pub product_shape-returns-then-is_empty : goal.product_shape-returns-then-is_empty
product_shape-returns-then-is_empty t c = product_none (map shape c.args.children.now) (count c.args.children.now ∙ sym c.is_empty.ensures ∙ c.if-is_empty.true)

pub product_shape-returns-else-is_empty : goal.product_shape-returns-else-is_empty
product_shape-returns-else-is_empty t c =
    c.shape.ensures
    ∙ ap factors_shape (c.loop-child.invariant ∙ ap (fold with_child no_factors) (all_looked c.loop-child.child-index c.args.children.now c.loop-child-test.false))
    ∙ product_found (map shape c.args.children.now) (count c.args.children.now ∙ sym c.is_empty.ensures ∙ c.if-is_empty.false)

pub sum_shape-returns-in-None : goal.sum_shape-returns-in-None
sum_shape-returns-in-None t c =
    sum_none (map shape c.args.children.now)
    (ap (fold further_shape None) (sym (all_looked c.loop-child.child-index c.args.children.now c.loop-child-test.false)) ∙ sym c.loop-child.invariant ∙ c.in-None.is)

pub sum_shape-returns-in-Some : goal.sum_shape-returns-in-Some
sum_shape-returns-in-Some t c =
    sum_found (map shape c.args.children.now) c.in-Some.sum
    (ap (fold further_shape None) (sym (all_looked c.loop-child.child-index c.args.children.now c.loop-child-test.false)) ∙ sym c.loop-child.invariant ∙ c.in-Some.is)
