-- A simplified calculation as a sum: its numbers, of each unit one, and its other terms with their places. The form is this project's
-- own; the sum is that of CSS Values and Units 4, "Simplification".
use Rattle.std.specs.Prelude.{◌≢◌, ℕ, ◌+◌, All, List, [], ◌∷◌}
use Rattle.cv_spec_ratio.specs.Ratio.{Ratio}
use Rattle.cv_calc.specs.declared.unit.Unit as units
use Rattle.cv_calc.specs.declared.calc.Calc.{Calc}
use Rattle.cv_calc.specs.declared.calc.Calc.TheOpen.{Calc-F, Num}
use Rattle.cv_calc.specs.declared.calc.Calc.TheViews.{out-Calc}
use Rattle.cv_simplify.specs.Simplified.{terms_of}

-- a number with its unit
abbrev pub Measure : Type 0
Measure = Ratio × units.Unit

abbrev pub with_number : Calc-F Calc → List Measure → List Measure
with_number (Num v u) ms = (v, u) ∷ ms
with_number _ ms = ms

-- the numbers among some terms, in their order
abbrev pub numbers_among : List Calc → List Measure
numbers_among [] = []
numbers_among (c ∷ cs) = with_number (out-Calc c) (numbers_among cs)

abbrev pub with_other : ℕ → Calc → Calc-F Calc → List (ℕ × Calc) → List (ℕ × Calc)
with_other n c (Num v u) ps = ps
with_other n c _ ps = (n, c) ∷ ps

-- the terms that are no numbers, in their order, each with its place; the first argument is the place of the first term
abbrev pub others_among : ℕ → List Calc → List (ℕ × Calc)
others_among n [] = []
others_among n (c ∷ cs) = with_other n c (out-Calc c) (others_among (n + 1) cs)

-- the numbers and the other terms of a calculation, of which a sum has its children as terms, and each other calculation itself
abbrev pub number_terms : Calc → List Measure
number_terms c = numbers_among (terms_of c)

abbrev pub other_terms : Calc → List (ℕ × Calc)
other_terms c = others_among 0 (terms_of c)

-- no two numbers have one unit
abbrev pub EachUnitOnce : List Measure → Type 0
EachUnitOnce [] = Unit {0}
EachUnitOnce (m ∷ ms) = All (λ n. n.1 ≢ m.1) ms × EachUnitOnce ms
