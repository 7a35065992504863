-- The fractions that a calculation counts, and whether each of them is in bounds: each number in it, each fraction in the simplified
-- form of each of its parts, and each fraction in the simplified form of a sum or product over each prefix of its children. This is
-- this project's own: CSS leaves the precision of numbers to the implementation (CSS Values and Units 4, "Numeric Data Types").
-- That a literal has at most 36 digits can't be told from a tree: it is part of reading it.
use Rattle.std.specs.Prelude.{Bool, true, ◌&&◌, List, [], ◌∷◌, ◌++◌, map}
use Rattle.cv_frac.specs.Bounded.{in_bounds}
use Rattle.cv_calc.specs.declared.context.Context.{Context}
use Rattle.cv_calc.specs.declared.calc.Calc.{Calc}
use Rattle.cv_calc.specs.declared.calc.Calc.TheOpen.{Calc-F, Num, Sum, Product, Negate, Invert, Min, Max, Clamp}
use Rattle.cv_calc.specs.declared.calc.Calc.TheFolds.{fold-Calc}
use Rattle.cv_simplify.specs.Simplified.{simp_step, summed, multiplied}

abbrev pub all_true : List Bool → Bool
all_true [] = true
all_true (b ∷ bs) = b && all_true bs

-- whether each fraction of a tree is in bounds
abbrev pub inside_step : Calc-F Bool → Bool
inside_step (Num v u) = in_bounds v
inside_step (Sum bs) = all_true bs
inside_step (Product bs) = all_true bs
inside_step (Negate b) = b
inside_step (Invert b) = b
inside_step (Min bs) = all_true bs
inside_step (Max bs) = all_true bs
inside_step (Clamp a b c) = a && b && c

unfoldable pub inside : Calc → Bool
inside = fold-Calc Bool inside_step

abbrev pub all_inside : List Calc → Bool
all_inside cs = all_true (map inside cs)

-- a simplified calculation, and whether all that was counted on the way is in bounds
pub record Counted : Type 0 where
  pub simple : Calc
  pub in_range : Bool

-- whether what f makes of each longer list is inside, from these children on
abbrev pub longer_inside : (List Calc → Calc) → List Calc → List Calc → Bool
longer_inside f before [] = true
longer_inside f before (c ∷ cs) = inside (f (before ++ c ∷ [])) && longer_inside f (before ++ c ∷ []) cs

-- what f makes of each prefix of the children, the whole among them, is inside
abbrev pub prefixes_inside : (List Calc → Calc) → List Calc → Bool
prefixes_inside f cs = inside (f []) && longer_inside f [] cs

abbrev pub children_in_range : List Counted → Bool
children_in_range ps = all_true (map (λ p. p.in_range) ps)

abbrev pub simple_of : Calc-F Counted → Calc-F Calc
simple_of (Num v u) = Num v u
simple_of (Sum ps) = Sum (map (λ p. p.simple) ps)
simple_of (Product ps) = Product (map (λ p. p.simple) ps)
simple_of (Negate p) = Negate p.simple
simple_of (Invert p) = Invert p.simple
simple_of (Min ps) = Min (map (λ p. p.simple) ps)
simple_of (Max ps) = Max (map (λ p. p.simple) ps)
simple_of (Clamp a b c) = Clamp a.simple b.simple c.simple

-- what a node counts beside its own result
abbrev pub counted_below : Calc-F Counted → Bool
counted_below (Num v u) = in_bounds v
counted_below (Sum ps) = children_in_range ps && prefixes_inside summed (map (λ p. p.simple) ps)
counted_below (Product ps) = children_in_range ps && prefixes_inside multiplied (map (λ p. p.simple) ps)
counted_below (Negate p) = p.in_range
counted_below (Invert p) = p.in_range
counted_below (Min ps) = children_in_range ps
counted_below (Max ps) = children_in_range ps
counted_below (Clamp a b c) = a.in_range && b.in_range && c.in_range

abbrev pub counted_step : Context → Calc-F Counted → Counted
counted_step x l = record { simple = simp_step x (simple_of l); in_range = counted_below l && inside (simp_step x (simple_of l)) }

unfoldable pub counted : Context → Calc → Counted
counted x = fold-Calc Counted (counted_step x)

-- each literal and each counted fraction is in bounds
abbrev pub is_in_range : Context → Calc → Bool
is_in_range x c = (counted x c).in_range
