-- The value of a calculation (CSS Values and Units 4, "Mathematical Expressions"): the fraction that it means. Nothing here knows of
-- simplification.
use Rattle.std.specs.Prelude.{List, [], ◌∷◌, Option, Some, None, option_map}
use Rattle.cv_spec_ratio.specs.Ratio.{Ratio, add, mul, neg, reciprocal, zero_ratio, one_ratio}
use Rattle.cv_spec_ratio.specs.Order.{lesser, greater}
use Rattle.cv_calc.specs.declared.unit.Unit.TheVariants.{Percent}
use Rattle.cv_calc.specs.declared.unit.Unit as units
use Rattle.cv_calc.specs.declared.calc.Calc.{Calc}
use Rattle.cv_calc.specs.declared.calc.Calc.TheOpen.{Calc-F, Num, Sum, Product, Negate, Invert, Min, Max, Clamp}
use Rattle.cv_calc.specs.declared.calc.Calc.TheFolds.{fold-Calc}
use Rattle.cv_calc.specs.Factor.{Sizes, factor}

-- what units stand for, and what 1% does: 1 where a percentage counts as its own number, and a hundredth of the px that 100% is
-- where it is a part of a length
pub record Meaning : Type 0 where
  pub sizes : Sizes
  pub percent : Ratio

abbrev pub unit_value : Meaning → units.Unit → Ratio
unit_value m Percent = m.percent
unit_value m u = factor m.sizes u

-- both values, or none
abbrev pub both : {A : Type 0} → (Ratio → Ratio → A) → Option Ratio → Option Ratio → Option A
both f None o = None
both f (Some a) None = None
both f (Some a) (Some b) = Some (f a b)

abbrev pub sum_of : List (Option Ratio) → Option Ratio
sum_of [] = Some zero_ratio
sum_of (r ∷ rs) = both add r (sum_of rs)

abbrev pub product_of : List (Option Ratio) → Option Ratio
product_of [] = Some one_ratio
product_of (r ∷ rs) = both mul r (product_of rs)

-- the least or the greatest of some values, of which there is one at least
abbrev pub chosen_of : (Ratio → Ratio → Ratio) → List (Option Ratio) → Option Ratio
chosen_of f [] = None
chosen_of f (r ∷ []) = r
chosen_of f (r ∷ s ∷ rs) = both f r (chosen_of f (s ∷ rs))

abbrev pub inverse_of : Option Ratio → Option Ratio
inverse_of None = None
inverse_of (Some r) = reciprocal r

abbrev pub value_step : Meaning → Calc-F (Option Ratio) → Option Ratio
value_step m (Num v u) = Some (mul v (unit_value m u))
value_step m (Sum rs) = sum_of rs
value_step m (Product rs) = product_of rs
value_step m (Negate r) = option_map neg r
value_step m (Invert r) = inverse_of r
value_step m (Min rs) = chosen_of lesser rs
value_step m (Max rs) = chosen_of greater rs
value_step m (Clamp l r h) = both greater l (both lesser r h)

unfoldable pub value : Meaning → Calc → Option Ratio
value m = fold-Calc (Option Ratio) (value_step m)
