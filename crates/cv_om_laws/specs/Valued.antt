-- The value of each answer is the operation on the values (CSS Typed OM 1, "Common Numeric Operations, and the CSSNumericValue Superclass";
-- the values are those of CSS Values and Units 4, "Mathematical Expressions").
use Rattle.std.specs.Prelude.{◌≡◌, Bool, true, false, ℤ, pos, negsuc, zero, suc, Some, Ok}
use Rattle.cv_spec_ratio.specs.Ratio.{Ratio, add, mul, neg, reciprocal}
use Rattle.cv_spec_ratio.specs.Order.{lesser, greater}
use Rattle.cv_calc.specs.declared.unit.Unit as units
use Rattle.cv_calc.specs.declared.calc.Calc.{Calc}
use Rattle.cv_calc.specs.Value.{Meaning, unit_value, value}
use Rattle.cv_om.specs.Arithmetic.{sum_of, difference_of, product_of, quotient_of, least_of, greatest_of, negated, inverse_of}

abbrev pub is_above_zero : ℤ → Bool
is_above_zero (pos zero) = false
is_above_zero (pos (suc n)) = true
is_above_zero (negsuc n) = false

abbrev pub IsPositive : Ratio → Type 0
IsPositive r = is_above_zero r.top ≡ true

-- each unit means something positive
abbrev pub HasPositiveUnits : Meaning → Type 0
HasPositiveUnits m = (u : units.Unit) → IsPositive (unit_value m u)

-- an operation answers a calculation whose value is the operation on the values
abbrev pub Keeps : Meaning → (Ratio → Ratio → Ratio) → Calc → Calc → Calc → Type 0
Keeps m f a b s = (x y : Ratio) → value m a ≡ Some x → value m b ≡ Some y → value m s ≡ Some (f x y)

pub record ValuesAreKept : Type 0 where
  pub sum : (m : Meaning) (a b s : Calc) → sum_of a b ≡ Ok s → Keeps m add a b s
  pub difference : (m : Meaning) (a b s : Calc) → difference_of a b ≡ Ok s → Keeps m (λ x y. add x (neg y)) a b s
  pub product : (m : Meaning) (a b s : Calc) → product_of a b ≡ Ok s → Keeps m mul a b s
  pub quotient : (m : Meaning) (a b s : Calc) → quotient_of a b ≡ Ok s → (x y r : Ratio) → value m a ≡ Some x → value m b ≡ Some y → reciprocal y ≡ Some r → value m s ≡ Some (mul x r)
  pub least : (m : Meaning) → HasPositiveUnits m → (a b s : Calc) → least_of a b ≡ Ok s → Keeps m lesser a b s
  pub greatest : (m : Meaning) → HasPositiveUnits m → (a b s : Calc) → greatest_of a b ≡ Ok s → Keeps m greater a b s
  pub negative : (m : Meaning) (a : Calc) (x : Ratio) → value m a ≡ Some x → value m (negated a) ≡ Some (neg x)
  pub inverse : (m : Meaning) (a s : Calc) → inverse_of a ≡ Ok s → (x r : Ratio) → value m a ≡ Some x → reciprocal x ≡ Some r → value m s ≡ Some r
