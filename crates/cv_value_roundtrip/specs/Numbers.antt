-- The text of a number is that number to each quantity that takes its unit (CSSOM, "Serializing CSS Values"; CSS Values and Units 4,
-- "Serialization" and "Range Restrictions and Range Definition Notation").
use Rattle.std.specs.Prelude.{◌≡◌, ℤ, unsigned_abs, ◌<◌, ◌^◌, List, [], ◌∷◌, true, false, pos, int_lt}
use Rattle.cv_spec_ratio.specs.Ratio.{Ratio}
use Rattle.cv_frac.specs.Bounded.{in_bounds}
use Rattle.std.specs.Fmt.{signed_decimal}
use Rattle.cv_spec_text.specs.declared.token.Token.{Token}
use Rattle.cv_spec_text.specs.declared.token.Token.TheVariants as token
use Rattle.cv_calc.specs.declared.unit.Unit as units
use Rattle.cv_calc.specs.declared.unit.Unit.TheVariants.{Px, Percent, Number}
use Rattle.cv_calc.specs.declared.context.Context.{Context}
use Rattle.cv_calc.specs.declared.calc.Calc.TheVariants.{Num}
use Rattle.cv_calc.specs.Types.{unit_type}
use Rattle.cv_simplify.specs.Canonical.{is_canonical}
use Rattle.cv_simplify.specs.Text.{number_alone}
use Rattle.cv_calc_roundtrip.specs.ReadsBack.{Keeps}
use Rattle.cv_numeric.specs.declared.matched.Matched.TheVariants.{No, Fit}
use Rattle.cv_numeric.specs.declared.quantity.Quantity.{Quantity}
use Rattle.cv_numeric.specs.declared.quantity.Range.{Range}
use Rattle.cv_numeric.specs.declared.quantity.Range.TheVariants.{All, NotNegative}
use Rattle.cv_numeric.specs.Quantities.{takes}
use Rattle.cv_numeric.specs.Calculations.{calculation}
use Rattle.cv_numeric.specs.Numeric.{number, percentage, integer, length_percentage_in}

-- the fraction isn't below 0
abbrev pub IsNatural : Ratio → Type 0
IsNatural v = int_lt v.top (pos 0) ≡ false

-- the fraction lies in the range
abbrev pub IsInside : Range → Ratio → Type 0
IsInside All v = Unit {0}
IsInside NotNegative v = IsNatural v

-- the number is one of the quantity, in bounds, within the range, and in a unit that stands for itself
pub record IsOf (q : Quantity) (r : Range) (y : Context) (v : Ratio) (u : units.Unit) : Type 0 where
  pub small : in_bounds v ≡ true
  pub canonical : is_canonical u ≡ true
  pub keeps : Keeps u y.basis
  pub taken : takes q (unit_type u) ≡ true
  pub inside : IsInside r v

pub record NumbersAreRead : Type 0 where
  pub read : (q : Quantity) (r : Range) (y : Context) (v : Ratio) (u : units.Unit) → IsOf q r y v u → calculation q r y (number_alone v u) ≡ Fit (Num v u)
  -- and no match to one that doesn't
  pub other : (q : Quantity) (r : Range) (y : Context) (v : Ratio) (u : units.Unit) → in_bounds v ≡ true → is_canonical u ≡ true → takes q (unit_type u) ≡ false → calculation q r y (number_alone v u) ≡ No

-- what a number within a range is reads back, and what a percentage, a whole number and a length is, where it is a number of px
pub record RangesAreKept : Type 0 where
  pub number : (r : Range) (x y : Context) (ts : List Token) (v : Ratio) → number r x ts ≡ Fit v → (in_bounds v ≡ true) × (number r y (number_alone v Number) ≡ Fit v)
  pub percentage : (x y : Context) (ts : List Token) (v : Ratio) → percentage x ts ≡ Fit v → (in_bounds v ≡ true) × (percentage y (number_alone v Percent) ≡ Fit v)
  pub whole_in_bounds : (x : Context) (ts : List Token) (z : ℤ) → integer x ts ≡ Fit z → unsigned_abs z < 2 ^ 63
  pub whole : (y : Context) (z : ℤ) → unsigned_abs z < 2 ^ 63 → integer y (token.Number (signed_decimal z) ∷ []) ≡ Fit z
  pub size_in_bounds : (r : Range) (x : Context) (ts : List Token) (v : Ratio) → length_percentage_in r x ts ≡ Fit (Num v Px) → in_bounds v ≡ true
  pub size : (r : Range) (y : Context) (v : Ratio) → in_bounds v ≡ true → IsInside r v → length_percentage_in r y (number_alone v Px) ≡ Fit (Num v Px)
