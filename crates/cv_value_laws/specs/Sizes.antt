-- A length or percentage of a known length, as a font size is given, is one number of px (CSS Values and Units 4, "Mixing Percentages and
-- Dimensions"), which isn't negative where only such numbers are in range ("Range Restrictions and Range Definition Notation").
use Rattle.std.specs.Prelude.{◌≡◌, false, pos, int_lt, List}
use Rattle.cv_spec_ratio.specs.Ratio.{Ratio}
use Rattle.cv_spec_text.specs.declared.token.Token.{Token}
use Rattle.cv_calc.specs.declared.unit.Unit.TheVariants.{Px}
use Rattle.cv_calc.specs.declared.context.Basis.TheVariants.{Of}
use Rattle.cv_calc.specs.declared.context.Context.{Context}
use Rattle.cv_calc.specs.declared.calc.Calc.{Calc}
use Rattle.cv_calc.specs.declared.calc.Calc.TheVariants.{Num}
use Rattle.cv_numeric.specs.declared.matched.Matched.TheVariants.{Fit}
use Rattle.cv_numeric.specs.declared.quantity.Range.{Range}
use Rattle.cv_numeric.specs.declared.quantity.Range.TheVariants.{NotNegative}
use Rattle.cv_numeric.specs.Numeric.{length_percentage_in}

abbrev pub IsNotNegative : Ratio → Type 0
IsNotNegative v = int_lt v.top (pos 0) ≡ false

-- percentages are parts of a length that isn't negative, and no font has a negative size
pub record HasSizes (x : Context) (whole : Ratio) : Type 0 where
  pub part : x.basis ≡ Of whole
  pub whole_is : IsNotNegative whole
  pub em_is : IsNotNegative x.em
  pub rem_is : IsNotNegative x.rem

pub record SizesAreNumbers : Type 0 where
  pub number : (r : Range) (x : Context) (whole : Ratio) → x.basis ≡ Of whole → (ts : List Token) (c : Calc) → length_percentage_in r x ts ≡ Fit c → (v : Ratio) × (c ≡ Num v Px)
  pub not_negative : (x : Context) (whole : Ratio) → HasSizes x whole → (ts : List Token) (c : Calc) → length_percentage_in NotNegative x ts ≡ Fit c → (v : Ratio) × (c ≡ Num v Px) × IsNotNegative v
