-- Lengths and percentages within a range, and numbers within one, read back.
use Rattle.std.specs.Prelude.{ℕ, true, List, [], ◌∷◌}
use Rattle.std.proofs.Common.{◌≡◌, refl, sym, ◌∙◌, ap, subst}
use Rattle.cv_spec_ratio.specs.Ratio.{Ratio}
use Rattle.cv_frac.specs.Bounded.{in_bounds}
use Rattle.cv_spec_text.specs.declared.token.Token.{Token}
use Rattle.cv_spec_text.specs.declared.token.Token.TheVariants as tokens
use Rattle.cv_calc.specs.declared.unit.Unit as units
use Rattle.cv_calc.specs.declared.unit.Unit.TheVariants.{Number, Px, Percent}
use Rattle.cv_calc.specs.declared.context.Context.{Context}
use Rattle.cv_calc.specs.declared.calc.Calc.{Calc}
use Rattle.cv_calc.specs.declared.calc.Calc.TheVariants as tree
use Rattle.cv_calc.specs.declared.calc.Calc.TheViews.{out-Calc}
use Rattle.cv_calc.specs.Factor.{canonical, factor, sizes_of}
use Rattle.cv_calcread.specs.Literals.{exact_number, is_in_range}
use Rattle.cv_simplify.specs.Simplified.{number_in, simp as simp_of}
use Rattle.cv_simplify.specs.Text.{has_decimal, number_alone}
use Rattle.cv_numeric.specs.declared.matched.Matched.TheVariants.{Fit}
use Rattle.cv_numeric.specs.declared.quantity.Quantity.TheVariants as quantity
use Rattle.cv_numeric.specs.declared.quantity.Range.{Range}
use Rattle.cv_numeric.specs.declared.quantity.Range.TheVariants.{All, NotNegative}
use Rattle.cv_numeric.specs.Calculations.{is_within}
use Rattle.cv_numeric.specs.Numeric as numeric
use Rattle.cv_numeric.specs.Numeric.{value_of, zero_length, length_percentage_in}
use Rattle.cv_value_laws.proofs.NotNegative.{of_factor}
use Rattle.cv_value_roundtrip.specs.Numbers.{IsInside, IsNatural, RangesAreKept}
use Rattle.cv_value_roundtrip.specs.ReadsBack.{SizesReadBack}
use Rattle.cv_value_roundtrip.proofs.Given.{Source, one, call, source, simple_inside, mapped_fits, value_small}
use Rattle.cv_value_roundtrip.proofs.Measured.{layer_clamped, number, whole, value_is, product_number, spelt_natural, simple_number, measured_given, measured_read, zero_given}
use Rattle.cv_value_roundtrip.proofs.Mixed.{as_length, is_calculation, size_back}
use Rattle.cv_value_roundtrip.proofs.Numbers.{number_read}
use Rattle.cv_value_roundtrip.proofs.Whole.{integer_given, integer_read}

-- a length that isn't negative isn't so in px, where no font has a negative size
length_natural : (x : Context) → IsNatural x.em → IsNatural x.rem → (v : Ratio) (u : units.Unit) → IsNatural v → IsNatural (value_of (number_in (as_length x) v u))
length_natural x em rem v Percent h = subst IsNatural (sym (value_is v Percent)) h
length_natural x em rem v u h = product_number v (factor (sizes_of (as_length x)) u) (canonical u) h (of_factor (as_length x) em rem u)

written : (r : Range) (x : Context) → IsNatural x.em → IsNatural x.rem → (n : List ℕ) (u : units.Unit) → is_in_range n ≡ true → is_within r n ≡ true →
    IsInside r (value_of (simp_of (as_length x) (tree.Num (exact_number n) u)))
written All x em rem n u small within = tt
written NotNegative x em rem n u small within =
    subst (λ (c : Calc). IsNatural (value_of c)) (sym (simple_number (as_length x) (exact_number n) u)) (length_natural x em rem (exact_number n) u (spelt_natural n small within))

pub sizes_read_back : SizesReadBack
sizes_read_back r x y em rem ts i h = size_back r y x (written r x em rem) ts i h

-- ---- numbers

number_kept : (r : Range) (x y : Context) (ts : List Token) (v : Ratio) → numeric.number r x ts ≡ Fit v → (in_bounds v ≡ true) × (numeric.number r y (number_alone v Number) ≡ Fit v)
number_kept r x y ts v h =
    let given = measured_given quantity.Number r (number refl) x ts v h in
    (given.small, measured_read quantity.Number r y v Number refl tt refl given)

percentage_kept : (x y : Context) (ts : List Token) (v : Ratio) → numeric.percentage x ts ≡ Fit v → (in_bounds v ≡ true) × (numeric.percentage y (number_alone v Percent) ≡ Fit v)
percentage_kept x y ts v h =
    let given = measured_given quantity.Percentage All (whole refl) x ts v h in
    (given.small, measured_read quantity.Percentage All y v Percent refl tt refl given)

size_small : (r : Range) (x : Context) (ts : List Token) (c : Calc) → length_percentage_in r x ts ≡ Fit c → in_bounds (value_of c) ≡ true
size_small r x (tokens.Number n ∷ []) c h =
    let (v, is, same) = mapped_fits (λ (w : Ratio). tree.Num w Px) (zero_length n) c h in
    subst (λ (d : Calc). in_bounds (value_of d) ≡ true) same (ap in_bounds (value_is v Px) ∙ zero_given n v is)
size_small r x ts c h = of_source (source quantity.LengthPercentage r x ts c h)
  where
    of_source : Source quantity.LengthPercentage r x ts c → in_bounds (value_of c) ≡ true
    of_source (one n u takes within small counted same) =
        subst (λ (d : Calc). in_bounds (value_of d) ≡ true) same (value_small (simp_of x (tree.Num (exact_number n) u)) (simple_inside x (tree.Num (exact_number n) u) counted))
    of_source (call t read takes counted same) =
        let inside = layer_clamped r (simp_of x t) (out-Calc (simp_of x t)) refl (value_small (simp_of x t) (simple_inside x t counted)) in
        subst (λ (d : Calc). in_bounds (value_of d) ≡ true) same inside.small

size_read : (r : Range) (y : Context) (v : Ratio) → in_bounds v ≡ true → IsInside r v → length_percentage_in r y (number_alone v Px) ≡ Fit (tree.Num v Px)
size_read r y v small inside = is_calculation r y v Px refl refl (has_decimal v) refl ∙ number_read quantity.LengthPercentage r y v Px small refl tt refl inside

pub ranges_are_kept : RangesAreKept
ranges_are_kept = record {
  number = number_kept;
  percentage = percentage_kept;
  whole_in_bounds = integer_given;
  whole = integer_read;
  size_in_bounds = λ r x ts v h. sym (ap in_bounds (value_is v Px)) ∙ size_small r x ts (tree.Num v Px) h;
  size = size_read;
}
