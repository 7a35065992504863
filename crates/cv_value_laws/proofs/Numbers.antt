-- Numeric items without font units.
use Rattle.std.specs.Prelude.{◌≡◌, ℕ, Bool, true, false, not, ◌&&◌, List, [], ◌∷◌, Option, Some, None, Result, Ok, Err, if◌then◌else◌}
use Rattle.std.proofs.Common.{refl, ap, ap₂}
use Rattle.cv_frac.specs.Rounded.{half_up}
use Rattle.cv_spec_text.specs.declared.token.Token.{Token}
use Rattle.cv_spec_text.specs.declared.token.Token.TheVariants.{Number, Percentage, Dimension}
use Rattle.cv_calc.specs.declared.unit.Unit.{Unit}
use Rattle.cv_calc.specs.declared.unit.Unit.TheVariants.{Number as NumberUnit, Percent}
use Rattle.cv_calc.specs.declared.context.Context.{Context}
use Rattle.cv_calc.specs.declared.context.Basis.{Basis}
use Rattle.cv_calc.specs.declared.context.Basis.TheVariants as basis
use Rattle.cv_calc.specs.declared.calc.Calc.{Calc}
use Rattle.cv_calc.specs.declared.calc.Calc.TheVariants as tree
use Rattle.cv_calc.specs.Names.{unit_with_name}
use Rattle.cv_calc.specs.Types.{unit_type}
use Rattle.cv_calcread.specs.declared.error.CalcErr.{CalcErr}
use Rattle.cv_calcread.specs.declared.error.CalcErr.TheVariants.{Range as WideRange}
use Rattle.cv_calcread.specs.Literals.{exact_number, is_in_range}
use Rattle.cv_calcread.specs.Answer.{answer}
use Rattle.cv_numeric.specs.declared.matched.Matched.{Matched}
use Rattle.cv_numeric.specs.declared.matched.Matched.TheVariants.{No, Out, Fit}
use Rattle.cv_numeric.specs.declared.quantity.Quantity.{Quantity}
use Rattle.cv_numeric.specs.declared.quantity.Quantity.TheVariants as quantity
use Rattle.cv_numeric.specs.declared.quantity.Range.{Range}
use Rattle.cv_numeric.specs.declared.quantity.Range.TheVariants.{All, NotNegative}
use Rattle.cv_numeric.specs.Matched.{mapped}
use Rattle.cv_numeric.specs.Quantities.{takes}
use Rattle.cv_numeric.specs.Calculations.{simplified, is_within, plain, plain_of, clamped_calc, takes_calc, read_as, function, alone, calculation}
use Rattle.cv_numeric.specs.Numeric.{with_basis, value_of, measured, length, length_percentage_in, integer}
use Rattle.cv_calc_laws.specs.Fonts.{is_font_unit, is_other_unit, has_no_font_unit, holds_no_font_unit, DifferInFonts}
use Rattle.cv_calc_laws.specs.Units.{passes_if}
use Rattle.cv_calc_laws.proofs.Contexts.{simplifies_alike}
use Rattle.cv_calc_laws.proofs.Lists.{and_both, false_true}
use Rattle.cv_calc_laws.proofs.ReadUnits.{units_are_read}
use Rattle.cv_value_laws.specs.Contexts.{NumbersReadAlike}

not_true : (b : Bool) → not b ≡ true → b ≡ false
not_true true e = absurd (false_true e)
not_true false e = refl

module _ (root : Bool) (x y : Context) (alike : DifferInFonts root x y) where
  same_simplified : (c : Calc) → has_no_font_unit root c ≡ true → simplified x c ≡ simplified y c
  same_simplified c h = ap₂ (λ (b : Bool) (d : Calc). if b then Fit d else Out) (simplifies_alike.in_range root x y alike c h) (simplifies_alike.simple root x y alike c h)

  module _ (q : Quantity) (r : Range) where
    same_plain : (n : List ℕ) (u : Unit) → is_font_unit root u ≡ false → plain q r x n u ≡ plain q r y n u
    same_plain n u h =
        ap (λ (o : Matched Calc). if takes q (unit_type u) && is_within r n then (if is_in_range n then o else Out) else No)
        (same_simplified (tree.Num (exact_number n) u) (units_are_read.of_number root (exact_number n) u h))

    same_plain_of : (n : List ℕ) (o : Option Unit) → passes_if (is_other_unit root) o ≡ true → plain_of q r x n o ≡ plain_of q r y n o
    same_plain_of n None h = refl
    same_plain_of n (Some u) h = same_plain n u (not_true (is_font_unit root u) h)

    same_read : (a : Result Calc CalcErr) → ((c : Calc) → a ≡ Ok c → has_no_font_unit root c ≡ true) → read_as q r x a ≡ read_as q r y a
    same_read (Ok c) h = ap (λ (o : Matched Calc). if takes_calc q c then mapped (clamped_calc r) o else No) (same_simplified c (h c refl))
    same_read (Err (WideRange place t linear)) h = refl
    same_read (Err e) h = refl

    same_function : (ts : List Token) → holds_no_font_unit root ts ≡ true → function q r x ts ≡ function q r y ts
    same_function ts h = same_read (answer ts) (λ c e. units_are_read.of_answer root ts c h e)

    same_alone : (t : Token) → holds_no_font_unit root (t ∷ []) ≡ true → alone q r x t ≡ alone q r y t
    same_alone (Number n) h = same_plain n NumberUnit refl
    same_alone (Percentage n) h = same_plain n Percent refl
    same_alone (Dimension n name) h = same_plain_of n (unit_with_name name) (and_both (passes_if (is_other_unit root) (unit_with_name name)) true h).0
    same_alone t h = same_function (t ∷ []) h

    same_calculation : (ts : List Token) → holds_no_font_unit root ts ≡ true → calculation q r x ts ≡ calculation q r y ts
    unfolding calculation
    same_calculation [] h = same_function [] h
    same_calculation (t ∷ []) h = same_alone t h
    same_calculation (t ∷ s ∷ ts) h = same_function (t ∷ s ∷ ts) h

based : (root : Bool) (x y : Context) (b : Basis) → DifferInFonts root x y → DifferInFonts root (with_basis b x) (with_basis b y)
based root x y b alike = record { rem = alike.rem; width = alike.width; height = alike.height; basis = refl }

module _ (root : Bool) (x y : Context) (alike : DifferInFonts root x y) where
  same_measured : (q : Quantity) (r : Range) (ts : List Token) → holds_no_font_unit root ts ≡ true → measured q r x ts ≡ measured q r y ts
  same_measured q r ts h =
      ap (mapped value_of) (same_calculation root (with_basis basis.Plain x) (with_basis basis.Plain y) (based root x y basis.Plain alike) q r ts h)

  same_length : (ts : List Token) → holds_no_font_unit root ts ≡ true → length x ts ≡ length y ts
  same_length (Number n ∷ []) h = refl
  same_length ts h = same_measured quantity.Length All ts h

  same_length_percentage : (r : Range) (ts : List Token) → holds_no_font_unit root ts ≡ true → length_percentage_in r x ts ≡ length_percentage_in r y ts
  same_length_percentage r (Number n ∷ []) h = refl
  same_length_percentage r ts h = same_calculation root x y alike quantity.LengthPercentage r ts h

  same_integer : (ts : List Token) → holds_no_font_unit root ts ≡ true → integer x ts ≡ integer y ts
  same_integer (Number n ∷ []) h = refl
  same_integer ts h = ap (mapped half_up) (same_measured quantity.Number All ts h)

pub numbers_read_alike : NumbersReadAlike
numbers_read_alike = record {
  number_is = λ r root x y alike ts h. same_measured root x y alike quantity.Number r ts h;
  percentage_is = λ root x y alike ts h. same_measured root x y alike quantity.Percentage All ts h;
  angle_is = λ root x y alike ts h. same_measured root x y alike quantity.Angle All ts h;
  time_is = λ root x y alike ts h. same_measured root x y alike quantity.Time All ts h;
  resolution_is = λ root x y alike ts h. same_measured root x y alike quantity.Resolution NotNegative ts h;
  length_is = same_length;
  length_percentage_is = λ r root x y alike ts h. same_length_percentage root (with_basis basis.Length x) (with_basis basis.Length y) (based root x y basis.Length alike) r ts h;
  integer_is = same_integer;
}
