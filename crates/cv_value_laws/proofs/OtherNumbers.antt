-- Numeric items that are no lengths.
use Rattle.std.specs.Prelude.{◌≡◌, ℕ, Bool, true, false, ◌&&◌, List, [], ◌∷◌, Option, Some, None, Result, Ok, Err, if◌then◌else◌}
use Rattle.std.proofs.Common.{refl, ◌∙◌, ap, ap₂}
use Rattle.cv_frac.specs.Rounded.{half_up}
use Rattle.cv_spec_text.specs.declared.token.Token.{Token}
use Rattle.cv_spec_text.specs.declared.token.Token.TheVariants.{Number, Percentage, Dimension}
use Rattle.cv_calc.specs.declared.unit.NumType.{NumType}
use Rattle.cv_calc.specs.declared.unit.Unit.{Unit}
use Rattle.cv_calc.specs.declared.unit.Unit.TheVariants.{Number as NumberUnit, Percent, Deg, S, Dppx}
use Rattle.cv_calc.specs.declared.context.Context.{Context}
use Rattle.cv_calc.specs.declared.context.Basis.TheVariants as basis
use Rattle.cv_calc.specs.declared.calc.Calc.{Calc}
use Rattle.cv_calc.specs.declared.calc.Calc.TheVariants as tree
use Rattle.cv_calc.specs.Linear.{is_linear, no_hint}
use Rattle.cv_calc.specs.Names.{unit_with_name}
use Rattle.cv_calc.specs.Types.{type_of, unit_type, same_powers}
use Rattle.cv_calcread.specs.declared.error.CalcErr.{CalcErr}
use Rattle.cv_calcread.specs.declared.error.CalcErr.TheVariants.{Range as WideRange}
use Rattle.cv_calcread.specs.Literals.{exact_number, is_in_range}
use Rattle.cv_calcread.specs.Answer.{answer}
use Rattle.cv_numeric.specs.declared.matched.Matched.{Matched}
use Rattle.cv_numeric.specs.declared.matched.Matched.TheVariants.{No, Out, Fit}
use Rattle.cv_numeric.specs.declared.quantity.Quantity.{Quantity}
use Rattle.cv_numeric.specs.declared.quantity.Quantity.TheVariants as quantity
use Rattle.cv_numeric.specs.declared.quantity.Range.{Range}
use Rattle.cv_numeric.specs.declared.quantity.Range.TheVariants.{All, NotNegative}
use Rattle.cv_numeric.specs.Matched.{mapped}
use Rattle.cv_numeric.specs.Quantities.{is_type_of, takes, takes_some}
use Rattle.cv_numeric.specs.Calculations.{simplified, is_within, literal, plain, plain_of, clamped_calc, takes_calc, read_as, alone, calculation}
use Rattle.cv_numeric.specs.Numeric.{with_basis, value_of, measured, integer}
use Rattle.cv_calc_laws.specs.OfType.{HasTypeOf, is_length}
use Rattle.cv_calc_laws.proofs.HeldUnits.{units_are_of_type}
use Rattle.cv_calc_laws.proofs.Lists.{and_both, false_true}
use Rattle.cv_calc_laws.proofs.NoLengths.{contexts_are_ignored}
use Rattle.cv_calc_laws.proofs.UnitTypes.{types_are_told}
use Rattle.cv_value_laws.specs.Contexts.{IgnoresContext, NumbersIgnoreContexts}

-- the quantity takes the type of a unit alone, which is no length
record IsOther (q : Quantity) (u : Unit) : Type 0 where
  type_is : (t : NumType) → takes q t ≡ true → t ≡ unit_type u
  no_length : is_length u ≡ false

told : (u : Unit) (t : NumType) → is_type_of u t ≡ true → t ≡ unit_type u
told u t h = let (powers, hint) = and_both (same_powers t (unit_type u)) (no_hint t.hint) h in types_are_told t u powers hint

-- alike where the test holds, and no match elsewhere
if_alike : {A : Type 0} (b : Bool) (o p : Matched A) → (b ≡ true → o ≡ p) → ◌≡◌ {A = Matched A} (if b then o else No) (if b then p else No)
if_alike true o p h = h refl
if_alike false o p h = refl

module _ (q : Quantity) (u : Unit) (other : IsOther q u) where
  -- what the quantity takes has the type of the unit
  taken_type : (c : Calc) → takes_calc q c ≡ true → HasTypeOf u c
  taken_type c h =
      let (takes_it, linear) = and_both (takes_some q (type_of c)) (is_linear c) h in
      record { linear = linear; kind = go (type_of c) takes_it }
    where
      go : (o : Option NumType) → takes_some q o ≡ true → o ≡ Some (unit_type u)
      go None h = absurd (false_true h)
      go (Some t) h = ap Some (other.type_is t h)

  number_type : (n : List ℕ) (t : Unit) → takes q (unit_type t) ≡ true → HasTypeOf u (tree.Num (exact_number n) t)
  number_type n t h =
      let number : HasTypeOf t (tree.Num (exact_number n) t) = units_are_of_type.of_number (exact_number n) t in
      record { linear = number.linear; kind = number.kind ∙ ap Some (other.type_is (unit_type t) h) }

  module _ (r : Range) (x y : Context) (basis : x.basis ≡ y.basis) where
    same_simplified : (c : Calc) → HasTypeOf u c → simplified x c ≡ simplified y c
    same_simplified c h =
        ap₂ (λ (b : Bool) (d : Calc). if b then Fit d else Out) (contexts_are_ignored.in_range u other.no_length x y basis c h)
        (contexts_are_ignored.simple u other.no_length x y basis c h)

    same_literal : (n : List ℕ) (t : Unit) → HasTypeOf u (tree.Num (exact_number n) t) → literal x n t ≡ literal y n t
    same_literal n t h = ap (λ (o : Matched Calc). if is_in_range n then o else Out) (same_simplified (tree.Num (exact_number n) t) h)

    same_plain : (n : List ℕ) (t : Unit) → plain q r x n t ≡ plain q r y n t
    same_plain n t =
        if_alike (takes q (unit_type t) && is_within r n) (literal x n t) (literal y n t)
        (λ h. same_literal n t (number_type n t (and_both (takes q (unit_type t)) (is_within r n) h).0))

    same_plain_of : (n : List ℕ) (o : Option Unit) → plain_of q r x n o ≡ plain_of q r y n o
    same_plain_of n None = refl
    same_plain_of n (Some t) = same_plain n t

    same_read : (a : Result Calc CalcErr) → read_as q r x a ≡ read_as q r y a
    same_read (Ok c) =
        if_alike (takes_calc q c) (mapped (clamped_calc r) (simplified x c)) (mapped (clamped_calc r) (simplified y c))
        (λ h. ap (mapped (clamped_calc r)) (same_simplified c (taken_type c h)))
    same_read (Err (WideRange place t linear)) = refl
    same_read (Err e) = refl

    same_alone : (t : Token) → alone q r x t ≡ alone q r y t
    same_alone (Number n) = same_plain n NumberUnit
    same_alone (Percentage n) = same_plain n Percent
    same_alone (Dimension n name) = same_plain_of n (unit_with_name name)
    same_alone t = same_read (answer (t ∷ []))

    same_calculation : (ts : List Token) → calculation q r x ts ≡ calculation q r y ts
    unfolding calculation
    same_calculation [] = same_read (answer [])
    same_calculation (t ∷ []) = same_alone t
    same_calculation (t ∷ s ∷ ts) = same_read (answer (t ∷ s ∷ ts))

  same_measured : (r : Range) → IgnoresContext (measured q r)
  same_measured r x y ts = ap (mapped value_of) (same_calculation r (with_basis basis.Plain x) (with_basis basis.Plain y) refl ts)

of_number : IsOther quantity.Number NumberUnit
of_number = record { type_is = told NumberUnit; no_length = refl }

of_percentage : IsOther quantity.Percentage Percent
of_percentage = record { type_is = told Percent; no_length = refl }

of_angle : IsOther quantity.Angle Deg
of_angle = record { type_is = told Deg; no_length = refl }

of_time : IsOther quantity.Time S
of_time = record { type_is = told S; no_length = refl }

of_resolution : IsOther quantity.Resolution Dppx
of_resolution = record { type_is = told Dppx; no_length = refl }

same_integer : IgnoresContext integer
same_integer x y (Number n ∷ []) = refl
same_integer x y ts = ap (mapped half_up) (same_measured quantity.Number NumberUnit of_number All x y ts)

pub numbers_ignore_contexts : NumbersIgnoreContexts
numbers_ignore_contexts = record {
  number_is = same_measured quantity.Number NumberUnit of_number;
  percentage_is = same_measured quantity.Percentage Percent of_percentage All;
  angle_is = same_measured quantity.Angle Deg of_angle All;
  time_is = same_measured quantity.Time S of_time All;
  resolution_is = same_measured quantity.Resolution Dppx of_resolution NotNegative;
  integer_is = same_integer;
}
