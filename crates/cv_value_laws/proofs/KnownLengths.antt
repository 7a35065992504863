-- A length or percentage of a known length is one number of px.
use Rattle.std.specs.Prelude.{◌≡◌, ℕ, Bool, true, false, not, ◌&&◌, List, [], ◌∷◌, Option, Some, None, Result, Ok, Err, ◌||◌, encode_utf8_all, if◌then◌else◌}
use Rattle.std.proofs.Common.{refl, sym, ◌∙◌, ap, subst}
use Rattle.cv_spec_ratio.specs.Ratio.{Ratio, mul, zero_ratio}
use Rattle.cv_frac.specs.Literal.{is_number}
use Rattle.cv_spec_text.specs.declared.token.Token.{Token}
use Rattle.cv_spec_text.specs.declared.token.Token.TheVariants as token
use Rattle.cv_calc.specs.declared.unit.Base.{Base}
use Rattle.cv_calc.specs.declared.unit.Base.TheVariants.{Length as LengthBase}
use Rattle.cv_calc.specs.declared.unit.NumType.{NumType}
use Rattle.cv_calc.specs.declared.unit.Unit.{Unit as CalcUnit}
use Rattle.cv_calc.specs.declared.unit.Unit.TheVariants.{Px, Percent, Number as NumberUnit}
use Rattle.cv_calc.specs.declared.context.Basis.TheVariants.{Of}
use Rattle.cv_calc.specs.declared.context.Context.{Context}
use Rattle.cv_calc.specs.declared.calc.Calc.{Calc}
use Rattle.cv_calc.specs.declared.calc.Calc.TheVariants.{Num}
use Rattle.cv_calc.specs.Factor.{hundredth, sizes_of}
use Rattle.cv_calc.specs.Linear.{is_linear, no_hint}
use Rattle.cv_calc.specs.Names.{unit_with_name}
use Rattle.cv_calc.specs.Tree.{out-Num}
use Rattle.cv_calc.specs.Types.{type_of, unit_type, same_powers}
use Rattle.cv_calc.specs.Value.{Meaning, unit_value}
use Rattle.cv_calc.proofs.Values.{value-Num}
use Rattle.cv_calcread.specs.Answer.{answer}
use Rattle.cv_calcread.specs.Literals.{exact_number, is_in_range}
use Rattle.cv_calcread.specs.declared.error.CalcErr.{CalcErr}
use Rattle.cv_calcread.specs.declared.error.CalcErr.TheVariants.{Range as WideRange}
use Rattle.cv_numeric.specs.declared.matched.Matched.{Matched}
use Rattle.cv_numeric.specs.declared.matched.Matched.TheVariants.{No, Out, Fit}
use Rattle.cv_numeric.specs.declared.quantity.Quantity.TheVariants.{LengthPercentage}
use Rattle.cv_numeric.specs.declared.quantity.Range.{Range}
use Rattle.cv_numeric.specs.declared.quantity.Range.TheVariants.{NotNegative}
use Rattle.cv_numeric.specs.Quantities.{takes, takes_some, clamped}
use Rattle.cv_numeric.specs.Quantities as quantities
use Rattle.cv_numeric.specs.Calculations.{simplified, is_null, is_negative, is_within, literal, plain, plain_of, clamped_as, clamped_calc, takes_calc, taken, read_as, alone, calculation}
use Rattle.cv_numeric.specs.Numeric.{zero_length, length_percentage_in}
use Rattle.cv_numeric.proofs.Signs.{signs}
use Rattle.cv_simplify.specs.Agrees.{Agrees, AgreesPercent}
use Rattle.cv_simplify.specs.Counted.{is_in_range as is_counted_in_range}
use Rattle.cv_simplify.specs.Simplified.{simp}
use Rattle.cv_calc_laws.specs.OfType.{HasTypeOf}
use Rattle.cv_calc_laws.specs.Single.{IsOfLength, is_length_percentage}
use Rattle.cv_calc_laws.specs.Single as single
use Rattle.cv_calc_laws.proofs.HeldUnits.{units_are_of_type}
use Rattle.cv_calc_laws.proofs.LengthNumber.{lengths_simplify_to_value, answers_are_lengths}
use Rattle.cv_calc_laws.proofs.Lists.{and_both, false_true}
use Rattle.cv_value_laws.specs.Sizes.{IsNotNegative, HasSizes, SizesAreNumbers}
use Rattle.cv_value_laws.proofs.Fits.{IfFit, of_fit, if_mapped, if_either}
use Rattle.cv_value_laws.proofs.NotNegative.{of_product, of_ratio, of_zero, of_clamped, of_factor}

-- one number of px, with a property
abbrev IsSize : (Ratio → Type 0) → Calc → Type 0
IsSize P c = (v : Ratio) × (c ≡ Num v Px) × P v

abbrev IsAny : Ratio → Type 0
IsAny v = Unit {0}

-- it holds where the test passes
if_tested : {A : Type 0} (P : A → Type 0) (b : Bool) (o p : Matched A) → (b ≡ true → IfFit P o) → IfFit P p → IfFit P (if b then o else p)
if_tested P true o p h k = h refl
if_tested P false o p h k = k

-- the types that are taken are those of lengths and percentages
same_hint : (o : Option Base) → quantities.hints_length o ≡ single.hints_length o
same_hint None = refl
same_hint (Some LengthBase) = refl
same_hint (Some b) = refl

taken_length : (t : NumType) → takes LengthPercentage t ≡ true → is_length_percentage t ≡ true
taken_length t h =
    ap (λ b. same_powers t (unit_type Px) && no_hint t.hint || same_powers t (unit_type Percent) && no_hint t.hint || same_powers t (unit_type Px) && b) (sym (same_hint t.hint)) ∙ h

module _ (x : Context) (whole : Ratio) (part : x.basis ≡ Of whole) where
  meaning : Meaning
  meaning = record { sizes = sizes_of x; percent = mul whole hundredth }

  agrees : Agrees meaning x
  unfolding meaning
  agrees = record { sizes = refl; percent = subst (λ b. AgreesPercent b (mul whole hundredth)) (sym part) refl }

  -- a number in px
  size_of : List ℕ → CalcUnit → Ratio
  size_of n u = mul (exact_number n) (unit_value meaning u)

  number_is : (n : List ℕ) (u : CalcUnit) → takes LengthPercentage (unit_type u) ≡ true → simp x (Num (exact_number n) u) ≡ Num (size_of n u) Px
  unfolding size_of
  number_is n u h =
      let number : HasTypeOf u (Num (exact_number n) u) = units_are_of_type.of_number (exact_number n) u in
      lengths_simplify_to_value x (Num (exact_number n) u)
      record { linear = number.linear; kind = unit_type u; typed = number.kind; taken = taken_length (unit_type u) h; whole = whole; part = part }
      meaning agrees (size_of n u) (value-Num meaning (exact_number n) u)

  of_length : (c : Calc) → takes_calc LengthPercentage c ≡ true → IsOfLength x c
  of_length c h =
      let (taken, linear) = and_both (takes_some LengthPercentage (type_of c)) (is_linear c) h in
      go (type_of c) refl taken linear
    where
      go : (o : Option NumType) → type_of c ≡ o → takes_some LengthPercentage o ≡ true → is_linear c ≡ true → IsOfLength x c
      go None is h linear = absurd (false_true h)
      go (Some t) is h linear = record { linear = linear; kind = t; typed = is; taken = taken_length t h; whole = whole; part = part }

  -- a property of numbers in range: of those that are clamped, and of those that are written
  record InRange (r : Range) (P : Ratio → Type 0) : Type 0 where
    zero_is : P zero_ratio
    clamped_is : (v : Ratio) → P (clamped r v)
    written_is : (n : List ℕ) (u : CalcUnit) → is_within r n ≡ true → is_in_range n ≡ true → P (size_of n u)

  module _ (r : Range) (P : Ratio → Type 0) (range : InRange r P) where
    simplified_size : (c : Calc) → IsSize P (simp x c) → IfFit (IsSize P) (simplified x c)
    simplified_size c h = if_either (IsSize P) (is_counted_in_range x c) (Fit (simp x c)) Out h tt

    literal_size : (n : List ℕ) (u : CalcUnit) → takes LengthPercentage (unit_type u) ≡ true → is_within r n ≡ true → IfFit (IsSize P) (literal x n u)
    literal_size n u h within =
        if_tested (IsSize P) (is_in_range n) (simplified x (Num (exact_number n) u)) Out
        (λ in_range. simplified_size (Num (exact_number n) u) (size_of n u, number_is n u h, range.written_is n u within in_range)) tt

    plain_size : (n : List ℕ) (u : CalcUnit) → IfFit (IsSize P) (plain LengthPercentage r x n u)
    plain_size n u =
        if_tested (IsSize P) (takes LengthPercentage (unit_type u) && is_within r n) (literal x n u) No
        (λ h. let (taken, within) = and_both (takes LengthPercentage (unit_type u)) (is_within r n) h in literal_size n u taken within) tt

    plain_of_size : (n : List ℕ) (o : Option CalcUnit) → IfFit (IsSize P) (plain_of LengthPercentage r x n o)
    plain_of_size n None = tt
    plain_of_size n (Some u) = plain_size n u

    clamped_size : (d : Calc) → IsSize IsAny d → IsSize P (clamped_calc r d)
    clamped_size d (v, is, any) =
        (clamped r v, ap (λ e. clamped_calc r e) is ∙ ap (clamped_as r (Num v Px)) (out-Num v Px), range.clamped_is v)

    read_size : (ts : List Token) (a : Result Calc CalcErr) → answer ts ≡ a → IfFit (IsSize P) (read_as LengthPercentage r x a)
    read_size ts (Ok c) e =
        if_tested (IsSize P) (takes_calc LengthPercentage c) _ No
        (λ h.
        let (v, is) = answers_are_lengths x ts c e (of_length c h) in
        if_mapped (IsSize IsAny) (IsSize P) (clamped_calc r) clamped_size (simplified x c)
        (if_either (IsSize IsAny) (is_counted_in_range x c) (Fit (simp x c)) Out (v, is, tt) tt)) tt
    read_size ts (Err (WideRange place t linear)) e = if_either (IsSize P) (takes LengthPercentage t && linear) Out No tt tt
    read_size ts (Err e) is = tt

    alone_size : (t : Token) → IfFit (IsSize P) (alone LengthPercentage r x t)
    alone_size (token.Number n) = plain_size n NumberUnit
    alone_size (token.Percentage n) = plain_size n Percent
    alone_size (token.Dimension n name) = plain_of_size n (unit_with_name name)
    alone_size t = read_size (t ∷ []) (answer (t ∷ [])) refl

    calculation_size : (ts : List Token) → IfFit (IsSize P) (calculation LengthPercentage r x ts)
    unfolding calculation
    calculation_size [] = read_size [] (answer []) refl
    calculation_size (t ∷ []) = alone_size t
    calculation_size (t ∷ s ∷ ts) = read_size (t ∷ s ∷ ts) (answer (t ∷ s ∷ ts)) refl

    zero_size : (n : List ℕ) → IfFit P (zero_length n)
    zero_size n = if_either P (is_null n) (Fit zero_ratio) No range.zero_is tt

    length_size : (ts : List Token) → IfFit (IsSize P) (length_percentage_in r x ts)
    length_size (token.Number n ∷ []) = if_mapped P (IsSize P) (λ v. Num v Px) (λ v h. (v, refl, h)) (zero_length n) (zero_size n)
    length_size ts = calculation_size ts

  any_range : (r : Range) → InRange r IsAny
  any_range r = record { zero_is = tt; clamped_is = λ v. tt; written_is = λ n u within in_range. tt }

-- ---- the sign

-- what is in range is the spelling of a number
read_number : (n : List ℕ) → is_in_range n ≡ true → is_number (encode_utf8_all n) ≡ true
unfolding is_in_range
read_number n h = go (is_number (encode_utf8_all n)) refl
  where
    go : (b : Bool) → is_number (encode_utf8_all n) ≡ b → is_number (encode_utf8_all n) ≡ true
    go true e = e
    go false e = absurd (false_true (rw e at h))

not_true : (b : Bool) → not b ≡ true → b ≡ false
not_true true e = absurd (false_true e)
not_true false e = refl

written_sign : (n : List ℕ) → is_within NotNegative n ≡ true → is_in_range n ≡ true → IsNotNegative (exact_number n)
written_sign n within in_range = sym (signs.negative_is n (read_number n in_range)) ∙ not_true (is_negative n) within

module _ (x : Context) (whole : Ratio) (sizes : HasSizes x whole) where
  unit_sign : (u : CalcUnit) → IsNotNegative (unit_value (meaning x whole sizes.part) u)
  unfolding meaning
  unit_sign Percent = of_product whole hundredth sizes.whole_is (of_ratio 1 100)
  unit_sign u = of_factor x sizes.em_is sizes.rem_is u

  not_negative_range : InRange x whole sizes.part NotNegative IsNotNegative
  unfolding size_of
  not_negative_range = record {
    zero_is = of_zero;
    clamped_is = of_clamped;
    written_is = λ n u within in_range. of_product (exact_number n) (unit_value (meaning x whole sizes.part) u) (written_sign n within in_range) (unit_sign u);
  }

number : (r : Range) (x : Context) (whole : Ratio) → x.basis ≡ Of whole → (ts : List Token) (c : Calc) → length_percentage_in r x ts ≡ Fit c → (v : Ratio) × (c ≡ Num v Px)
number r x whole part ts c e =
    let (v, is, any) = of_fit (IsSize IsAny) (length_percentage_in r x ts) c (length_size x whole part r IsAny (any_range x whole part r) ts) e in (v, is)

not_negative : (x : Context) (whole : Ratio) → HasSizes x whole → (ts : List Token) (c : Calc) → length_percentage_in NotNegative x ts ≡ Fit c → IsSize IsNotNegative c
not_negative x whole sizes ts c e =
    of_fit (IsSize IsNotNegative) (length_percentage_in NotNegative x ts) c
    (length_size x whole sizes.part NotNegative IsNotNegative (not_negative_range x whole sizes) ts) e

pub sizes_are_numbers : SizesAreNumbers
sizes_are_numbers = record { number = number; not_negative = not_negative }
