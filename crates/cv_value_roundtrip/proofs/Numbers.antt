-- The text of a number is read as that number, by each quantity that takes its unit.
use Rattle.std.specs.Prelude.{ℕ, Some, Bool, true, false, ◌&&◌, if◌then◌else◌, not, pos, int_lt, List, [], ◌∷◌, encode_utf8_all}
use Rattle.std.proofs.Common.{◌≡◌, refl, sym, ◌∙◌, ap}
use Rattle.cv_spec_text.specs.declared.token.Token.{Token}
use Rattle.cv_spec_ratio.specs.Ratio.{Ratio}
use Rattle.cv_frac.specs.Bounded.{in_bounds}
use Rattle.cv_frac.specs.Literal.{is_number, literal_of}
use Rattle.cv_frac.specs.Text.{frac_text}
use Rattle.cv_calc.specs.declared.unit.Unit as units
use Rattle.cv_calc.specs.declared.unit.Unit.TheVariants.{Number, Percent, Px, Deg, S, Hz, Dppx, Fr}
use Rattle.cv_calc.specs.declared.context.Context.{Context}
use Rattle.cv_calc.specs.declared.calc.Calc.{Calc}
use Rattle.cv_calc.specs.declared.calc.Calc.TheVariants as tree
use Rattle.cv_calc.specs.Names.{unit_with_name, first_named}
use Rattle.cv_calc.specs.Tree.{out-Num}
use Rattle.cv_calc.specs.Types.{unit_type, type_of}
use Rattle.cv_calcread.specs.Literals.{is_in_range, is_read}
use Rattle.cv_simplify.specs.Canonical.{is_canonical}
use Rattle.cv_simplify.specs.Counted.{Counted, counted, is_in_range as is_counted_in_range}
use Rattle.cv_simplify.specs.Simplified.{simp as simp_of}
use Rattle.cv_simplify.specs.Text.{numeric, has_decimal, number_alone}
use Rattle.cv_calc_roundtrip.specs.ReadsBack.{Keeps, ReadsAsNumber, NumberReadsBack, numeral, quotient}
use Rattle.cv_calc_roundtrip.proofs.Equations.{counted_simple}
use Rattle.cv_calc_roundtrip.proofs.Numbers.{numbers_read_back}
use Rattle.cv_calc_roundtrip.proofs.Numerals.{Means, decimal_means}
use Rattle.cv_calc_roundtrip.proofs.Quotients.{number_counted}
use Rattle.cv_numeric.specs.declared.matched.Matched.TheVariants.{No, Fit}
use Rattle.cv_numeric.specs.declared.quantity.Quantity.{Quantity}
use Rattle.cv_numeric.specs.declared.quantity.Range.{Range}
use Rattle.cv_numeric.specs.declared.quantity.Range.TheVariants.{All, NotNegative}
use Rattle.cv_numeric.specs.Matched.{mapped}
use Rattle.cv_numeric.specs.Quantities.{takes}
use Rattle.cv_numeric.specs.Calculations.{simplified, is_within, literal, plain, clamped_calc, taken, read_as, function, alone, calculation}
use Rattle.cv_numeric.proofs.Signs.{signs}
use Rattle.cv_value_roundtrip.specs.Numbers.{IsInside, NumbersAreRead}
use Rattle.cv_value_roundtrip.proofs.Ranges.{kept}

-- ---- literals

pub contrary : (b : Bool) → b ≡ true → b ≡ false → ⊥
contrary true h k = cc
contrary false h k = cc

-- a spelling in range is a number
pub spells_number : (n : List ℕ) → is_in_range n ≡ true → is_number (encode_utf8_all n) ≡ true
unfolding is_in_range
spells_number n h = go (is_number (encode_utf8_all n)) refl
  where
    go : (b : Bool) → is_number (encode_utf8_all n) ≡ b → is_number (encode_utf8_all n) ≡ true
    go true e = e
    go false e = let no : is_read (literal_of (encode_utf8_all n)) ≡ false = rw e refl in absurd (contrary (is_read (literal_of (encode_utf8_all n))) h no)

within_is : (r : Range) (n : List ℕ) (v : Ratio) → Means n v → IsInside r v → is_within r n ≡ true
within_is All n v m h = refl
within_is NotNegative n v m h =
    ap not (signs.negative_is n (spells_number n m.in_range) ∙ ap (λ (w : Ratio). int_lt w.top (pos 0)) m.exact ∙ h)

-- ---- numbers that stay as they are

pub fits : (y : Context) (c d : Calc) → is_counted_in_range y c ≡ true → simp_of y c ≡ d → simplified y c ≡ Fit d
fits y c d h k = rw h (ap Fit k)

number_fits : (y : Context) (v : Ratio) (u : units.Unit) → in_bounds v ≡ true → is_canonical u ≡ true → Keeps u y.basis → simplified y (tree.Num v u) ≡ Fit (tree.Num v u)
number_fits y v u small h k =
    let e : counted y (tree.Num v u) ≡ record { simple = tree.Num v u; in_range = true } = number_counted y v u small h k in
    fits y (tree.Num v u) (tree.Num v u) (ap (λ (c : Counted). c.in_range) e) (sym (counted_simple y (tree.Num v u)) ∙ ap (λ (c : Counted). c.simple) e)

-- one token
token_is : (q : Quantity) (r : Range) (y : Context) (t : units.Unit) (n : List ℕ) → is_canonical t ≡ true → alone q r y (numeric n t) ≡ plain q r y n t
unfolding unit_with_name first_named
token_is q r y Number n h = refl
token_is q r y Percent n h = refl
token_is q r y Px n h = refl
token_is q r y Deg n h = refl
token_is q r y S n h = refl
token_is q r y Hz n h = refl
token_is q r y Dppx n h = refl
token_is q r y Fr n h = refl
token_is q r y _ n h = absurd cc

module _ (q : Quantity) (r : Range) (y : Context) (v : Ratio) (u : units.Unit) (small : in_bounds v ≡ true) (h : is_canonical u ≡ true) (k : Keeps u y.basis) (takes_unit : takes q (unit_type u) ≡ true) (inside : IsInside r v) where
  -- one token
  plain_read : (n : List ℕ) → Means n v → plain q r y n u ≡ Fit (tree.Num v u)
  plain_read n m =
      let e : is_within r n ≡ true = within_is r n v m inside in
      let f : is_in_range n ≡ true = m.in_range in
      rw (takes_unit, e, f) (ap (λ (w : Ratio). simplified y (tree.Num w u)) m.exact ∙ number_fits y v u small h k)

  pub numeral_read : (ts : List Token) (n : List ℕ) → ts ≡ numeric n u ∷ [] → Means n v → calculation q r y ts ≡ Fit (tree.Num v u)
  unfolding calculation
  numeral_read ts n is m = ap (calculation q r y) is ∙ token_is q r y u n h ∙ plain_read n m

  -- a quotient
  clamped_is : clamped_calc r (tree.Num v u) ≡ tree.Num v u
  clamped_is = simp out-Num (ap (λ w. tree.Num w u) (kept r v inside))

  quotient_read : (ts : List Token) → ReadsAsNumber v u ts → function q r y ts ≡ Fit (tree.Num v u)
  quotient_read ts n =
      let typed = n.typed in
      let linear = n.linear in
      ap (read_as q r y) n.read ∙ taken_is n
    where
      taken_is : (n : ReadsAsNumber v u ts) → taken q r y n.tree ≡ Fit (tree.Num v u)
      taken_is n =
          let typed = n.typed in
          let linear = n.linear in
          rw (typed, takes_unit, linear) (ap (mapped (clamped_calc r)) (fits y n.tree (tree.Num v u) (n.in_range y k) (n.simple y k)) ∙ ap Fit clamped_is)

  by_reading : has_decimal v ≡ false → NumberReadsBack v u (number_alone v u) → calculation q r y (number_alone v u) ≡ Fit (tree.Num v u)
  unfolding calculation
  by_reading e (numeral m) = numeral_read (number_alone v u) m.spelling m.one (record { exact = m.exact; in_range = m.in_range })
  by_reading e (quotient n) = is_function e ∙ quotient_read (number_alone v u) n
    where
      is_function : has_decimal v ≡ false → calculation q r y (number_alone v u) ≡ function q r y (number_alone v u)
      is_function e = rw e refl

  -- the text of the number is the number
  pub number_read : calculation q r y (number_alone v u) ≡ Fit (tree.Num v u)
  number_read = go (has_decimal v) refl
    where
      go : (b : Bool) → has_decimal v ≡ b → calculation q r y (number_alone v u) ≡ Fit (tree.Num v u)
      go true e = numeral_read (number_alone v u) (frac_text v) (rw e refl) (decimal_means v small e)
      go false e = by_reading e (numbers_read_back.reads v u small h)

-- ---- quantities that don't take the unit

module _ (q : Quantity) (r : Range) (y : Context) (u : units.Unit) (other : takes q (unit_type u) ≡ false) where
  plain_other : (n : List ℕ) → plain q r y n u ≡ No
  plain_other n = ap (λ b. if b && is_within r n then literal y n u else No) other

  taken_other : (t : Calc) → type_of t ≡ Some (unit_type u) → taken q r y t ≡ No
  taken_other t typed = rw (typed, other) refl

  numeral_other : is_canonical u ≡ true → (ts : List Token) (n : List ℕ) → ts ≡ numeric n u ∷ [] → calculation q r y ts ≡ No
  unfolding calculation
  numeral_other h ts n is = ap (calculation q r y) is ∙ token_is q r y u n h ∙ plain_other n

  module _ (v : Ratio) where
    is_call : has_decimal v ≡ false → calculation q r y (number_alone v u) ≡ function q r y (number_alone v u)
    unfolding calculation
    is_call e = rw e refl

    by_text : is_canonical u ≡ true → has_decimal v ≡ false → NumberReadsBack v u (number_alone v u) → calculation q r y (number_alone v u) ≡ No
    by_text h e (numeral m) = numeral_other h (number_alone v u) m.spelling m.one
    by_text h e (quotient n) = is_call e ∙ ap (read_as q r y) n.read ∙ taken_other n.tree n.typed

    pub number_other : in_bounds v ≡ true → is_canonical u ≡ true → calculation q r y (number_alone v u) ≡ No
    number_other small h = go (has_decimal v) refl
      where
        go : (b : Bool) → has_decimal v ≡ b → calculation q r y (number_alone v u) ≡ No
        go true e = numeral_other h (number_alone v u) (frac_text v) (rw e refl)
        go false e = by_text h e (numbers_read_back.reads v u small h)

pub numbers_are_read : NumbersAreRead
numbers_are_read = record {
  read = λ q r y v u i. number_read q r y v u i.small i.canonical i.keeps i.taken i.inside;
  other = λ q r y v u small canonical other. number_other q r y u other v small canonical;
}
