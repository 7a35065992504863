-- A calculation that is refused for a divisor has it at the place that is told.
use Rattle.std.specs.Prelude.{Bool, true, false, ◌-◌, List, [], ◌∷◌, ◌++◌, length, map, Result, Ok, Err, Option, Some, None, if◌then◌else◌}
use Rattle.std.specs.List.{AllByRecursion}
use Rattle.std.proofs.Common.{◌≡◌, refl, sym, ◌∙◌, ap, ap₂, ℕ}
use Rattle.std.proofs.lemmas.List.Elements.{All-from_recursion}
use Rattle.cv_spec_ratio.specs.Ratio.{Ratio}
use Rattle.cv_spec_text.specs.declared.token.Token.{Token}
use Rattle.cv_exact.specs.Zero.{is_zero}
use Rattle.cv_calc.specs.declared.unit.NumType.{NumType}
use Rattle.cv_calc.specs.declared.calc.Calc.{Calc}
use Rattle.cv_calc.specs.Linear.{is_linear}
use Rattle.cv_calc.specs.Numbers.{Figure, figure, measured, undefined, inside, outside}
use Rattle.cv_calc.specs.Types.{type_of}
use Rattle.cv_calcread.specs.Answer.{answer, after_tree, typed, after_type, after_literals, after_range, wide_place, divisor_place, divisor_places, is_marked}
use Rattle.cv_calcread.specs.Divisors.{Divisor, value_divisors, closed}
use Rattle.cv_calcread.specs.Figures.{evaluated, mark_of}
use Rattle.cv_calcread.specs.Grammar.{ReadsAs}
use Rattle.cv_calcread.specs.Literals.{exact_number}
use Rattle.cv_calcread.specs.Reading.{read}
use Rattle.cv_calcread.specs.declared.error.CalcErr.{CalcErr}
use Rattle.cv_calcread.specs.declared.error.CalcErr.TheVariants.{NoCalc, NoType, Range, DivZero}
use Rattle.cv_calcread.specs.declared.figure.Mark.{Mark}
use Rattle.cv_calcread.specs.declared.figure.Mark.TheVariants.{Fine, Far, Null}
use Rattle.cv_calcread.proofs.DivisorPlaces.{divisors_have_places}
use Rattle.cv_calcread.proofs.Whole.{grammar_is_read}
use Rattle.cv_calc_laws.specs.Refused.{IsNull, IsOutside, RefusedFor, RefusalsAreDivisors}
use Rattle.cv_calc_laws.proofs.Lists.{none_some, some_same, false_true}

-- ---- the first that passes

record Found (D : Type 0) (passes : D → Bool) (place : D → ℕ) (ds : List D) (p : ℕ) : Type 0 where
  before : List D
  here : D
  after : List D
  among : ds ≡ before ++ here ∷ after
  stands : p ≡ place here
  is : passes here ≡ true
  first : AllByRecursion (λ d. passes d ≡ false) before

found : (D : Type 0) (passes : Mark → Bool) (mark : D → Mark) (place : D → ℕ) (ds : List D) (p : ℕ) → divisor_place passes (map mark ds) (map place ds) ≡ Some p → Found D (λ d. passes (mark d)) place ds p
unfolding divisor_place
found D passes mark place [] p e = absurd (none_some p e)
found D passes mark place (d ∷ ds) p e = go (passes (mark d)) refl e (λ k. found D passes mark place ds p k)
  where
    go : (b : Bool) → passes (mark d) ≡ b → (if b then Some (place d) else divisor_place passes (map mark ds) (map place ds)) ≡ Some p →
        (divisor_place passes (map mark ds) (map place ds) ≡ Some p → Found D (λ d. passes (mark d)) place ds p) → Found D (λ d. passes (mark d)) place (d ∷ ds) p
    go true is e later = record { before = []; here = d; after = ds; among = refl; stands = sym (some_same (place d) p e); is = is; first = tt }
    go false is e later =
        let f = later e in
        record { before = d ∷ f.before; here = f.here; after = f.after; among = ap (λ es. d ∷ es) f.among; stands = f.stands; is = f.is; first = (is, f.first) }

-- ---- what a mark tells of a figure

null_is : (g : Figure) → is_marked Null (mark_of g) ≡ true → IsNull g
null_is measured e = absurd (false_true e)
null_is undefined e = absurd (false_true e)
null_is (inside r) e = go (is_zero r) refl e
  where
    go : (b : Bool) → is_zero r ≡ b → is_marked Null (if b then Null else Fine) ≡ true → IsNull (inside r)
    go true is e = (r, refl, is)
    go false is e = absurd (false_true e)
null_is (outside r) e = absurd (false_true e)

same_inside : (r s : Ratio) → inside r ≡ inside s → r ≡ s
same_inside r s e = cc

null_not : (g : Figure) → is_marked Null (mark_of g) ≡ false → IsNull g → ⊥
null_not g e n = false_true (sym e ∙ ap (λ h. is_marked Null (mark_of h)) n.1 ∙ ap (λ b. is_marked Null (if b then Null else Fine)) n.2)

outside_is : (g : Figure) → is_marked Far (mark_of g) ≡ true → IsOutside g
outside_is measured e = absurd (false_true e)
outside_is undefined e = absurd (false_true e)
outside_is (inside r) e = go (is_zero r) e
  where
    go : (b : Bool) → is_marked Far (if b then Null else Fine) ≡ true → IsOutside (inside r)
    go true e = absurd (false_true e)
    go false e = absurd (false_true e)
outside_is (outside r) e = (r, refl)

outside_not : (g : Figure) → is_marked Far (mark_of g) ≡ false → IsOutside g → ⊥
outside_not g e n = false_true (sym e ∙ ap (λ h. is_marked Far (mark_of h)) n.1)

-- ---- a divisor of a kind at a place

module _ (Kind : Figure → Type 0) (passes : Mark → Bool) (yes : (g : Figure) → passes (mark_of g) ≡ true → Kind g) (no : (g : Figure) → passes (mark_of g) ≡ false → Kind g → ⊥) where
  all_not : (ds : List (Divisor exact_number)) → AllByRecursion (λ (d : Divisor exact_number). passes (mark_of (figure d.value)) ≡ false) ds → AllByRecursion (λ (d : Divisor exact_number). Kind (figure d.value) → ⊥) ds
  all_not [] h = tt
  all_not (d ∷ ds) h = (no (figure d.value) h.0, all_not ds h.1)

  refused_for : (ts : List Token) (c : Calc) (p : ℕ) → read exact_number ts ≡ Some c → divisor_place passes (evaluated c).marks (divisor_places 0 ts) ≡ Some p → RefusedFor Kind ts p
  refused_for ts c p is e =
      let r : ReadsAs exact_number ts c = grammar_is_read.only exact_number ts c is in
      let ds = value_divisors exact_number r.1.1 in
      let f : Found (Divisor exact_number) (λ d. passes (mark_of (figure d.value))) (λ d. length (closed ts r.1.0) - length d.tokens) ds p =
      found (Divisor exact_number) passes (λ d. mark_of (figure d.value)) (λ d. length (closed ts r.1.0) - length d.tokens) ds p
      (sym (ap₂ (divisor_place passes) (divisors_have_places.marks exact_number _ _ c r.1.1) (divisors_have_places.places exact_number ts r.1.0 c r.1.1)) ∙ e) in
      record {
        value = c;
        missing = r.1.0;
        reads = r.1.1;
        before = f.before;
        divisor = f.here;
        after = f.after;
        among = f.among;
        stands = f.stands;
        is = yes (figure f.here.value) f.is;
        first = All-from_recursion (λ (d : Divisor exact_number). Kind (figure d.value) → ⊥) f.before (all_not f.before f.first);
      }

-- ---- the answer

no_answer : (e : CalcErr) (c : Calc) → ◌≡◌ {A = Result Calc CalcErr} (Ok c) (Err e) → ⊥
no_answer e c h = cc

same_refusal : (d e : CalcErr) → ◌≡◌ {A = Result Calc CalcErr} (Err d) (Err e) → d ≡ e
same_refusal d e h = cc

module _ (ts : List Token) (p : ℕ) (d : Calc) (is : read exact_number ts ≡ Some d) where
  zero_places : (o : Option ℕ) → divisor_place (is_marked Null) (evaluated d).marks (divisor_places 0 ts) ≡ o → after_range d o ≡ Err (DivZero p) → RefusedFor IsNull ts p
  zero_places None null e = absurd (no_answer _ d e)
  zero_places (Some n) null e =
      let same : n ≡ p = number n p (same_refusal (DivZero n) (DivZero p) e) in
      refused_for IsNull (is_marked Null) null_is null_not ts d p is (null ∙ ap Some same)
    where
      number : (n p : ℕ) → DivZero n ≡ DivZero p → n ≡ p
      number n p e = cc

  zero_far : (t : NumType) (o : Option ℕ) → after_literals (divisor_places 0 ts) (evaluated d).marks d t o ≡ Err (DivZero p) → RefusedFor IsNull ts p
  zero_far t (Some n) e = absurd (other (same_refusal (Range n t (is_linear d)) (DivZero p) e))
    where
      other : Range n t (is_linear d) ≡ DivZero p → ⊥
      other e = cc
  zero_far t None e = zero_places (divisor_place (is_marked Null) (evaluated d).marks (divisor_places 0 ts)) refl e

  zero_literal : (t : NumType) (o : Option ℕ) → after_type ts d t o ≡ Err (DivZero p) → RefusedFor IsNull ts p
  zero_literal t (Some n) e = absurd (other (same_refusal (Range n t (is_linear d)) (DivZero p) e))
    where
      other : Range n t (is_linear d) ≡ DivZero p → ⊥
      other e = cc
  zero_literal t None e = zero_far t (divisor_place (is_marked Far) (evaluated d).marks (divisor_places 0 ts)) e

  zero_type : (o : Option NumType) → typed ts d o ≡ Err (DivZero p) → RefusedFor IsNull ts p
  zero_type None e = absurd (other (same_refusal NoType (DivZero p) e))
    where
      other : NoType ≡ DivZero p → ⊥
      other e = cc
  zero_type (Some t) e = zero_literal t (wide_place 0 ts) e

  module _ (u : NumType) (b : Bool) (narrow : wide_place 0 ts ≡ None) where
    range_places : (o : Option ℕ) → after_range d o ≡ Err (Range p u b) → ⊥
    range_places None e = no_answer _ d e
    range_places (Some n) e = other n (same_refusal (DivZero n) (Range p u b) e)
      where
        other : (n : ℕ) → DivZero n ≡ Range p u b → ⊥
        other n e = cc

    range_far : (t : NumType) (o : Option ℕ) → divisor_place (is_marked Far) (evaluated d).marks (divisor_places 0 ts) ≡ o → after_literals (divisor_places 0 ts) (evaluated d).marks d t o ≡ Err (Range p u b) → RefusedFor IsOutside ts p
    range_far t None far e = absurd (range_places (divisor_place (is_marked Null) (evaluated d).marks (divisor_places 0 ts)) e)
    range_far t (Some n) far e =
        let same : n ≡ p = number n t (is_linear d) (same_refusal (Range n t (is_linear d)) (Range p u b) e) in
        refused_for IsOutside (is_marked Far) outside_is outside_not ts d p is (far ∙ ap Some same)
      where
        number : (n : ℕ) (t : NumType) (l : Bool) → Range n t l ≡ Range p u b → n ≡ p
        number n t l e = cc

    range_literal : (t : NumType) → after_type ts d t (wide_place 0 ts) ≡ Err (Range p u b) → RefusedFor IsOutside ts p
    range_literal t e = range_far t (divisor_place (is_marked Far) (evaluated d).marks (divisor_places 0 ts)) refl (sym (ap (after_type ts d t) narrow) ∙ e)

    range_type : (o : Option NumType) → typed ts d o ≡ Err (Range p u b) → RefusedFor IsOutside ts p
    range_type None e = absurd (other (same_refusal NoType (Range p u b) e))
      where
        other : NoType ≡ Range p u b → ⊥
        other e = cc
    range_type (Some t) e = range_literal t e

no_tree : (e : CalcErr) → (NoCalc ≡ e → ⊥) → ◌≡◌ {A = Result Calc CalcErr} (Err NoCalc) (Err e) → ⊥
no_tree e h k = h (same_refusal NoCalc e k)

zero_refused : (ts : List Token) (p : ℕ) → answer ts ≡ Err (DivZero p) → RefusedFor IsNull ts p
unfolding answer
zero_refused ts p e = go (read exact_number ts) refl e
  where
    other : NoCalc ≡ DivZero p → ⊥
    other e = cc

    go : (o : Option Calc) → read exact_number ts ≡ o → after_tree ts o ≡ Err (DivZero p) → RefusedFor IsNull ts p
    go None is e = absurd (no_tree (DivZero p) other e)
    go (Some d) is e = zero_type ts p d is (type_of d) e

range_refused : (ts : List Token) (p : ℕ) (t : NumType) (b : Bool) → wide_place 0 ts ≡ None → answer ts ≡ Err (Range p t b) → RefusedFor IsOutside ts p
unfolding answer
range_refused ts p t b narrow e = go (read exact_number ts) refl e
  where
    other : NoCalc ≡ Range p t b → ⊥
    other e = cc

    go : (o : Option Calc) → read exact_number ts ≡ o → after_tree ts o ≡ Err (Range p t b) → RefusedFor IsOutside ts p
    go None is e = absurd (no_tree (Range p t b) other e)
    go (Some d) is e = range_type ts p d is t b narrow (type_of d) e

pub refusals_are_divisors : RefusalsAreDivisors
refusals_are_divisors = record { zero = zero_refused; range = range_refused }
