-- What is read in place of a node has its type, its value and its divisors.
use Rattle.std.specs.Prelude.{ℕ, zero, suc, Bool, true, false, ◌<◌, ◌^◌, pos, negsuc, unsigned_abs, [], ◌∷◌, ◌++◌, Option, Some, None, option_map, if◌then◌else◌}
use Rattle.std.specs.Option.{option_and_then}
use Rattle.std.specs.Ordering.{int_eq}
use Rattle.std.proofs.Common.{◌≡◌, refl, sym, ◌∙◌, ap, ap₂, arith}
use Rattle.std.proofs.lemmas.Bool.Decides.{Decides-int_eq}
use Rattle.std.proofs.lemmas.List.{append-nil}
use Rattle.cv_spec_ratio.specs.Ratio.{Ratio, ratio, add, mul, neg, reciprocal, zero_ratio, one_ratio}
use Rattle.cv_spec_ratio.specs.Code.{ratio_self}
use Rattle.cv_spec_ratio.proofs.Laws.{add_comm, add_zero, mul_comm_ratio, mul-assoc, mul_one, neg-neg, neg-mul, whole-part}
use Rattle.cv_spec_ratio.proofs.Pairs.{neg_pair, reciprocal_pair}
use Rattle.cv_spec_ratio.proofs.Whole.{whole_top}
use Rattle.cv_frac.specs.Bounded.{in_bounds}
use Rattle.cv_calc.specs.declared.unit.Unit as units
use Rattle.cv_calc.specs.declared.unit.Unit.TheVariants.{Number}
use Rattle.cv_calc.specs.declared.unit.NumType.{NumType}
use Rattle.cv_calc.specs.declared.calc.Calc.{Calc}
use Rattle.cv_calc.specs.declared.calc.Calc.TheVariants.{Num, Sum, Product, Negate, Invert}
use Rattle.cv_calc.specs.Unit.{same_unit}
use Rattle.cv_calc.specs.Types.{sum_type, product_type, negated as negated_type, type_of}
use Rattle.cv_calc.specs.Value.{Meaning, unit_value, both, sum_of, product_of, inverse_of, value}
use Rattle.cv_calc.specs.Numbers.{Figure, measured, undefined, inside, outside, figure_of, multiplied, negated, inside_or, inverted, figure}
use Rattle.cv_calc.proofs.Values.{value-Num, value-Sum, value-Negate, value-Invert}
use Rattle.cv_calcread.specs.Figures.{mark_of}
use Rattle.cv_calc_roundtrip.proofs.Numerals.{whole_inside}
use Rattle.cv_calc_roundtrip.proofs.Quotients.{quotient}
use Rattle.cv_om_roundtrip.proofs.FigureSteps.{figure-Num, figure-Sum, figure-Product, figure-Negate, figure-Invert, IsSound, joined_first}
use Rattle.cv_om_roundtrip.proofs.Hints.{single_product, behind_number, quotient_type}
use Rattle.cv_om_roundtrip.proofs.Marks.{grave, marks, marks_Num, marks_Sum, marks_Product, marks_Negate, marks_Invert}
use Rattle.cv_om_roundtrip.proofs.Sames.{type-Num, type-Sum, type-Product, type-Negate, type-Invert, value-Product, Same}
use Rattle.cv_om_roundtrip.proofs.Sound.{neg_inside}

zero_first : (r : Ratio) → add zero_ratio r ≡ r
zero_first r = add_comm zero_ratio r ∙ add_zero r

one_first : (r : Ratio) → mul one_ratio r ≡ r
one_first r = mul_comm_ratio one_ratio r ∙ mul_one r

figure_inside : (r : Ratio) → in_bounds r ≡ true → figure_of r ≡ inside r
figure_inside r h = ap (λ b. if b then inside r else outside r) h

-- ---- sums and products of one

one_type : (o : Option NumType) → o ≡ sum_type (o ∷ [])
unfolding sum_type
one_type o = refl

pub one_term : (d : Calc) → IsSound (figure d) → Same (Sum (d ∷ [])) d
one_term d s = record {
  typed = one_type (type_of d) ∙ sym (type-Sum (d ∷ []));
  valued = λ m. valued (value m d) ∙ sym (value-Sum m (d ∷ []));
  figured = sym (figure-Sum (d ∷ []) ∙ joined_first add zero_ratio zero_first (figure d) s);
  marked = ap grave (sym (marks_Sum (d ∷ []) ∙ append-nil (marks d)));
}
  where
    valued : (o : Option Ratio) → o ≡ sum_of (o ∷ [])
    valued None = refl
    valued (Some r) = ap Some (sym (add_zero r))

pub one_factor : (d : Calc) (t : NumType) → type_of d ≡ Some t → IsSound (figure d) → Same (Product (d ∷ [])) d
one_factor d t e s = record {
  typed = sym (type-Product (d ∷ []) ∙ single_product d t e);
  valued = λ m. valued (value m d) ∙ sym (value-Product m (d ∷ []));
  figured = sym (figure-Product (d ∷ []) ∙ joined_first mul one_ratio one_first (figure d) s);
  marked = ap grave (sym (marks_Product (d ∷ []) ∙ append-nil (marks d)));
}
  where
    valued : (o : Option Ratio) → o ≡ product_of (o ∷ [])
    valued None = refl
    valued (Some r) = ap Some (sym (mul_one r))

-- ---- a number and a factor

abbrev pub minus_one : Ratio
minus_one = ratio (negsuc 0) 1

abbrev pub times : Ratio → Calc → Calc
times v d = Product (Num v Number ∷ d ∷ [])

times_type : (v : Ratio) (d : Calc) (t : NumType) → type_of d ≡ Some t → type_of (times v d) ≡ type_of d
times_type v d t e = type-Product (Num v Number ∷ d ∷ []) ∙ ap (λ o. product_type (o ∷ type_of d ∷ [])) (type-Num v Number) ∙ behind_number d t e

times_value : (v : Ratio) (d : Calc) (m : Meaning) → value m (times v d) ≡ option_map (mul v) (value m d)
times_value v d m =
    value-Product m (Num v Number ∷ d ∷ []) ∙ ap (λ o. product_of (o ∷ value m d ∷ [])) (value-Num m v Number) ∙ go (value m d)
  where
    go : (o : Option Ratio) → both mul (Some (mul v one_ratio)) (both mul o (Some one_ratio)) ≡ option_map (mul v) o
    go None = refl
    go (Some r) = ap Some (ap₂ mul (mul_one v) (mul_one r))

times_figure : (v : Ratio) (d : Calc) → in_bounds v ≡ true → figure (times v d) ≡ multiplied (inside v) (figure d)
times_figure v d h =
    figure-Product (Num v Number ∷ d ∷ []) ∙ ap (λ g. multiplied (multiplied (inside one_ratio) g) (figure d)) (figure-Num v Number)
    ∙ ap (λ g. multiplied g (figure d)) (joined_first mul one_ratio one_first (inside v) h)

times_marks : (v : Ratio) (d : Calc) → marks (times v d) ≡ marks d
times_marks v d = marks_Product (Num v Number ∷ d ∷ []) ∙ ap (λ ms. ms ++ (marks d ++ [])) (marks_Num v Number) ∙ append-nil (marks d)

minus_made : neg one_ratio ≡ minus_one
unfolding one_ratio
minus_made = neg_pair (pos 1) 1 (omega arith)

minus_is : (r : Ratio) → mul minus_one r ≡ neg r
minus_is r = ap (λ s. mul s r) (sym minus_made) ∙ neg-mul one_ratio r ∙ ap neg (one_first r)

-- a negative that is written as a product
pub minus_times : (d : Calc) (t : NumType) → type_of d ≡ Some t → IsSound (figure d) → Same (Negate d) (times minus_one d)
minus_times d t e s = record {
  typed = times_type minus_one d t e ∙ sym (type-Negate d);
  valued = λ m. times_value minus_one d m ∙ valued (value m d) ∙ sym (value-Negate m d);
  figured = times_figure minus_one d (whole_inside (negsuc 0) (omega arith)) ∙ figured (figure d) s ∙ sym (figure-Negate d);
  marked = ap grave (times_marks minus_one d ∙ sym (marks_Negate d));
}
  where
    valued : (o : Option Ratio) → option_map (mul minus_one) o ≡ option_map neg o
    valued None = refl
    valued (Some r) = ap Some (minus_is r)

    figured : (g : Figure) → IsSound g → multiplied (inside minus_one) g ≡ negated g
    figured measured h = refl
    figured undefined h = refl
    figured (inside r) h = ap figure_of (minus_is r) ∙ figure_inside (neg r) (neg_inside r h)
    figured (outside r) h = ap outside (minus_is r)

-- what is written behind `1 /`
pub one_times : (d : Calc) (t : NumType) → type_of d ≡ Some t → IsSound (figure d) → Same d (times (ratio (pos 1) 1) d)
unfolding one_ratio
one_times d t e s = record {
  typed = times_type one_ratio d t e;
  valued = λ m. times_value one_ratio d m ∙ valued (value m d);
  figured = times_figure one_ratio d (whole_inside (pos 1) (omega arith)) ∙ joined_first mul one_ratio one_first (figure d) s;
  marked = ap grave (times_marks one_ratio d);
}
  where
    valued : (o : Option Ratio) → option_map (mul one_ratio) o ≡ o
    valued None = refl
    valued (Some r) = ap Some (one_first r)

-- ---- a quotient of two whole numbers

not_zero : (q : ℕ) → 0 < q → grave (mark_of (inside (ratio (pos q) 1)) ∷ []) ≡ []
not_zero zero h = absurd (omega arith)
not_zero (suc q) h = let e : int_eq (pos (suc q)) (pos 0) ≡ false = go (int_eq (pos (suc q)) (pos 0)) refl in rw (whole_top (pos (suc q)), e) refl
  where
    go : (b : Bool) → int_eq (pos (suc q)) (pos 0) ≡ b → int_eq (pos (suc q)) (pos 0) ≡ false
    go true e = let same : pos (suc q) ≡ pos 0 = (Decides-int_eq (pos (suc q)) (pos 0)).0 e in absurd cc
    go false e = e

module _ (v : Ratio) (u : units.Unit) (within : in_bounds v ≡ true) (low : unsigned_abs v.top < 2 ^ 63) where
  abbrev whole : Ratio
  whole = ratio v.top 1

  abbrev bottom : Ratio
  bottom = ratio (pos v.bottom) 1

  abbrev part : Ratio
  part = ratio (pos 1) v.bottom

  inverse_is : reciprocal bottom ≡ Some part
  inverse_is = reciprocal_pair false v.bottom 1 v.positive (omega arith)

  product_is : mul whole part ≡ v
  product_is = whole-part v.top v.bottom v.positive ∙ ratio_self v

  bottom_figure : figure (Num bottom Number) ≡ inside bottom
  bottom_figure = figure-Num bottom Number

  quotient_value : (m : Meaning) → value m (quotient v.top v.bottom u) ≡ value m (Num v u)
  quotient_value m =
      let k : Ratio = unit_value m u in
      value-Product m (Num whole u ∷ Invert (Num bottom Number) ∷ [])
      ∙ ap₂ (λ o p. both mul o (both mul p (Some one_ratio))) (value-Num m whole u) (value-Invert m (Num bottom Number) ∙ ap inverse_of (value-Num m bottom Number) ∙ ap reciprocal (mul_one bottom) ∙ inverse_is)
      ∙ ap Some (ap (mul (mul whole k)) (mul_one part) ∙ mul-assoc whole k part ∙ ap (mul whole) (mul_comm_ratio k part) ∙ sym (mul-assoc whole part k) ∙ ap (λ r. mul r k) product_is)
      ∙ sym (value-Num m v u)

  quotient_figure : figure (quotient v.top v.bottom u) ≡ figure (Num v u)
  quotient_figure =
      figure-Product (Num whole u ∷ Invert (Num bottom Number) ∷ [])
      ∙ ap₂ (λ g h. multiplied (multiplied (inside one_ratio) g) h) (figure-Num whole u) (figure-Invert (Num bottom Number) ∙ ap (λ g. inverted g) bottom_figure ∙ ap (λ o. inside_or o) inverse_is)
      ∙ go (same_unit u Number) ∙ sym (figure-Num v u)
    where
      go : (b : Bool) → multiplied (multiplied (inside one_ratio) (if b then inside whole else measured)) (inside part) ≡ (if b then inside v else measured)
      go true =
          ap (λ g. multiplied g (inside part)) (joined_first mul one_ratio one_first (inside whole) (whole_inside v.top low))
          ∙ ap figure_of product_is ∙ figure_inside v within
      go false = refl

  quotient_marks : grave (marks (quotient v.top v.bottom u)) ≡ grave (marks (Num v u))
  quotient_marks =
      ap grave
      (marks_Product (Num whole u ∷ Invert (Num bottom Number) ∷ [])
      ∙ ap₂ (λ ms ns. ms ++ (ns ++ [])) (marks_Num whole u) (marks_Invert (Num bottom Number) ∙ ap₂ (λ g ms. mark_of g ∷ ms) bottom_figure (marks_Num bottom Number)))
      ∙ not_zero v.bottom v.positive ∙ sym (ap grave (marks_Num v u))

  pub quotient_same : Same (Num v u) (quotient v.top v.bottom u)
  quotient_same = record {
    typed = type-Product (Num whole u ∷ Invert (Num bottom Number) ∷ [])
        ∙ ap₂ (λ o p. product_type (o ∷ p ∷ [])) (type-Num whole u) (type-Invert (Num bottom Number) ∙ ap (option_and_then negated_type) (type-Num bottom Number))
        ∙ quotient_type u ∙ sym (type-Num v u);
    valued = quotient_value;
    figured = quotient_figure;
    marked = quotient_marks;
  }

-- ---- a negative number that is taken away

pub taken_number : (v : Ratio) (u : units.Unit) → Same (Num v u) (Negate (Num (neg v) u))
taken_number v u = record {
  typed = type-Negate (Num (neg v) u) ∙ type-Num (neg v) u ∙ sym (type-Num v u);
  valued = λ m.
      value-Negate m (Num (neg v) u) ∙ ap (option_map neg) (value-Num m (neg v) u)
      ∙ ap Some (ap neg (neg-mul v (unit_value m u)) ∙ neg-neg (mul v (unit_value m u))) ∙ sym (value-Num m v u);
  figured = figure-Negate (Num (neg v) u) ∙ ap (λ g. negated g) (figure-Num (neg v) u) ∙ go (same_unit u Number) ∙ sym (figure-Num v u);
  marked = ap grave (marks_Negate (Num (neg v) u) ∙ marks_Num (neg v) u ∙ sym (marks_Num v u));
}
  where
    go : (b : Bool) → negated (if b then inside (neg v) else measured) ≡ (if b then inside v else measured)
    go true = ap inside (neg-neg v)
    go false = refl
