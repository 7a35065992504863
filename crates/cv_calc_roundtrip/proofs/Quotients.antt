-- A number of a canonical unit, and the quotient of two whole numbers that it is.
use Rattle.std.specs.Prelude.{ℕ, zero, suc, Bool, true, false, ◌&&◌, ◌<◌, ◌^◌, ℤ, pos, unsigned_abs, [], ◌∷◌, Some}
use Rattle.std.specs.Ordering.{int_eq}
use Rattle.std.proofs.Common.{◌≡◌, refl, sym, ◌∙◌, ap, ap₂, arith}
use Rattle.std.proofs.lemmas.Bool.Decides.{Decides-int_eq}
use Rattle.cv_spec_ratio.specs.Ratio.{Ratio, ratio, mul, reciprocal, one_ratio}
use Rattle.cv_spec_ratio.proofs.Whole.{whole_top}
use Rattle.cv_spec_ratio.proofs.Pairs.{reciprocal_pair}
use Rattle.cv_spec_ratio.proofs.Laws.{mul_one, mul_comm_ratio, whole-part}
use Rattle.cv_frac.specs.Bounded.{in_bounds}
use Rattle.cv_calc.specs.declared.unit.Unit as units
use Rattle.cv_calc.specs.declared.unit.Unit.TheVariants.{Number, Percent, Px, Deg, S, Hz, Dppx, Fr}
use Rattle.cv_calc.specs.declared.context.Basis.{Basis}
use Rattle.cv_calc.specs.declared.context.Basis.TheVariants.{Plain, Length, Of}
use Rattle.cv_calc.specs.declared.context.Context.{Context}
use Rattle.cv_calc.specs.declared.calc.Calc.{Calc}
use Rattle.cv_calc.specs.declared.calc.Calc.TheVariants as tree
use Rattle.cv_calc.specs.declared.calc.Calc.TheOpen as layer
use Rattle.cv_calc.specs.Tree.{out-Num}
use Rattle.cv_calc.specs.Types.{product_type, shared_hint, product_under, multiplied}
use Rattle.cv_calc.specs.Linear.{shape, unit_shape, inverted_shape, product_shape, all_fit, one_measured, none_measured, all_numbers}
use Rattle.cv_calc.specs.Numbers as numbers
use Rattle.cv_calc.proofs.Shapes.{shape-Num, shape-Product, shape-Invert}
use Rattle.cv_calcread.specs.Figures.{Evaluated, evaluated, product_of, divided, mark_of}
use Rattle.cv_calcread.proofs.Evaluations.{evaluated-Num, evaluated-Product, evaluated-Invert}
use Rattle.cv_simplify.specs.Canonical.{is_canonical}
use Rattle.cv_simplify.specs.Counted.{Counted, counted, counted_step, inside}
use Rattle.cv_simplify.specs.Simplified as simplified
use Rattle.cv_simplify.proofs.Bounds.{inside_inverted}
use Rattle.cv_calc_roundtrip.specs.ReadsBack.{Keeps}
use Rattle.cv_calc_roundtrip.proofs.Answered.{all_fine}
use Rattle.cv_calc_roundtrip.proofs.Digits.{both_true}
use Rattle.cv_calc_roundtrip.proofs.Equations.{counted-Num, counted-Product, counted-Invert, inside-Num, inside-Product}
use Rattle.cv_calc_roundtrip.proofs.Known.{Facts}
use Rattle.cv_calc_roundtrip.proofs.Numerals.{whole_inside}

abbrev pub suits : units.Unit → Context → Type 0
suits u y = Keeps u y.basis

-- ---- a number is what it is converted to

percent_kept : (b : Basis) (v : Ratio) → Keeps Percent b → simplified.percent_in b v ≡ tree.Num v Percent
percent_kept Plain v k = refl
percent_kept Length v k = refl
percent_kept (Of f) v k = absurd k

times_one : (v : Ratio) (u : units.Unit) → tree.Num (mul v one_ratio) u ≡ tree.Num v u
times_one v u = ap (λ r. tree.Num r u) (mul_one v)

pub number_stays : (y : Context) (v : Ratio) (u : units.Unit) → is_canonical u ≡ true → suits u y → simplified.number_in y v u ≡ tree.Num v u
number_stays y v Number h k = times_one v Number
number_stays y v Percent h k = percent_kept y.basis v k
number_stays y v Px h k = times_one v Px
number_stays y v Deg h k = times_one v Deg
number_stays y v S h k = times_one v S
number_stays y v Hz h k = times_one v Hz
number_stays y v Dppx h k = times_one v Dppx
number_stays y v Fr h k = times_one v Fr
number_stays y v _ h k = absurd cc

pub number_counted : (y : Context) (v : Ratio) (u : units.Unit) → in_bounds v ≡ true → is_canonical u ≡ true → suits u y → counted y (tree.Num v u) ≡ record { simple = tree.Num v u; in_range = true }
number_counted y v u small h k =
    counted-Num y v u
    ∙ ap (λ (c : Calc). record { simple = c; in_range = in_bounds v && inside c }) (number_stays y v u h k)
    ∙ ap (λ (b : Bool). record { simple = tree.Num v u; in_range = b }) (both_true (in_bounds v) (inside (tree.Num v u)) small (inside-Num v u ∙ small))

-- ---- a quotient

found : (u : units.Unit) → is_canonical u ≡ true → product_shape (unit_shape u ∷ inverted_shape (unit_shape Number) ∷ []) ≡ unit_shape u
unfolding product_shape all_fit one_measured none_measured all_numbers product_type shared_hint product_under multiplied
found Number h = refl
found Percent h = refl
found Px h = refl
found Deg h = refl
found S h = refl
found Hz h = refl
found Dppx h = refl
found Fr h = refl
found _ h = absurd cc

marked : (q : ℕ) → 0 < q → all_fine (mark_of (numbers.inside (ratio (pos q) 1)) ∷ []) ≡ true
marked zero h = absurd (omega arith)
marked (suc q) h = let e : int_eq (pos (suc q)) (pos 0) ≡ false = go (int_eq (pos (suc q)) (pos 0)) refl in rw (whole_top (pos (suc q)), e) refl
  where
    go : (b : Bool) → int_eq (pos (suc q)) (pos 0) ≡ b → int_eq (pos (suc q)) (pos 0) ≡ false
    go true e = let same : pos (suc q) ≡ pos 0 = (Decides-int_eq (pos (suc q)) (pos 0)).0 e in absurd cc
    go false e = e

abbrev pub quotient : ℤ → ℕ → units.Unit → Calc
quotient p q u = tree.Product (tree.Num (ratio p 1) u ∷ tree.Invert (tree.Num (ratio (pos q) 1) Number) ∷ [])

module _ (p : ℤ) (q : ℕ) (some : 0 < q) (small : q < 2 ^ 63) where
  part : Ratio
  part = ratio (pos 1) q

  inverse_is : simplified.inverted (tree.Num (ratio (pos q) 1) Number) ≡ tree.Num (ratio (pos 1) q) Number
  inverse_is =
      let r : reciprocal (ratio (pos q) 1) ≡ Some (ratio (pos 1) q) = reciprocal_pair false q 1 some (omega arith) in
      simp (out-Num, r) refl

  inverse_counted : (y : Context) → counted y (tree.Invert (tree.Num (ratio (pos q) 1) Number)) ≡ record { simple = tree.Num (ratio (pos 1) q) Number; in_range = true }
  inverse_counted y =
      let h : in_bounds (ratio (pos q) 1) ≡ true = whole_inside (pos q) small in
      let k : inside (tree.Num (ratio (pos 1) q) Number) ≡ true = ap inside (sym inverse_is) ∙ inside_inverted (tree.Num (ratio (pos q) 1) Number) (inside-Num (ratio (pos q) 1) Number ∙ h) in
      counted-Invert y (tree.Num (ratio (pos q) 1) Number)
      ∙ ap (λ (c : Counted). counted_step y (layer.Invert c)) (number_counted y (ratio (pos q) 1) Number h refl tt)
      ∙ ap (λ (c : Calc). record { simple = c; in_range = inside c }) inverse_is
      ∙ ap (λ (b : Bool). record { simple = tree.Num (ratio (pos 1) q) Number; in_range = b }) k

  product_is : (u : units.Unit) → is_canonical u ≡ true → simplified.multiplied (tree.Num (ratio p 1) u ∷ tree.Num (ratio (pos 1) q) Number ∷ []) ≡ tree.Num (mul (ratio p 1) (ratio (pos 1) q)) u
  product_is Number h = simp out-Num refl
  product_is Percent h = simp out-Num (ap (λ r. tree.Num r Percent) (mul_comm_ratio (ratio (pos 1) q) (ratio p 1)))
  product_is Px h = simp out-Num (ap (λ r. tree.Num r Px) (mul_comm_ratio (ratio (pos 1) q) (ratio p 1)))
  product_is Deg h = simp out-Num (ap (λ r. tree.Num r Deg) (mul_comm_ratio (ratio (pos 1) q) (ratio p 1)))
  product_is S h = simp out-Num (ap (λ r. tree.Num r S) (mul_comm_ratio (ratio (pos 1) q) (ratio p 1)))
  product_is Hz h = simp out-Num (ap (λ r. tree.Num r Hz) (mul_comm_ratio (ratio (pos 1) q) (ratio p 1)))
  product_is Dppx h = simp out-Num (ap (λ r. tree.Num r Dppx) (mul_comm_ratio (ratio (pos 1) q) (ratio p 1)))
  product_is Fr h = simp out-Num (ap (λ r. tree.Num r Fr) (mul_comm_ratio (ratio (pos 1) q) (ratio p 1)))
  product_is _ h = absurd cc

  first_is : (u : units.Unit) → simplified.multiplied (tree.Num (ratio p 1) u ∷ []) ≡ tree.Num (ratio p 1) u
  first_is u = simp out-Num refl

  quotient_shape : (u : units.Unit) → is_canonical u ≡ true → shape (quotient p q u) ≡ shape (tree.Num (ratio p q) u)
  quotient_shape u h =
      shape-Product (tree.Num (ratio p 1) u ∷ tree.Invert (tree.Num (ratio (pos q) 1) Number) ∷ [])
      ∙ ap₂ (λ s t. product_shape (s ∷ t ∷ [])) (shape-Num (ratio p 1) u) (shape-Invert (tree.Num (ratio (pos q) 1) Number) ∙ ap inverted_shape (shape-Num (ratio (pos q) 1) Number))
      ∙ found u h ∙ sym (shape-Num (ratio p q) u)

  quotient_fine : (u : units.Unit) → all_fine (evaluated (quotient p q u)).marks ≡ true
  quotient_fine u =
      ap (λ (e : Evaluated). all_fine e.marks)
      (evaluated-Product (tree.Num (ratio p 1) u ∷ tree.Invert (tree.Num (ratio (pos q) 1) Number) ∷ [])
      ∙ ap₂ (λ a b. product_of (a ∷ b ∷ [])) (evaluated-Num (ratio p 1) u) (evaluated-Invert (tree.Num (ratio (pos q) 1) Number) ∙ ap divided (evaluated-Num (ratio (pos q) 1) Number)))
      ∙ marked q some

  quotient_counted : (y : Context) (u : units.Unit) → unsigned_abs p < 2 ^ 63 → in_bounds (ratio p q) ≡ true → is_canonical u ≡ true → suits u y →
      counted y (quotient p q u) ≡ record { simple = tree.Num (ratio p q) u; in_range = true }
  quotient_counted y u low within h k =
      let first : counted y (tree.Num (ratio p 1) u) ≡ record { simple = tree.Num (ratio p 1) u; in_range = true } = number_counted y (ratio p 1) u (whole_inside p low) h k in
      let whole : simplified.multiplied (tree.Num (ratio p 1) u ∷ tree.Num (ratio (pos 1) q) Number ∷ []) ≡ tree.Num (ratio p q) u = product_is u h ∙ ap (λ r. tree.Num r u) (whole-part p q some) in
      let inner : inside (tree.Num (ratio p q) u) ≡ true = inside-Num (ratio p q) u ∙ within in
      let before : inside (tree.Num (ratio p 1) u) ≡ true = inside-Num (ratio p 1) u ∙ whole_inside p low in
      counted-Product y (tree.Num (ratio p 1) u ∷ tree.Invert (tree.Num (ratio (pos q) 1) Number) ∷ [])
      ∙ ap₂ (λ (a b : Counted). counted_step y (layer.Product (a ∷ b ∷ []))) first (inverse_counted y)
      ∙ ap₂ (λ (c e : Calc). record { simple = c; in_range = (inside (simplified.multiplied []) && (inside e && (inside c && true))) && inside c }) whole (first_is u)
      ∙ ap (λ (b : Bool). record { simple = tree.Num (ratio p q) u; in_range = b }) (passes inner before)
    where
      passes : inside (tree.Num (ratio p q) u) ≡ true → inside (tree.Num (ratio p 1) u) ≡ true →
          ((inside (simplified.multiplied []) && (inside (tree.Num (ratio p 1) u) && (inside (tree.Num (ratio p q) u) && true))) && inside (tree.Num (ratio p q) u)) ≡ true
      passes a b = rw (a, b, inside-Product []) refl

  pub quotient_facts : (v : Ratio) (u : units.Unit) → ratio p q ≡ v → in_bounds v ≡ true → unsigned_abs p < 2 ^ 63 → is_canonical u ≡ true →
      Facts (suits u) (tree.Num v u) (quotient p q u) (tree.Num v u) (tree.Num v u)
  quotient_facts v u is within low h = record {
    written_shape = refl;
    read_shape = quotient_shape u h ∙ ap (λ r. shape (tree.Num r u)) is;
    simple_shape = refl;
    fine = quotient_fine u;
    counts = λ y k. quotient_counted y u low (ap in_bounds is ∙ within) h k ∙ ap (λ (r : Ratio). record { simple = tree.Num r u; in_range = true }) is;
    within = inside-Num v u ∙ within;
    means = λ m. refl;
    same = refl;
  }

pub numeral_facts : (v : Ratio) (u : units.Unit) → in_bounds v ≡ true → is_canonical u ≡ true → Facts (suits u) (tree.Num v u) (tree.Num v u) (tree.Num v u) (tree.Num v u)
numeral_facts v u within h = record {
  written_shape = refl;
  read_shape = refl;
  simple_shape = refl;
  fine = ap (λ (e : Evaluated). all_fine e.marks) (evaluated-Num v u);
  counts = λ y k. number_counted y v u within h k;
  within = inside-Num v u ∙ within;
  means = λ m. refl;
  same = refl;
}
