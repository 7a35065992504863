-- Fractions that aren't negative.
use Rattle.std.specs.Prelude.{Bool, true, false, pos, negsuc, neg_ℤ, int_lt, ◌*ℤ◌, ◌*◌, if◌then◌else◌}
use Rattle.std.proofs.Common.{◌≡◌, ℕ, zero, suc, refl, sym, ◌∙◌, ap, ap₂, subst, arith, ℤ}
use Rattle.std.specs.Ordering.{int_cmp, is_le}
use Rattle.std.proofs.lemmas.Bool.Decides.{nat_tests}
use Rattle.cv_spec_ratio.specs.Ratio.{Ratio, ratio, mul, zero_ratio, one_ratio}
use Rattle.cv_spec_ratio.specs.Order.{at_most, lesser, greater}
use Rattle.cv_spec_ratio.proofs.Whole.{whole_top, whole_bottom}
use Rattle.cv_calc.specs.declared.context.Context.{Context}
use Rattle.cv_calc.specs.declared.unit.Unit as units
use Rattle.cv_calc.specs.declared.unit.Unit.TheVariants.{Em, Rem, Ex, Ch, Ic, Vw, Vh, Vmin, Vmax}
use Rattle.cv_calc.specs.Factor.{factor, hundredth, half, sizes_of}
use Rattle.cv_numeric.specs.declared.quantity.Range.TheVariants.{NotNegative}
use Rattle.cv_numeric.specs.Quantities.{clamped}
use Rattle.cv_calc_laws.proofs.Lists.{false_true}
use Rattle.cv_value_laws.specs.Sizes.{IsNotNegative}

pos_not : (n : ℕ) → int_lt (pos n) (pos 0) ≡ false
pos_not n = grind (arith, nat_tests)

pub of_ratio : (n q : ℕ) → IsNotNegative (ratio (pos n) q)
unfolding ratio
of_ratio n zero = pos_not 0
of_ratio n (suc q) = pos_not _

as_pos : (z : ℤ) → int_lt z (pos 0) ≡ false → (n : ℕ) × (z ≡ pos n)
as_pos (pos n) h = (n, refl)
as_pos (negsuc n) h = absurd (false_true (sym h))

pub of_product : (r s : Ratio) → IsNotNegative r → IsNotNegative s → IsNotNegative (mul r s)
unfolding mul
of_product r s h k =
    let (n, r_is) = as_pos r.top h in
    let (m, s_is) = as_pos s.top k in
    subst (λ (z : ℤ). IsNotNegative (ratio z (r.bottom * s.bottom))) (sym (ap₂ (λ (y z : ℤ). y *ℤ z) r_is s_is)) (of_ratio (n * m) (r.bottom * s.bottom))

either : (b : Bool) (r s : Ratio) → IsNotNegative r → IsNotNegative s → IsNotNegative (if b then r else s)
either true r s h k = h
either false r s h k = k

pub of_zero : IsNotNegative zero_ratio
unfolding zero_ratio
of_zero = of_ratio 0 1

-- ---- what is in range

times_one : (z : ℤ) → z *ℤ pos 1 ≡ z
times_one (pos n) = ap pos (omega arith)
times_one (negsuc n) = ap (λ k. neg_ℤ (pos k)) (mul_one n)
  where
    mul_one : (n : ℕ) → suc n * 1 ≡ suc n
    mul_one n = omega arith

below_zero : (v : Ratio) (n : ℕ) → v.top ≡ negsuc n → at_most v zero_ratio ≡ true
unfolding zero_ratio
below_zero v n e =
    let left : v.top *ℤ pos (ratio (pos 0) 1).bottom ≡ negsuc n = ap₂ (λ (z : ℤ) (b : ℕ). z *ℤ pos b) e (whole_bottom (pos 0)) ∙ times_one (negsuc n) in
    let right : (ratio (pos 0) 1).top *ℤ pos v.bottom ≡ pos 0 = ap (λ (z : ℤ). z *ℤ pos v.bottom) (whole_top (pos 0)) ∙ ap pos (zero_times v.bottom) in
    ap₂ (λ (y z : ℤ). is_le (int_cmp y z)) left right
  where
    zero_times : (b : ℕ) → 0 * b ≡ 0
    zero_times b = omega arith

pub of_clamped : (v : Ratio) → IsNotNegative (clamped NotNegative v)
of_clamped v = go (at_most v zero_ratio) refl
  where
    above : (z : ℤ) → v.top ≡ z → at_most v zero_ratio ≡ false → int_lt z (pos 0) ≡ false
    above (pos n) e h = pos_not n
    above (negsuc n) e h = absurd (false_true (sym h ∙ below_zero v n e))

    go : (b : Bool) → at_most v zero_ratio ≡ b → IsNotNegative (if b then zero_ratio else v)
    go true h = of_zero
    go false h = above v.top refl h

-- ---- what a unit stands for

module _ (x : Context) (em_is : IsNotNegative x.em) (rem_is : IsNotNegative x.rem) where
  hundredth_of : (n : ℕ) → IsNotNegative (mul (ratio (pos n) 1) hundredth)
  hundredth_of n = of_product (ratio (pos n) 1) hundredth (of_ratio n 1) (of_ratio 1 100)

  half_em : IsNotNegative (mul x.em half)
  half_em = of_product x.em half em_is (of_ratio 1 2)

  part_of : (r : Ratio) → IsNotNegative r → IsNotNegative (mul r hundredth)
  part_of r h = of_product r hundredth h (of_ratio 1 100)

  width : Ratio
  width = ratio (pos x.width) 1

  height : Ratio
  height = ratio (pos x.height) 1

  pub of_factor : (u : units.Unit) → IsNotNegative (factor (sizes_of x) u)
  unfolding width height one_ratio
  of_factor Em = em_is
  of_factor Rem = rem_is
  of_factor Ex = half_em
  of_factor Ch = half_em
  of_factor Ic = em_is
  of_factor Vw = hundredth_of x.width
  of_factor Vh = hundredth_of x.height
  of_factor Vmin = part_of (lesser width height) (either (at_most width height) width height (of_ratio x.width 1) (of_ratio x.height 1))
  of_factor Vmax = part_of (greater width height) (either (at_most width height) height width (of_ratio x.height 1) (of_ratio x.width 1))
  of_factor u = of_ratio _ _
