-- Fractions times a positive one are in the same order.
use Rattle.std.specs.Prelude.{Bool, true, false, ℤ, pos, negsuc, zero, suc, ◌*ℤ◌, if◌then◌else◌}
use Rattle.std.specs.Ordering.{int_cmp, is_le}
use Rattle.std.proofs.Common.{◌≡◌, ℕ, ◌*◌, refl, sym, ◌∙◌, ap, ap₂, arith}
use Rattle.cv_spec_ratio.specs.Ratio.{Ratio, mul}
use Rattle.cv_spec_ratio.specs.Order.{ratio_cmp, at_most, lesser, greater}
use Rattle.cv_spec_ratio.proofs.Difference.{mul-pos-mul, mul_swap}
use Rattle.cv_spec_ratio.proofs.Laws.{positive_product}
use Rattle.cv_spec_ratio.proofs.Order.{scaled_cmp}
use Rattle.cv_spec_ratio.proofs.Pairs.{cmp_pairs}
use Rattle.cv_om_laws.specs.Valued.{is_above_zero, IsPositive}

regrouped : (a : ℤ) (t w f : ℕ) → (a *ℤ pos t) *ℤ pos (w * f) ≡ (a *ℤ pos w) *ℤ pos (t * f)
regrouped a t w f =
    mul-pos-mul (a *ℤ pos t) w f ∙ mul_swap (a *ℤ pos t) f w ∙ ap (λ z. z *ℤ pos f) (mul_swap a t w) ∙ mul_swap (a *ℤ pos w) t f ∙ sym (mul-pos-mul (a *ℤ pos w) t f)

module _ (v w : Ratio) where
  scaled_by : (f : Ratio) (t : ℤ) → f.top ≡ t → is_above_zero t ≡ true → ratio_cmp (mul v f) (mul w f) ≡ ratio_cmp v w
  unfolding mul
  scaled_by f (pos zero) e h = cc
  scaled_by f (negsuc n) e h = cc
  scaled_by f (pos (suc n)) e h =
      let t = suc n in
      cmp_pairs (v.top *ℤ f.top) (w.top *ℤ f.top) (v.bottom * f.bottom) (w.bottom * f.bottom) (positive_product v.bottom f.bottom v.positive f.positive) (positive_product w.bottom f.bottom w.positive f.positive)
      ∙ ap (λ z. int_cmp ((v.top *ℤ z) *ℤ pos (w.bottom * f.bottom)) ((w.top *ℤ z) *ℤ pos (v.bottom * f.bottom))) e
      ∙ ap₂ int_cmp (regrouped v.top t w.bottom f.bottom) (regrouped w.top t v.bottom f.bottom)
      ∙ scaled_cmp (v.top *ℤ pos w.bottom) (w.top *ℤ pos v.bottom) (t * f.bottom) (positive_product t f.bottom (omega arith) f.positive)

  scaled_order : (f : Ratio) → IsPositive f → at_most (mul v f) (mul w f) ≡ at_most v w
  scaled_order f h = ap is_le (scaled_by f f.top refl h)

  pub lesser_scaled : (f : Ratio) → IsPositive f → lesser (mul v f) (mul w f) ≡ mul (lesser v w) f
  lesser_scaled f h = ap (λ b. if b then mul v f else mul w f) (scaled_order f h) ∙ go (at_most v w)
    where
      go : (b : Bool) → (if b then mul v f else mul w f) ≡ mul (if b then v else w) f
      go true = refl
      go false = refl

  pub greater_scaled : (f : Ratio) → IsPositive f → greater (mul v f) (mul w f) ≡ mul (greater v w) f
  greater_scaled f h = ap (λ b. if b then mul w f else mul v f) (scaled_order f h) ∙ go (at_most v w)
    where
      go : (b : Bool) → (if b then mul w f else mul v f) ≡ mul (if b then w else v) f
      go true = refl
      go false = refl
