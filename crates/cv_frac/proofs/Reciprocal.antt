-- The fields of a reciprocal.
use Rattle.std.specs.Prelude.{ℕ, ◌<◌, ◌^◌, ℤ, pos, negsuc, unsigned_abs, int_lt, FitsSigned, Some, None}
use Rattle.std.proofs.Common.{◌≡◌, refl, sym, ◌∙◌, ap, ap₂, subst, w64, to_z, of_z, arith}
use Rattle.std.proofs.lemmas.Int.{to_z-of_z}
use Rattle.std.proofs.lemmas.Bool.Decides.{nat_tests}
use Rattle.cv_spec_ratio.specs.Gcd.{gcd}
use Rattle.cv_spec_ratio.proofs.Gcd.{gcd_comm}
use Rattle.cv_spec_ratio.specs.Ratio.{Ratio, ratio, signed, is_negative, reciprocal}
use Rattle.cv_spec_ratio.proofs.LowestTerms.{reciprocal_none, reciprocal_some}
use Rattle.cv_frac.specs.declared.frac.Frac.TheInside.{Inside}
use Rattle.cv_frac.specs.Frac.{IsFrac, frac_view, view-top, view-bottom}
use Rattle.cv_frac.proofs.Lowest.{unsigned_abs-signed}

pub below_zero : (t : ℤ) → int_lt t (pos 0) ≡ is_negative t
below_zero (pos n) = grind (arith, nat_tests)
below_zero (negsuc n) = refl

module _ (s : Inside) (h : IsFrac s) (r : Ratio) (is : frac_view s ≡ r) where
  top_is : s.top ≡ r.top
  top_is = sym (view-top s h) ∙ ap (λ (q : Ratio). q.top) is

  bottom_is : s.bottom ≡ r.bottom
  bottom_is = sym (view-bottom s h) ∙ ap (λ (q : Ratio). q.bottom) is

  pub no_reciprocal : (b : ℕ) → b ≡ unsigned_abs s.top → b ≡ 0 → None ≡ reciprocal r
  unfolding reciprocal
  no_reciprocal b e z = sym (reciprocal_none r.top r.bottom (ap unsigned_abs (sym top_is) ∙ sym e ∙ z))

  module _ (t : ℤ) (b : ℕ) (sign : t ≡ signed (is_negative s.top) s.bottom) (size : b ≡ unsigned_abs s.top) (above : 0 < b) where
    pub reciprocal_view : Some (ratio t b) ≡ reciprocal r
    unfolding reciprocal
    reciprocal_view =
        ap₂ (λ p q. Some (ratio p q)) (sign ∙ ap₂ (λ p q. signed (is_negative p) q) top_is bottom_is) (size ∙ ap unsigned_abs top_is)
        ∙ sym (reciprocal_some r.top r.bottom (subst (λ (n : ℕ). 0 < n) (size ∙ ap unsigned_abs top_is) above))

    pub reciprocal_is : IsFrac (record { top = t; bottom = b })
    reciprocal_is =
        let turned : unsigned_abs t ≡ s.bottom = ap unsigned_abs sign ∙ unsigned_abs-signed (is_negative s.top) s.bottom in
        record {
          positive = above;
          small_top = subst (λ (n : ℕ). n < 2 ^ 63) (sym turned) h.small_bottom;
          small_bottom = subst (λ (n : ℕ). n < 2 ^ 63) (sym size) h.small_top;
          lowest = ap₂ gcd turned size ∙ gcd_comm s.bottom (unsigned_abs s.top) ∙ h.lowest;
        }

-- a number with the sign of another, as it is passed on
pub sign_passed : (r t u : ℤ) (n : ℕ) → FitsSigned w64 r → r ≡ signed (int_lt u (pos 0)) n → u ≡ t → to_z w64 (of_z w64 r) ≡ signed (is_negative t) n
sign_passed r t u n fits e same = to_z-of_z w64 r fits ∙ e ∙ ap (λ b. signed b n) (ap (λ z. int_lt z (pos 0)) same ∙ below_zero t)

-- a number by its sign and its size
pub signed_size : (z : ℤ) → signed (int_lt z (pos 0)) (unsigned_abs z) ≡ z
signed_size z = ap (λ b. signed b (unsigned_abs z)) (below_zero z) ∙ by_sign z
  where
    by_sign : (z : ℤ) → signed (is_negative z) (unsigned_abs z) ≡ z
    by_sign (pos n) = refl
    by_sign (negsuc n) = refl
