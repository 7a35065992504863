-- The reciprocal of a reciprocal.
use Rattle.std.specs.Prelude.{Some, unsigned_abs}
use Rattle.std.proofs.Common.{◌≡◌, ℕ, zero, suc, ◌<◌, refl, sym, ◌∙◌, ap, ap₂, arith, ℤ, pos, negsuc}
use Rattle.cv_spec_ratio.specs.Gcd.{gcd}
use Rattle.cv_spec_ratio.proofs.Gcd.{gcd_comm}
use Rattle.cv_spec_ratio.specs.Ratio.{Ratio, ratio, reciprocal, reciprocal_by}
use Rattle.cv_spec_ratio.specs.Code.{ratio_self}

-- a fraction of two sizes without a common divisor, with a sign
turned : (t : ℤ) (q : ℕ) (p : 0 < q) (l : gcd (unsigned_abs t) q ≡ 1) → (ratio t q).top ≡ t
turned t q p l = let r : Ratio = record { top = t; bottom = q; positive = p; lowest = l } in ap (λ (s : Ratio). s.top) (ratio_self r)

turned_bottom : (t : ℤ) (q : ℕ) (p : 0 < q) (l : gcd (unsigned_abs t) q ≡ 1) → (ratio t q).bottom ≡ q
turned_bottom t q p l = let r : Ratio = record { top = t; bottom = q; positive = p; lowest = l } in ap (λ (s : Ratio). s.bottom) (ratio_self r)

twice_by : (r : Ratio) (t : ℤ) (q : ℕ) → r.top ≡ t → r.bottom ≡ q → (s : Ratio) → reciprocal_by t q ≡ Some s → reciprocal_by s.top s.bottom ≡ Some r
unfolding reciprocal_by
twice_by r (pos zero) q e f s h = cc
twice_by r (pos (suc n)) zero e f s h = absurd (omega (arith, r.positive))
twice_by r (pos (suc n)) (suc q) e f s h =
    let low : gcd (suc q) (suc n) ≡ 1 = gcd_comm (suc q) (suc n) ∙ ap₂ (λ a b. gcd a b) (ap unsigned_abs (sym e)) (sym f) ∙ r.lowest in
    let is : ratio (pos (suc q)) (suc n) ≡ s = cc in
    ap₂ reciprocal_by (ap (λ (x : Ratio). x.top) (sym is) ∙ turned (pos (suc q)) (suc n) (omega arith) low) (ap (λ (x : Ratio). x.bottom) (sym is) ∙ turned_bottom (pos (suc q)) (suc n) (omega arith) low)
    ∙ ap Some (ap₂ ratio (sym e) (sym f) ∙ ratio_self r)
twice_by r (negsuc n) zero e f s h = absurd (omega (arith, r.positive))
twice_by r (negsuc n) (suc q) e f s h =
    let low : gcd (suc q) (suc n) ≡ 1 = gcd_comm (suc q) (suc n) ∙ ap₂ (λ a b. gcd a b) (ap unsigned_abs (sym e)) (sym f) ∙ r.lowest in
    let is : ratio (negsuc q) (suc n) ≡ s = cc in
    ap₂ reciprocal_by (ap (λ (x : Ratio). x.top) (sym is) ∙ turned (negsuc q) (suc n) (omega arith) low) (ap (λ (x : Ratio). x.bottom) (sym is) ∙ turned_bottom (negsuc q) (suc n) (omega arith) low)
    ∙ ap Some (ap₂ ratio (sym e) (sym f) ∙ ratio_self r)

pub reciprocal_twice : (r s : Ratio) → reciprocal r ≡ Some s → reciprocal s ≡ Some r
unfolding reciprocal
reciprocal_twice r s h = twice_by r r.top r.bottom refl refl s h
