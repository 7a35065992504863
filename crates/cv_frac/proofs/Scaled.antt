-- A size times a power of ten and over another.
use Rattle.std.specs.Prelude.{ℕ, zero, suc, Bool, true, false, ◌+◌, ◌-◌, ◌*◌, ◌/◌, ◌<◌, ◌≤◌, ◌^◌, min, Result, Err}
use Rattle.std.proofs.Common.{◌≡◌, refl, sym, ◌∙◌, ap, ap₂, arith, inl, inr}
use Rattle.std.proofs.Math.Nat.{div-mul_cancel}
use Rattle.std.proofs.lemmas.Nat.{pow-add, mul-lt}
use Rattle.std.proofs.lemmas.Bool.{cases_lt}
use Rattle.cv_spec_ratio.specs.Gcd.{gcd}
use Rattle.cv_spec_ratio.specs.Cancelled.{gcd_is, gcd_one}
use Rattle.cv_spec_ratio.specs.Ratio.{Ratio, ratio, signed}
use Rattle.cv_spec_ratio.proofs.Laws.{ratio_cancel}
use Rattle.cv_frac.specs.declared.error.FracErr.{FracErr}
use Rattle.cv_frac.specs.declared.error.FracErr.TheVariants.{Range}
use Rattle.cv_frac.specs.Bounded.{bounded}
use Rattle.cv_frac.specs.Literal.{scaled, with_exponent}
use Rattle.cv_frac.proofs.Lowest.{lowest_outside}
use Rattle.cv_frac.proofs.Tens.{ten_pos, ten_split, ten_mono, no_less}

one_time : (n : ℕ) → n ≡ 1 * n
one_time n = omega arith

pub scaled_above : (b : Bool) (n up down : ℕ) → down ≤ up → ratio (signed b (n * 10 ^ (up - down))) 1 ≡ scaled b n up down
scaled_above b n up down h =
    sym (ap₂ (λ x y. ratio (signed b x) y) (ap (λ m. n * m) (ten_split down up h) ∙ regroup n (10 ^ (up - down)) (10 ^ down)) (one_time (10 ^ down))
    ∙ ratio_cancel b (n * 10 ^ (up - down)) 1 (10 ^ down) (omega arith) (ten_pos down))
  where
    regroup : (n x y : ℕ) → n * (x * y) ≡ n * x * y
    regroup n x y = omega arith

pub scaled_below : (b : Bool) (n up down : ℕ) → up ≤ down → ratio (signed b n) (10 ^ (down - up)) ≡ scaled b n up down
scaled_below b n up down h =
    sym (ap (λ y. ratio (signed b (n * 10 ^ up)) y) (ten_split up down h) ∙ ratio_cancel b n (10 ^ (down - up)) (10 ^ up) (ten_pos (down - up)) (ten_pos up))

pub scaled_zero : (b : Bool) (n up down : ℕ) → n ≡ 0 → ratio (signed b 0) 1 ≡ scaled b n up down
scaled_zero b n up down e =
    sym (ap₂ (λ x y. ratio (signed b x) y) (nothing n (10 ^ up) (10 ^ down) e) (one_time (10 ^ down)) ∙ ratio_cancel b 0 1 (10 ^ down) (omega arith) (ten_pos down))
  where
    nothing : (n x y : ℕ) → n ≡ 0 → n * x ≡ 0 * y
    nothing n x y e = rw e (omega arith)

-- ---- out of bounds

whole_outside : (b : Bool) (n : ℕ) → 2 ^ 63 ≤ n → Err Range ≡ bounded (ratio (signed b n) 1)
whole_outside b n h = lowest_outside b n 1 (omega arith) 1 (sym (gcd_one n)) (λ small _. omega arith)

pub above_outside : (b : Bool) (n up down : ℕ) → down ≤ up → 2 ^ 63 ≤ n * 10 ^ (up - down) → Err Range ≡ bounded (scaled b n up down)
above_outside b n up down h large = whole_outside b (n * 10 ^ (up - down)) large ∙ ap bounded (scaled_above b n up down h)

pub large_power : (n k : ℕ) → 0 < n → 19 ≤ k → 2 ^ 63 ≤ n * 10 ^ k
large_power n k h p = omega (arith, ten_mono 19 k p, no_less n (10 ^ k) h)

pub large_size : (n k : ℕ) → 2 ^ 63 ≤ n → 2 ^ 63 ≤ n * 10 ^ k
large_size n k h = omega (arith, no_less (10 ^ k) n (ten_pos k), swap n (10 ^ k))
  where
    swap : (x y : ℕ) → x * y ≡ y * x
    swap x y = omega arith

part_outside : (b : Bool) (n k : ℕ) → 0 < n → n < 10 ^ 36 → 55 ≤ k → Err Range ≡ bounded (ratio (signed b n) (10 ^ k))
part_outside b n k h small far = lowest_outside b n (10 ^ k) (ten_pos k) (gcd n (10 ^ k)) refl (λ _ low. beyond (10 ^ k / gcd n (10 ^ k)) (gcd n (10 ^ k)) low (div-mul_cancel (gcd n (10 ^ k)) (gcd_is n (10 ^ k)).1) (within (n / gcd n (10 ^ k)) (gcd n (10 ^ k)) (div-mul_cancel (gcd n (10 ^ k)) (gcd_is n (10 ^ k)).0)))
  where
    within : (x g : ℕ) → x * g ≡ n → g ≤ n
    within zero g e = absurd (omega (arith, e))
    within (suc x) g e = omega (arith, e, no_less (suc x) g (omega arith))

    beyond : (q g : ℕ) → q < 2 ^ 63 → q * g ≡ 10 ^ k → g ≤ n → ⊥
    beyond q g low whole divides = omega (arith, mul-lt q g (2 ^ 63) (10 ^ 36) low (omega arith), ten_mono 55 k far)

pub below_outside : (b : Bool) (n up down : ℕ) → up ≤ down → 0 < n → n < 10 ^ 36 → 55 ≤ down - up → Err Range ≡ bounded (scaled b n up down)
below_outside b n up down h above small far = part_outside b n (down - up) above small far ∙ ap bounded (scaled_below b n up down h)

-- ---- a power that is too large may be any other that is

same_zero : (b : Bool) (n up down up' down' : ℕ) → n ≡ 0 → bounded (scaled b n up down) ≡ bounded (scaled b n up' down')
same_zero b n up down up' down' e = ap bounded (sym (scaled_zero b n up down e) ∙ scaled_zero b n up' down' e)

up_capped : (b : Bool) (n z k e cap : ℕ) → k + 19 ≤ z + cap → bounded (scaled b n (z + min e cap) k) ≡ bounded (scaled b n (z + e) k)
up_capped b zero z k e cap h = same_zero b zero (z + min e cap) k (z + e) k refl
up_capped b (suc n) z k e cap h = elim (cases_lt e cap) [
  | inl small ↦ ap (λ m. bounded (scaled b (suc n) (z + m) k)) (omega arith)
  | inr large ↦ sym (far (min e cap) (omega arith)) ∙ far e large
]
  where
    far : (e : ℕ) → cap ≤ e → Err Range ≡ bounded (scaled b (suc n) (z + e) k)
    far e large = above_outside b (suc n) (z + e) k (omega arith) (large_power (suc n) (z + e - k) (omega arith) (omega arith))

down_capped : (b : Bool) (n z k e cap : ℕ) → n < 10 ^ 36 → z + 55 ≤ k + cap → bounded (scaled b n z (k + min e cap)) ≡ bounded (scaled b n z (k + e))
down_capped b zero z k e cap small h = same_zero b zero z (k + min e cap) z (k + e) refl
down_capped b (suc n) z k e cap small h = elim (cases_lt e cap) [
  | inl low ↦ ap (λ m. bounded (scaled b (suc n) z (k + m))) (omega arith)
  | inr large ↦ sym (far (min e cap) (omega arith)) ∙ far e large
]
  where
    far : (e : ℕ) → cap ≤ e → Err Range ≡ bounded (scaled b (suc n) z (k + e))
    far e large = below_outside b (suc n) z (k + e) (omega arith) (omega arith) small (omega arith)

-- zeros behind the digits are a power of ten
zeros_scaled : (b : Bool) (n z up down : ℕ) → scaled b n (z + up) down ≡ scaled b (n * 10 ^ z) up down
zeros_scaled b n z up down = ap (λ x. ratio (signed b x) (10 ^ down)) (ap (λ m. n * m) (pow-add 10 z up) ∙ regroup n (10 ^ z) (10 ^ up))
  where
    regroup : (n x y : ℕ) → n * (x * y) ≡ n * x * y
    regroup n x y = omega arith

pub exponent_minus : (b : Bool) (n z k e : ℕ) → n < 10 ^ 36 → z < 2 ^ 64 → bounded (scaled b n z (k + min e (2 ^ 67))) ≡ bounded (with_exponent true b (n * 10 ^ z) k e)
exponent_minus b n z k e small h =
    down_capped b n z k e (2 ^ 67) small (omega arith) ∙ ap bounded (ap (λ m. scaled b n m (k + e)) (none z) ∙ zeros_scaled b n z 0 (k + e))
  where
    none : (z : ℕ) → z ≡ z + 0
    none z = omega arith

pub exponent_plus : (b : Bool) (n z k e : ℕ) → k < 2 ^ 64 → bounded (scaled b n (z + min e (2 ^ 67)) k) ≡ bounded (with_exponent false b (n * 10 ^ z) k e)
exponent_plus b n z k e h = up_capped b n z k e (2 ^ 67) (omega arith) ∙ ap bounded (zeros_scaled b n z e k)

-- ---- the exponent as it was read

pub minus_read : (s b : Bool) (n z k e size z' : ℕ) {r : Result Ratio FracErr} → s ≡ true → z' ≡ z → size ≡ min e (2 ^ 67) → n < 10 ^ 36 → z < 2 ^ 64 →
    r ≡ bounded (scaled b n z' (k + size)) → r ≡ bounded (with_exponent s b (n * 10 ^ z) k e)
minus_read s b n z k e size z' es ez ee small h is =
    is ∙ ap₂ (λ x y. bounded (scaled b n x (k + y))) ez ee ∙ exponent_minus b n z k e small h ∙ ap (λ t. bounded (with_exponent t b (n * 10 ^ z) k e)) (sym es)

pub plus_read : (s b : Bool) (n z k e size z' : ℕ) {r : Result Ratio FracErr} → s ≡ false → z' ≡ z → size ≡ min e (2 ^ 67) → k < 2 ^ 64 →
    r ≡ bounded (scaled b n (z' + size) k) → r ≡ bounded (with_exponent s b (n * 10 ^ z) k e)
plus_read s b n z k e size z' es ez ee h is =
    is ∙ ap₂ (λ x y. bounded (scaled b n (x + y) k)) ez ee ∙ exponent_plus b n z k e h ∙ ap (λ t. bounded (with_exponent t b (n * 10 ^ z) k e)) (sym es)
