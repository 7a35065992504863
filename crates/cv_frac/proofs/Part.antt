-- Common divisors of a size, a bottom and a further divisor are cancelled one after the other.
use Rattle.std.specs.Prelude.{Bool, ℕ, zero, suc, ◌*◌, ◌/◌, ◌<◌, ◌≤◌, ◌^◌, Err}
use Rattle.std.proofs.Common.{◌≡◌, sym, ◌∙◌, ap, ap₂, subst, arith}
use Rattle.std.proofs.Math.Nat.{div-mul_cancel, dvd-mul_right}
use Rattle.std.specs.Int.{◌∣◌}
use Rattle.cv_spec_ratio.specs.Gcd.{gcd}
use Rattle.cv_spec_ratio.specs.Cancelled.{gcd_is, gcd_pos, gcd-div, div-gcd_pos}
use Rattle.cv_spec_ratio.proofs.Gcd.{gcd_one_of_dvd, gcd-mul_one}
use Rattle.cv_spec_ratio.specs.Ratio.{ratio, signed}
use Rattle.cv_spec_ratio.proofs.Laws.{ratio_cancel, positive_product}
use Rattle.cv_frac.specs.declared.error.FracErr.TheVariants.{Range}
use Rattle.cv_frac.specs.Bounded.{bounded}
use Rattle.cv_frac.proofs.Lowest.{lowest_outside}

-- a quotient by 1 of a product is no less than its first factor
shrink : (x y : ℕ) → 0 < y → x * y / 1 < 2 ^ 63 → x < 2 ^ 63
shrink x zero h small = absurd (omega arith)
shrink x (suc y) h small = omega (arith, bigger x y)
  where
    bigger : (x y : ℕ) → x ≤ x * suc y
    bigger x y = omega arith

module _ (b : Bool) (n q d : ℕ) (pos_q : 0 < q) (pos_d : 0 < d) (g : ℕ) (g_is : g ≡ gcd n d) (k : ℕ) (k_is : k ≡ gcd (n / g) q) where
  whole_n : n / g * g ≡ n
  whole_n = subst (λ (m : ℕ). n / m * m ≡ n) (sym g_is) (div-mul_cancel (gcd n d) (gcd_is n d).0)

  whole_d : d / g * g ≡ d
  whole_d = subst (λ (m : ℕ). d / m * m ≡ d) (sym g_is) (div-mul_cancel (gcd n d) (gcd_is n d).1)

  whole_size : n / g / k * k ≡ n / g
  whole_size = subst (λ (m : ℕ). n / g / m * m ≡ n / g) (sym k_is) (div-mul_cancel (gcd (n / g) q) (gcd_is (n / g) q).0)

  whole_q : q / k * k ≡ q
  whole_q = subst (λ (m : ℕ). q / m * m ≡ q) (sym k_is) (div-mul_cancel (gcd (n / g) q) (gcd_is (n / g) q).1)

  pub shared_pos : 0 < g
  shared_pos = subst (λ (m : ℕ). 0 < m) (sym g_is) (gcd_pos n d pos_d)

  pub common_pos : 0 < k
  common_pos = subst (λ (m : ℕ). 0 < m) (sym k_is) (gcd_pos (n / g) q pos_q)

  pub rest_pos : 0 < d / g
  rest_pos = subst (λ (m : ℕ). 0 < d / m) (sym g_is) (div-gcd_pos n d pos_d)

  low_pos : 0 < q / k
  low_pos = subst (λ (m : ℕ). 0 < q / m) (sym k_is) (div-gcd_pos (n / g) q pos_q)

  pub low_bottom_pos : 0 < q / k * (d / g)
  low_bottom_pos = positive_product (q / k) (d / g) low_pos rest_pos

  -- the two divisors are cancelled
  pub part_same : ratio (signed b (n / g / k)) (q / k * (d / g)) ≡ ratio (signed b n) (q * d)
  part_same =
      sym (ratio_cancel b (n / g / k) (q / k * (d / g)) (k * g) low_bottom_pos (positive_product k g common_pos shared_pos))
      ∙ ap₂ (λ p r. ratio (signed b p) r) tops bottoms
    where
      tops : n / g / k * (k * g) ≡ n
      tops = omega (arith, ap (λ m. m * g) whole_size, whole_n)

      regroup : (x y u v : ℕ) → x * y * (u * v) ≡ (x * u) * (y * v)
      regroup x y u v = omega arith

      bottoms : q / k * (d / g) * (k * g) ≡ q * d
      bottoms = regroup (q / k) (d / g) k g ∙ ap₂ (λ x y. x * y) whole_q whole_d

  -- what is left has no common divisor
  apart : gcd (n / g / k) (q / k * (d / g)) ≡ 1
  apart = gcd-mul_one (n / g / k) (q / k) (d / g) (subst (λ (m : ℕ). gcd (n / g / m) (q / m) ≡ 1) (sym k_is) (gcd-div (n / g) q pos_q))
      (gcd_one_of_dvd (n / g / k) (n / g) (d / g) (subst (λ (m : ℕ). n / g / k ∣ m) whole_size (dvd-mul_right (n / g / k) k)) (subst (λ (m : ℕ). gcd (n / m) (d / m) ≡ 1) (sym g_is) (gcd-div n d pos_d)))

  -- a bottom that is too large before it is multiplied by the rest is too large
  pub part_outside : (q / k < 2 ^ 63 → ⊥) → Err Range ≡ bounded (ratio (signed b n) (q * d))
  part_outside large = lowest_outside b (n / g / k) (q / k * (d / g)) low_bottom_pos 1 (sym apart) (λ _ small. large (shrink (q / k) (d / g) rest_pos small)) ∙ ap bounded part_same
