-- Products, powers and reciprocals of positive fractions are positive.
use Rattle.std.specs.Prelude.{true, ℤ, pos, negsuc, neg_ℤ, zero, suc, ◌*ℤ◌, Some, [], ◌∷◌}
use Rattle.std.proofs.Common.{◌≡◌, ℕ, ◌*◌, ◌<◌, refl, arith}
use Rattle.cv_spec_ratio.specs.Ratio.{Ratio, ratio, mul, reciprocal, reciprocal_by, one_ratio}
use Rattle.cv_spec_ratio.proofs.Laws.{mul_stands, positive_product}
use Rattle.cv_spec_ratio.proofs.LowestTerms.{StandsFor, ratio_stands, stands_self}
use Rattle.cv_calc.specs.Value.{Meaning, unit_value}
use Rattle.cv_om.specs.UnitMap.{Powers}
use Rattle.cv_om_laws.specs.Valued.{is_above_zero, IsPositive, HasPositiveUnits}
use Rattle.cv_om_laws.specs.Powers.{raised, or_one, to_power, units_value}
use Rattle.cv_om_laws.proofs.Raised.{reciprocal_product}

sign : (t : ℤ) (q n : ℕ) → 0 < q → 0 < n → t *ℤ pos q ≡ pos n → is_above_zero t ≡ true
sign (pos zero) q n h k e = let same : 0 * q ≡ n = cc in absurd (omega (arith, same, k))
sign (pos (suc t)) q n h k e = refl
sign (negsuc t) zero n h k e = absurd (omega arith)
sign (negsuc t) (suc q) n h k e = absurd (not_below (suc t * suc q) n (positive_product (suc t) (suc q) (omega arith) (omega arith)) e)
  where
    not_below : (k n : ℕ) → 0 < k → neg_ℤ (pos k) ≡ pos n → ⊥
    not_below zero n h e = omega arith
    not_below (suc k) n h e = cc

stands_positive : (r : Ratio) (p : ℤ) (q : ℕ) → StandsFor r p q → is_above_zero p ≡ true → IsPositive r
stands_positive r (pos zero) q h k = cc
stands_positive r (negsuc n) q h k = cc
stands_positive r (pos (suc n)) q h k = sign r.top q (suc n * r.bottom) h.positive (positive_product (suc n) r.bottom (omega arith) r.positive) h.cross

above_product : (t u : ℤ) → is_above_zero t ≡ true → is_above_zero u ≡ true → is_above_zero (t *ℤ u) ≡ true
above_product (pos (suc a)) (pos (suc b)) h k = is_suc (suc a * suc b) (positive_product (suc a) (suc b) (omega arith) (omega arith))
  where
    is_suc : (n : ℕ) → 0 < n → is_above_zero (pos n) ≡ true
    is_suc zero h = absurd (omega arith)
    is_suc (suc n) h = refl
above_product (pos zero) u h k = cc
above_product (negsuc a) u h k = cc
above_product (pos (suc a)) (pos zero) h k = cc
above_product (pos (suc a)) (negsuc b) h k = cc

pub product_positive : (r s : Ratio) → IsPositive r → IsPositive s → IsPositive (mul r s)
product_positive r s h k = stands_positive (mul r s) (r.top *ℤ s.top) (r.bottom * s.bottom) (mul_stands r s r.top s.top r.bottom s.bottom (stands_self r) (stands_self s)) (above_product r.top s.top h k)

one_positive : IsPositive one_ratio
unfolding one_ratio
one_positive = stands_positive (ratio (pos 1) 1) (pos 1) 1 (ratio_stands (pos 1) 1 (omega arith)) refl

raised_positive : (f : Ratio) → IsPositive f → (n : ℕ) → IsPositive (raised f n)
unfolding raised
raised_positive f h zero = one_positive
raised_positive f h (suc n) = product_positive f (raised f n) h (raised_positive f h n)

-- the reciprocal of a positive fraction is there, and is positive
pub record Flipped (f : Ratio) : Type 0 where
  pub is : reciprocal f ≡ Some (or_one (reciprocal f))
  pub positive : IsPositive (or_one (reciprocal f))

pub flipped : (f : Ratio) → IsPositive f → Flipped f
unfolding reciprocal reciprocal_by
flipped f h = record { is = there f.top f.bottom h; positive = above f.top f.bottom f.positive h }
  where
    there : (t : ℤ) (q : ℕ) → is_above_zero t ≡ true → reciprocal_by t q ≡ Some (or_one (reciprocal_by t q))
    there (pos zero) q h = cc
    there (pos (suc n)) q h = refl
    there (negsuc n) q h = cc

    above : (t : ℤ) (q : ℕ) → 0 < q → is_above_zero t ≡ true → IsPositive (or_one (reciprocal_by t q))
    above (pos zero) q p h = cc
    above (negsuc n) q p h = cc
    above (pos (suc n)) zero p h = absurd (omega arith)
    above (pos (suc n)) (suc q) p h = stands_positive (ratio (pos (suc q)) (suc n)) (pos (suc q)) (suc n) (ratio_stands (pos (suc q)) (suc n) (omega arith)) refl

pub flipped_inverse : (f : Ratio) → IsPositive f → mul f (or_one (reciprocal f)) ≡ one_ratio
flipped_inverse f h = reciprocal_product f (or_one (reciprocal f)) (flipped f h).is

power_positive : (f : Ratio) → IsPositive f → (z : ℤ) → IsPositive (to_power f z)
power_positive f h (pos n) = raised_positive f h n
power_positive f h (negsuc n) = raised_positive (or_one (reciprocal f)) (flipped f h).positive (suc n)

pub units_positive : (m : Meaning) → HasPositiveUnits m → (ps : Powers) → IsPositive (units_value m ps)
unfolding units_value
units_positive m h [] = one_positive
units_positive m h (p ∷ ps) = product_positive (to_power (unit_value m p.0) p.1) (units_value m ps) (power_positive (unit_value m p.0) (h p.0) p.1) (units_positive m h ps)
