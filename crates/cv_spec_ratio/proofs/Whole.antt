-- Whole numbers as fractions: their order is that of the numbers.
use Rattle.std.specs.Prelude.{Bool, true, false, ◌*ℤ◌, unsigned_abs, min, max, nat_lt, nat_le}
use Rattle.std.proofs.Common.{◌≡◌, ℕ, refl, ◌∙◌, ap, ap₂, arith, ℤ, pos, cond}
use Rattle.std.specs.Ordering.{int_cmp, is_le}
use Rattle.std.specs.declared.cmp.Ordering.TheVariants.{Less, Equal, Greater}
use Rattle.std.proofs.lemmas.Bool.Decides.{nat_tests}
use borrow.Author.Differences.{up, down}
use Rattle.cv_spec_ratio.proofs.Difference.{dif, dif_same, as_dif, differences}
use Rattle.cv_spec_ratio.specs.Cancelled.{gcd_one}
use Rattle.cv_spec_ratio.specs.Code.{top_kept, bottom_kept}
use Rattle.cv_spec_ratio.specs.Ratio.{ratio}
use Rattle.cv_spec_ratio.specs.Order.{ratio_cmp, at_most, lesser, greater}

pub whole_top : (z : ℤ) → (ratio z 1).top ≡ z
whole_top z = top_kept z 1 (omega arith) (gcd_one (unsigned_abs z))

pub whole_bottom : (z : ℤ) → (ratio z 1).bottom ≡ 1
whole_bottom z = bottom_kept z 1 (omega arith) (gcd_one (unsigned_abs z))

times_one : (z : ℤ) → z *ℤ pos 1 ≡ z
times_one z = step (up z) (down z) (as_dif z)
  where
    step : (x x' : ℕ) → z ≡ dif x x' → z *ℤ pos 1 ≡ z
    step x x' e = rw e (simp differences (dif_same _ _ _ _ (omega arith)))

pub whole_cmp : (y z : ℤ) → ratio_cmp (ratio y 1) (ratio z 1) ≡ int_cmp y z
whole_cmp y z = ap₂ int_cmp
    (ap₂ (λ t b. t *ℤ pos b) (whole_top y) (whole_bottom z) ∙ times_one y)
    (ap₂ (λ t b. t *ℤ pos b) (whole_top z) (whole_bottom y) ∙ times_one z)

at_most_whole : (a b : ℕ) → at_most (ratio (pos a) 1) (ratio (pos b) 1) ≡ nat_le a b
at_most_whole a b = ap is_le (whole_cmp (pos a) (pos b)) ∙ go (nat_lt a b) (nat_lt b a) refl refl
  where
    go : (s t : Bool) → nat_lt a b ≡ s → nat_lt b a ≡ t → is_le (cond s Less (cond t Greater Equal)) ≡ nat_le a b
    go true t e f = grind (arith, nat_tests)
    go false true e f = grind (arith, nat_tests)
    go false false e f = grind (arith, nat_tests)

pub lesser_whole : (a b : ℕ) → lesser (ratio (pos a) 1) (ratio (pos b) 1) ≡ ratio (pos (min a b)) 1
lesser_whole a b = go (nat_le a b) refl
  where
    go : (t : Bool) → nat_le a b ≡ t → lesser (ratio (pos a) 1) (ratio (pos b) 1) ≡ ratio (pos (min a b)) 1
    go true e = rw (at_most_whole a b ∙ e) (ap (λ n. ratio (pos n) 1) (grind (arith, nat_tests)))
    go false e = rw (at_most_whole a b ∙ e) (ap (λ n. ratio (pos n) 1) (grind (arith, nat_tests)))

pub greater_whole : (a b : ℕ) → greater (ratio (pos a) 1) (ratio (pos b) 1) ≡ ratio (pos (max a b)) 1
greater_whole a b = go (nat_le a b) refl
  where
    go : (t : Bool) → nat_le a b ≡ t → greater (ratio (pos a) 1) (ratio (pos b) 1) ≡ ratio (pos (max a b)) 1
    go true e = rw (at_most_whole a b ∙ e) (ap (λ n. ratio (pos n) 1) (grind (arith, nat_tests)))
    go false e = rw (at_most_whole a b ∙ e) (ap (λ n. ratio (pos n) 1) (grind (arith, nat_tests)))
