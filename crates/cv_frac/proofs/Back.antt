-- The numbers of a fraction in bounds give it back.
use Rattle.std.specs.Prelude.{ℕ, zero, suc, ◌<◌, ◌^◌, pos, unsigned_abs, true, ◌&&◌, nat_lt, Ok}
use Rattle.std.proofs.Common.{◌≡◌, refl, sym, ◌∙◌, ap, arith}
use Rattle.std.proofs.lemmas.Bool.Decides.{nat_tests}
use Rattle.cv_spec_ratio.specs.Ratio.{Ratio, ratio}
use Rattle.cv_spec_ratio.specs.Code.{ratio_self}
use Rattle.cv_frac.specs.Bounded.{bounded, of_numbers}

both_below : (m n : ℕ) → m < 2 ^ 63 → n < 2 ^ 63 → (nat_lt m (2 ^ 63) && nat_lt n (2 ^ 63)) ≡ true
both_below m n h k = rw (is_below m h, is_below n k) refl
  where
    is_below : (m : ℕ) → m < 2 ^ 63 → nat_lt m (2 ^ 63) ≡ true
    is_below m h = grind (arith, nat_tests)

pub back : (r : Ratio) → unsigned_abs r.top < 2 ^ 63 → r.bottom < 2 ^ 63 → of_numbers r.top (pos r.bottom) ≡ Ok r
back r h k = by_bottom r.bottom refl
  where
    kept : bounded r ≡ Ok r
    kept = rw (both_below (unsigned_abs r.top) r.bottom h k) refl

    by_bottom : (q : ℕ) → r.bottom ≡ q → of_numbers r.top (pos q) ≡ Ok r
    by_bottom zero e = absurd (omega (arith, r.positive))
    by_bottom (suc q) e = ap bounded (ap (ratio r.top) (sym e) ∙ ratio_self r) ∙ kept
