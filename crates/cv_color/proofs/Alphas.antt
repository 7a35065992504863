-- The alpha of a byte is a fraction within bounds.
use Rattle.std.specs.Prelude.{ℕ, true, ◌/◌, ◌<◌, ◌≤◌, ◌^◌, ◌&&◌, nat_lt, unsigned_abs, Ok}
use Rattle.std.proofs.Common.{◌≡◌, refl, sym, subst, arith, pos}
use Rattle.std.proofs.lemmas.Bool.Decides.{nat_tests}
use Rattle.cv_spec_ratio.specs.Gcd.{gcd}
use Rattle.cv_spec_ratio.specs.Cancelled.{unsigned_abs-int_div}
use Rattle.cv_spec_ratio.specs.Ratio.{ratio}
use Rattle.cv_frac.specs.Bounded.{of_numbers}

less : (n g : ℕ) → n / g ≤ n
less n g = grind arith

passes : (a b : ℕ) → a < 256 → b < 256 → (nat_lt a (2 ^ 63) && nat_lt b (2 ^ 63)) ≡ true
passes a b h k = grind (arith, nat_tests)

small_top : (n : ℕ) → n < 256 → unsigned_abs (ratio (pos n) 255).top < 256
unfolding ratio
small_top n h = subst (λ k. k < 256) (sym (unsigned_abs-int_div (pos n) (gcd n 255))) (omega (arith, h, less n (gcd n 255)))

small_bottom : (n : ℕ) → (ratio (pos n) 255).bottom < 256
unfolding ratio
small_bottom n = omega (arith, less 255 (gcd n 255))

pub alpha_fits : (n : ℕ) → n < 256 → of_numbers (pos n) (pos 255) ≡ Ok (ratio (pos n) 255)
alpha_fits n h = rw (passes (unsigned_abs (ratio (pos n) 255).top) (ratio (pos n) 255).bottom (small_top n h) (small_bottom n)) refl
