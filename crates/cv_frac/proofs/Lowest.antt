-- The numbers of a fraction in lowest terms, and what it is within bounds.
use Rattle.std.specs.Prelude.{Bool, true, false, ℕ, zero, suc, ◌/◌, ◌<◌, ◌^◌, ℤ, pos, neg_ℤ, unsigned_abs, int_div, Ok, Err}
use Rattle.std.proofs.Common.{◌≡◌, refl, sym, ◌∙◌, ap, subst, arith}
use Rattle.std.proofs.Math.Path.{ap₂}
use Rattle.std.proofs.Math.Nat.{zero-div}
use Rattle.std.proofs.lemmas.Bool.Decides.{nat_tests}
use Rattle.cv_spec_ratio.specs.Gcd.{gcd}
use Rattle.cv_spec_ratio.specs.Cancelled.{gcd_pos, div-gcd_pos, gcd-div}
use Rattle.cv_spec_ratio.specs.Ratio.{Ratio, ratio, signed}
use Rattle.cv_spec_ratio.specs.Code.{ratio_self}
use Rattle.cv_spec_ratio.proofs.LowestTerms.{ratio-top, ratio-bottom}
use Rattle.cv_frac.specs.declared.error.FracErr.TheVariants.{Range}
use Rattle.cv_frac.specs.Bounded.{bounded}
use Rattle.cv_frac.specs.Frac.{IsFrac}

pub unsigned_abs-signed : (b : Bool) (n : ℕ) → unsigned_abs (signed b n) ≡ n
unsigned_abs-signed false n = refl
unsigned_abs-signed true zero = refl
unsigned_abs-signed true (suc n) = refl

int_div-signed : (b : Bool) (n g : ℕ) → int_div (signed b n) (pos g) ≡ signed b (n / g)
int_div-signed false n g = refl
int_div-signed true zero g = nothing (0 / g) (zero-div g)
  where
    nothing : (n : ℕ) → n ≡ 0 → pos n ≡ neg_ℤ (pos n)
    nothing n e = rw e refl
int_div-signed true (suc n) g = refl

pub bounded_inside : (r : Ratio) → unsigned_abs r.top < 2 ^ 63 → r.bottom < 2 ^ 63 → bounded r ≡ Ok r
bounded_inside r h k = grind (arith, nat_tests)

pub bounded_outside : (r : Ratio) → (unsigned_abs r.top < 2 ^ 63 → r.bottom < 2 ^ 63 → ⊥) → bounded r ≡ Err Range
bounded_outside r h = grind (arith, nat_tests)

module _ (b : Bool) (n q : ℕ) (h : 0 < q) where
  abbrev whole : Ratio
  whole = ratio (signed b n) q

  lowest-top : whole.top ≡ signed b (n / gcd n q)
  lowest-top = ratio-top (signed b n) q h ∙ ap (λ k. int_div (signed b n) (pos (gcd k q))) (unsigned_abs-signed b n) ∙ int_div-signed b n (gcd n q)

  lowest-bottom : whole.bottom ≡ q / gcd n q
  lowest-bottom = ratio-bottom (signed b n) q h ∙ ap (λ k. q / gcd k q) (unsigned_abs-signed b n)

  -- d is the greatest common divisor, and t the quotient with the sign
  module _ (d : ℕ) (is : d ≡ gcd n q) where
    pub divisor_pos : 0 < d
    divisor_pos = subst (λ (k : ℕ). 0 < k) (sym is) (gcd_pos n q h)

    lowest_size : unsigned_abs whole.top ≡ n / d
    lowest_size = ap unsigned_abs lowest-top ∙ unsigned_abs-signed b (n / gcd n q) ∙ ap (λ k. n / k) (sym is)

    lowest_bottom_is : whole.bottom ≡ q / d
    lowest_bottom_is = lowest-bottom ∙ ap (λ k. q / k) (sym is)

    module _ (t : ℤ) (top_is : t ≡ signed b (n / d)) where
      size_is : unsigned_abs t ≡ n / d
      size_is = ap unsigned_abs top_is ∙ unsigned_abs-signed b (n / d)

      top_same : t ≡ whole.top
      top_same = top_is ∙ ap (λ k. signed b (n / k)) is ∙ sym lowest-top

      -- the fields are those of a fraction, and this fraction
      pub lowest_is : n / d < 2 ^ 63 → q / d < 2 ^ 63 → IsFrac (record { top = t; bottom = q / d })
      lowest_is small_top small_bottom = record {
        positive = subst (λ (k : ℕ). 0 < q / k) (sym is) (div-gcd_pos n q h);
        small_top = subst (λ (k : ℕ). k < 2 ^ 63) (sym size_is) small_top;
        small_bottom = small_bottom;
        lowest = ap₂ gcd size_is refl ∙ ap (λ k. gcd (n / k) (q / k)) is ∙ gcd-div n q h;
      }

      pub lowest_bounded : n / d < 2 ^ 63 → q / d < 2 ^ 63 → Ok (ratio t (q / d)) ≡ bounded whole
      lowest_bounded small_top small_bottom =
          ap Ok (ap₂ ratio top_same (sym lowest_bottom_is) ∙ ratio_self whole)
          ∙ sym (bounded_inside whole (subst (λ (k : ℕ). k < 2 ^ 63) (sym lowest_size) small_top) (subst (λ (k : ℕ). k < 2 ^ 63) (sym lowest_bottom_is) small_bottom))

    pub lowest_outside : (n / d < 2 ^ 63 → q / d < 2 ^ 63 → ⊥) → Err Range ≡ bounded whole
    lowest_outside not_both = sym (bounded_outside whole (λ small_top small_bottom. not_both (subst (λ (k : ℕ). k < 2 ^ 63) lowest_size small_top) (subst (λ (k : ℕ). k < 2 ^ 63) lowest_bottom_is small_bottom)))
