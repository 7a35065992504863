-- Channels stay within a byte.
use Rattle.std.specs.Prelude.{Bool, true, false, cond, ◌*◌, ◌+◌, ◌/◌, ◌<◌, ◌≤◌, ◌*ℤ◌, ◌+ℤ◌, unsigned_abs, int_lt}
use Rattle.std.specs.Int.{int_div_euclid}
use Rattle.std.specs.Ordering.{int_cmp, is_lt, ord_min, ord_max}
use Rattle.std.specs.declared.cmp.Ordering.TheVariants.{Less, Equal, Greater}
use Rattle.std.proofs.Common.{◌≡◌, ℕ, refl, sym, ◌∙◌, ap, ap₂, subst, arith, ℤ, pos, negsuc}
use Rattle.std.proofs.lemmas.Int.{ints}
use Rattle.std.proofs.Math.Nat.{div-lt_iff_lt-mul}
use Rattle.cv_spec_ratio.specs.Ratio.{Ratio, ratio}
use Rattle.cv_spec_ratio.specs.Order.{ratio_cmp}
use Rattle.cv_spec_ratio.proofs.Whole.{whole_top, whole_bottom}
use Rattle.cv_frac.specs.Rounded.{half_up}
use Rattle.cv_color.specs.Channels.{clamped, channel}

-- a comparison is Less where the first number is below the second
less_is : (a b : ℤ) → is_lt (int_cmp a b) ≡ int_lt a b
less_is a b = go (int_lt a b) (int_lt b a)
  where
    go : (s t : Bool) → is_lt (cond s Less (cond t Greater Equal)) ≡ s
    go true t = refl
    go false true = refl
    go false false = refl

whole_lt : (z : ℤ) (v : Ratio) → is_lt (ratio_cmp (ratio z 1) v) ≡ int_lt (z *ℤ pos v.bottom) (v.top *ℤ pos 1)
whole_lt z v =
    less_is ((ratio z 1).top *ℤ pos v.bottom) (v.top *ℤ pos (ratio z 1).bottom)
    ∙ ap₂ (λ t b. int_lt (t *ℤ pos v.bottom) (v.top *ℤ pos b)) (whole_top z) (whole_bottom z)

-- the fraction isn't below 0
abbrev IsNatural : Ratio → Type 0
IsNatural v = (n : ℕ) × (v.top ≡ pos n)

-- nor above a whole number
abbrev IsWithin : ℕ → Ratio → Type 0
IsWithin most v = (n : ℕ) × (v.top ≡ pos n) × (n ≤ most * v.bottom)

natural : (t : ℤ) (b : ℕ) → int_lt (pos 0 *ℤ pos b) (t *ℤ pos 1) ≡ true → (n : ℕ) × (t ≡ pos n)
natural (pos n) b h = (n, refl)
natural (negsuc n) b h = absurd (omega (arith, ints, h))

from_zero : (v : Ratio) → IsNatural (ord_max ratio_cmp v (ratio (pos 0) 1))
from_zero v = go (is_lt (ratio_cmp (ratio (pos 0) 1) v)) refl
  where
    go : (b : Bool) → is_lt (ratio_cmp (ratio (pos 0) 1) v) ≡ b → IsNatural (cond b v (ratio (pos 0) 1))
    go true e = natural v.top v.bottom (sym (whole_lt (pos 0) v) ∙ e)
    go false e = (0, whole_top (pos 0))

at_most : (most n b : ℕ) → int_lt (pos most *ℤ pos b) (pos n *ℤ pos 1) ≡ false → n ≤ most * b
at_most most n b h = omega (arith, ints, h)

up_to : (most : ℕ) (v : Ratio) → IsNatural v → IsWithin most (ord_min ratio_cmp v (ratio (pos most) 1))
up_to most v (n, is) = go (is_lt (ratio_cmp (ratio (pos most) 1) v)) refl
  where
    go : (b : Bool) → is_lt (ratio_cmp (ratio (pos most) 1) v) ≡ b → IsWithin most (cond b (ratio (pos most) 1) v)
    go true e = (most, whole_top (pos most), subst (λ k. most ≤ most * k) (sym (whole_bottom (pos most))) (omega arith))
    go false e = (n, is, at_most most n v.bottom (ap (λ t. int_lt (pos most *ℤ pos v.bottom) (t *ℤ pos 1)) (sym is) ∙ sym (whole_lt (pos most) v) ∙ e))

within : (most : ℕ) (v : Ratio) → IsWithin most (clamped most v)
within most v = up_to most (ord_max ratio_cmp v (ratio (pos 0) 1)) (from_zero v)

small : (n b : ℕ) → n ≤ 255 * b → 0 < b → (n * 2 + b) / (b * 2) < 256
small n b h p = (div-lt_iff_lt-mul (omega (arith, p))).1 (omega (arith, h, p))

rounded : (t : ℤ) (n b : ℕ) → t ≡ pos n → n ≤ 255 * b → 0 < b → unsigned_abs (int_div_euclid (t *ℤ pos 2 +ℤ pos b) (pos (b * 2))) < 256
rounded t n b e h p = subst (λ z. unsigned_abs (int_div_euclid (z *ℤ pos 2 +ℤ pos b) (pos (b * 2))) < 256) (sym e) (small n b h p)

pub channel_small : (v : Ratio) → channel v < 256
unfolding half_up
channel_small v =
    let (n, is, most) = within 255 v in rounded (clamped 255 v).top n (clamped 255 v).bottom is most (clamped 255 v).positive
