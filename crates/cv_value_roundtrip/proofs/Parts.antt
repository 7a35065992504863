-- Fractions from 0 to a whole number, which are their own nearest.
use Rattle.std.specs.Prelude.{ℕ, Bool, true, false, cond, ℤ, pos, ◌*ℤ◌, ◌<◌, ◌≤◌, unsigned_abs, int_lt}
use Rattle.std.specs.Ordering.{int_cmp, is_lt, is_eq, ord_min, ord_max, eq_by_cmp}
use Rattle.std.specs.declared.cmp.Ordering.TheVariants.{Less, Equal, Greater}
use Rattle.std.proofs.Common.{◌≡◌, refl, sym, ◌∙◌, ap, ap₂, arith}
use Rattle.std.proofs.lemmas.Int.{ints}
use Rattle.cv_spec_ratio.specs.Ratio.{Ratio, ratio, zero_ratio}
use Rattle.cv_spec_ratio.specs.Order.{ratio_cmp}
use Rattle.cv_spec_ratio.proofs.LowestTerms.{same_ratio}
use Rattle.cv_spec_ratio.proofs.Pairs.{cmp_pairs}
use Rattle.cv_spec_ratio.proofs.Whole.{whole_top, whole_bottom, whole_cmp}
use Rattle.cv_frac.specs.Bounded.{in_bounds}
use Rattle.cv_frac.specs.Rounded.{half_up}
use Rattle.cv_simplify.proofs.Numbers.{bounded_is}
use Rattle.cv_color.specs.Channels.{clamped, channel}
use Rattle.cv_color.proofs.Alphas.{alpha_fits}
use Rattle.cv_calc_roundtrip.proofs.Numerals.{whole_inside}
use Rattle.cv_value_roundtrip.specs.Numbers.{IsNatural}
use Rattle.cv_value_roundtrip.proofs.Ranges.{not_below, some_top, nothing_top, zero_is, pair_natural}
use Rattle.cv_value_roundtrip.proofs.Whole.{half_whole}

abbrev pub whole_ratio : ℕ → Ratio
whole_ratio n = ratio (pos n) 1

-- the fraction is above the other
abbrev pub is_above : Ratio → Ratio → Bool
is_above a b = is_lt (ratio_cmp b a)

-- ---- comparisons

less_is : (a b : ℤ) → is_lt (int_cmp a b) ≡ int_lt a b
less_is a b = go (int_lt a b) (int_lt b a)
  where
    go : (s t : Bool) → is_lt (cond s Less (cond t Greater Equal)) ≡ s
    go true t = refl
    go false true = refl
    go false false = refl

equal_by : (s t : Bool) → is_eq (cond s Less (cond t Greater Equal)) ≡ true → (s ≡ false) × (t ≡ false)
equal_by true t h = cc
equal_by false true h = cc
equal_by false false h = (refl, refl)

neither : (a b : ℤ) → int_lt a b ≡ false → int_lt b a ≡ false → a ≡ b
neither a b h k = omega (arith, ints, h, k)

pub equal_is : (r s : Ratio) → eq_by_cmp ratio_cmp r s ≡ true → r ≡ s
equal_is r s h =
    let (below, above) = equal_by (int_lt (r.top *ℤ pos s.bottom) (s.top *ℤ pos r.bottom)) (int_lt (s.top *ℤ pos r.bottom) (r.top *ℤ pos s.bottom)) h in
    same_ratio r s (neither (r.top *ℤ pos s.bottom) (s.top *ℤ pos r.bottom) below above)

above_zero : (v : Ratio) → is_above v (whole_ratio 0) ≡ int_lt (pos 0 *ℤ pos v.bottom) (v.top *ℤ pos 1)
above_zero v =
    less_is ((whole_ratio 0).top *ℤ pos v.bottom) (v.top *ℤ pos (whole_ratio 0).bottom)
    ∙ ap₂ (λ t b. int_lt (t *ℤ pos v.bottom) (v.top *ℤ pos b)) (whole_top (pos 0)) (whole_bottom (pos 0))

not_more : (m n : ℕ) → n ≤ m → is_above (whole_ratio n) (whole_ratio m) ≡ false
not_more m n h = ap is_lt (whole_cmp (pos m) (pos n)) ∙ less_is (pos m) (pos n) ∙ go (int_lt (pos m) (pos n)) refl
  where
    go : (b : Bool) → int_lt (pos m) (pos n) ≡ b → int_lt (pos m) (pos n) ≡ false
    go true e = absurd (omega (arith, ints, h, e))
    go false e = e

-- ---- what is its own nearest

zero_same : (v : Ratio) → v.top ≡ pos 0 → whole_ratio 0 ≡ v
unfolding zero_ratio
zero_same v h = zero_is v h

natural_kept : (v : Ratio) → IsNatural v → ord_max ratio_cmp v (whole_ratio 0) ≡ v
natural_kept v h = go (is_above v (whole_ratio 0)) refl
  where
    go : (b : Bool) → is_above v (whole_ratio 0) ≡ b → cond b v (whole_ratio 0) ≡ v
    go true e = refl
    go false e = zero_same v (nothing_top v.top v.bottom h (sym (above_zero v) ∙ e))

pub within_kept : (most : ℕ) (v : Ratio) → IsNatural v → is_above v (whole_ratio most) ≡ false → clamped most v ≡ v
within_kept most v h k = ap (λ (w : Ratio). ord_min ratio_cmp w (whole_ratio most)) (natural_kept v h) ∙ ap (λ b. cond b (whole_ratio most) v) k

pub whole_natural : (n : ℕ) → IsNatural (whole_ratio n)
whole_natural n = ap (λ t. int_lt t (pos 0)) (whole_top (pos n)) ∙ not_below n

pub whole_kept : (most n : ℕ) → n ≤ most → clamped most (whole_ratio n) ≡ whole_ratio n
whole_kept most n h = within_kept most (whole_ratio n) (whole_natural n) (not_more most n h)

-- a byte is its own channel
pub channel_kept : (n : ℕ) → n < 256 → channel (whole_ratio n) ≡ n
channel_kept n h = ap (λ (v : Ratio). unsigned_abs (half_up v)) (whole_kept 255 n (omega (arith, h))) ∙ ap unsigned_abs (half_whole (pos n))

-- ---- parts of one

-- the fraction lies from 0 to 1, and is in bounds
pub record IsPart (a : Ratio) : Type 0 where
  pub natural : IsNatural a
  pub at_most_one : is_above a (whole_ratio 1) ≡ false
  pub small : in_bounds a ≡ true

pub part_kept : (a : Ratio) → IsPart a → clamped 1 a ≡ a
part_kept a p = within_kept 1 a p.natural p.at_most_one

pub whole_part : (n : ℕ) → n ≤ 1 → IsPart (whole_ratio n)
whole_part n h = record { natural = whole_natural n; at_most_one = not_more 1 n h; small = whole_inside (pos n) (omega (arith, h)) }

pub clamped_part : (v : Ratio) → in_bounds v ≡ true → IsPart (clamped 1 v)
clamped_part v small = most (ord_max ratio_cmp v (whole_ratio 0)) (natural v small).0 (natural v small).1
  where
    natural : (v : Ratio) → in_bounds v ≡ true → IsNatural (ord_max ratio_cmp v (whole_ratio 0)) × (in_bounds (ord_max ratio_cmp v (whole_ratio 0)) ≡ true)
    natural v small = go (is_above v (whole_ratio 0)) refl
      where
        go : (b : Bool) → is_above v (whole_ratio 0) ≡ b → IsNatural (cond b v (whole_ratio 0)) × (in_bounds (cond b v (whole_ratio 0)) ≡ true)
        go true e = (some_top v.top v.bottom (sym (above_zero v) ∙ e), small)
        go false e = (whole_natural 0, whole_inside (pos 0) (omega arith))

    most : (w : Ratio) → IsNatural w → in_bounds w ≡ true → IsPart (ord_min ratio_cmp w (whole_ratio 1))
    most w natural small = go (is_above w (whole_ratio 1)) refl
      where
        go : (b : Bool) → is_above w (whole_ratio 1) ≡ b → IsPart (cond b (whole_ratio 1) w)
        go true e = whole_part 1 (omega arith)
        go false e = record { natural = natural; at_most_one = e; small = small }

-- a byte over 255
pub byte_part : (n : ℕ) → n < 256 → IsPart (ratio (pos n) 255)
byte_part n h = record {
  natural = pair_natural n 255 (omega arith);
  at_most_one = ap is_lt (cmp_pairs (pos 1) (pos n) 1 255 (omega arith) (omega arith)) ∙ less_is (pos 1 *ℤ pos 255) (pos n *ℤ pos 1) ∙ go (int_lt (pos 1 *ℤ pos 255) (pos n *ℤ pos 1)) refl;
  small = (bounded_is (ratio (pos n) 255) (ratio (pos n) 255) (alpha_fits n h)).0;
}
  where
    go : (b : Bool) → int_lt (pos 1 *ℤ pos 255) (pos n *ℤ pos 1) ≡ b → int_lt (pos 1 *ℤ pos 255) (pos n *ℤ pos 1) ≡ false
    go true e = absurd (omega (arith, ints, h, e))
    go false e = e
