-- Numbers that lie in a range, and what is clamped to one.
use Rattle.std.specs.Prelude.{ℕ, Bool, true, false, cond, ℤ, pos, negsuc, ◌*◌, ◌*ℤ◌, ◌<◌, int_lt, if◌then◌else◌}
use Rattle.std.specs.Ordering.{int_cmp, is_le}
use Rattle.std.specs.declared.cmp.Ordering.TheVariants.{Less, Equal, Greater}
use Rattle.std.proofs.Common.{◌≡◌, refl, sym, ◌∙◌, ap, ap₂, subst, arith}
use Rattle.std.proofs.lemmas.Int.{ints}
use Rattle.cv_spec_ratio.specs.Ratio.{Ratio, ratio, mul, zero_ratio}
use Rattle.cv_spec_ratio.specs.Order.{at_most}
use Rattle.cv_spec_ratio.proofs.Laws.{positive_product}
use Rattle.cv_spec_ratio.proofs.LowestTerms.{ratio-top, same_ratio}
use Rattle.cv_spec_ratio.proofs.Whole.{whole_top, whole_bottom}
use Rattle.cv_numeric.specs.declared.quantity.Range.{Range}
use Rattle.cv_numeric.specs.declared.quantity.Range.TheVariants.{All, NotNegative}
use Rattle.cv_numeric.specs.Quantities.{clamped}
use Rattle.cv_value_roundtrip.specs.Numbers.{IsNatural, IsInside}

-- ---- whole numbers

asymmetric : (a b : ℤ) → int_lt a b ≡ true → int_lt b a ≡ false
asymmetric a b h = go (int_lt b a) refl
  where
    go : (t : Bool) → int_lt b a ≡ t → int_lt b a ≡ false
    go true e = absurd (omega (arith, ints, h, e))
    go false e = e

at_most_by : (s t : Bool) → is_le (cond s Less (cond t Greater Equal)) ≡ true → (s ≡ true → t ≡ false) → t ≡ false
at_most_by true t h k = k refl
at_most_by false true h k = cc
at_most_by false false h k = refl

above_by : (s t : Bool) → is_le (cond s Less (cond t Greater Equal)) ≡ false → t ≡ true
above_by true t h = cc
above_by false true h = refl
above_by false false h = cc

not_above : (a b : ℤ) → is_le (int_cmp a b) ≡ true → int_lt b a ≡ false
not_above a b h = at_most_by (int_lt a b) (int_lt b a) h (asymmetric a b)

above : (a b : ℤ) → is_le (int_cmp a b) ≡ false → int_lt b a ≡ true
above a b h = above_by (int_lt a b) (int_lt b a) h

pub natural_top : (t : ℤ) → int_lt t (pos 0) ≡ false → (n : ℕ) × (t ≡ pos n)
natural_top (pos n) h = (n, refl)
natural_top (negsuc n) h = absurd (omega (arith, ints, h))

pub not_below : (n : ℕ) → int_lt (pos n) (pos 0) ≡ false
not_below n = go (int_lt (pos n) (pos 0)) refl
  where
    go : (b : Bool) → int_lt (pos n) (pos 0) ≡ b → int_lt (pos n) (pos 0) ≡ false
    go true e = absurd (omega (arith, ints, e))
    go false e = e

pub nothing_top : (t : ℤ) (b : ℕ) → int_lt t (pos 0) ≡ false → int_lt (pos 0 *ℤ pos b) (t *ℤ pos 1) ≡ false → t ≡ pos 0
nothing_top t b h k = let (n, is) = natural_top t h in is ∙ ap pos (nothing n (ap (λ z. int_lt (pos 0 *ℤ pos b) (z *ℤ pos 1)) (sym is) ∙ k))
  where
    nothing : (n : ℕ) → int_lt (pos 0 *ℤ pos b) (pos n *ℤ pos 1) ≡ false → n ≡ 0
    nothing n h = omega (arith, ints, h)

pub some_top : (t : ℤ) (b : ℕ) → int_lt (pos 0 *ℤ pos b) (t *ℤ pos 1) ≡ true → int_lt t (pos 0) ≡ false
some_top (pos n) b h = not_below n
some_top (negsuc n) b h = absurd (omega (arith, ints, h))

-- ---- fractions

zero_cmp : (v : Ratio) → at_most v zero_ratio ≡ is_le (int_cmp (v.top *ℤ pos 1) (pos 0 *ℤ pos v.bottom))
unfolding zero_ratio
zero_cmp v = ap₂ (λ t b. is_le (int_cmp (v.top *ℤ pos b) (t *ℤ pos v.bottom))) (whole_top (pos 0)) (whole_bottom (pos 0))

pub zero_is : (v : Ratio) → v.top ≡ pos 0 → zero_ratio ≡ v
unfolding zero_ratio
zero_is v h = same_ratio (ratio (pos 0) 1) v
    (ap (λ t. t *ℤ pos v.bottom) (whole_top (pos 0)) ∙ nothing v.bottom ∙ ap₂ (λ t b. t *ℤ pos b) (sym h) (sym (whole_bottom (pos 0))))
  where
    nothing : (b : ℕ) → pos 0 *ℤ pos b ≡ pos 0 *ℤ pos 1
    nothing b = omega (arith, ints)

pub zero_natural : IsNatural zero_ratio
unfolding zero_ratio
zero_natural = ap (λ t. int_lt t (pos 0)) (whole_top (pos 0)) ∙ not_below 0

pub kept : (r : Range) (v : Ratio) → IsInside r v → clamped r v ≡ v
kept All v h = refl
kept NotNegative v h = go (at_most v zero_ratio) refl
  where
    go : (b : Bool) → at_most v zero_ratio ≡ b → (if b then zero_ratio else v) ≡ v
    go true e = zero_is v (nothing_top v.top v.bottom h (not_above (v.top *ℤ pos 1) (pos 0 *ℤ pos v.bottom) (sym (zero_cmp v) ∙ e)))
    go false e = refl

pub clamped_inside : (r : Range) (v : Ratio) → IsInside r (clamped r v)
clamped_inside All v = tt
clamped_inside NotNegative v = go (at_most v zero_ratio) refl
  where
    go : (b : Bool) → at_most v zero_ratio ≡ b → IsNatural (if b then zero_ratio else v)
    go true e = zero_natural
    go false e = some_top v.top v.bottom (above (v.top *ℤ pos 1) (pos 0 *ℤ pos v.bottom) (sym (zero_cmp v) ∙ e))

pub pair_natural : (n q : ℕ) → 0 < q → IsNatural (ratio (pos n) q)
pair_natural n q h = ap (λ t. int_lt t (pos 0)) (ratio-top (pos n) q h) ∙ not_below _

pub product_natural : (v w : Ratio) → IsNatural v → IsNatural w → IsNatural (mul v w)
unfolding mul
product_natural v w h k =
    let (n, is) = natural_top v.top h in
    let (m, also) = natural_top w.top k in
    subst (λ (z : ℤ). IsNatural (ratio z (v.bottom * w.bottom))) (ap₂ (λ (a b : ℤ). a *ℤ b) (sym is) (sym also)) (pair_natural (n * m) (v.bottom * w.bottom) (positive_product v.bottom w.bottom v.positive w.positive))
