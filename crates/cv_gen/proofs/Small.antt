-- Sums of small whole lengths are in bounds.
use Rattle.std.proofs.Common.{◌≡◌, ◌∙◌, ap, ℕ, zero, suc, ◌+◌, ◌*◌, ◌^◌, ◌<◌, ◌≤◌, Bool, true, ◌&&◌, List, [], ◌∷◌, length, take, refl, sym, subst, arith, ℤ, pos}
use Rattle.std.specs.Prelude.{◌+ℤ◌, ◌*ℤ◌, nat_lt, unsigned_abs, All}
use Rattle.std.specs.List.{fold}
use Rattle.std.proofs.lemmas.Bool.Decides.{nat_tests}
use Rattle.std.proofs.lemmas.Int.{ints}
use Rattle.cv_spec_ratio.specs.Cancelled.{gcd_one}
use Rattle.cv_spec_ratio.specs.Code.{bottom_kept, top_kept}
use Rattle.cv_spec_ratio.specs.Gcd.{gcd}
use Rattle.cv_spec_ratio.specs.Ratio.{Ratio, add, ratio}
use Rattle.cv_frac.specs.Bounded.{in_bounds}
use Rattle.cv_property.specs.declared.property.Property.{Property}
use Rattle.cv_valuation.specs.Valuations.{Values}
use Rattle.cv_gen.specs.Summary.{IsSmall, SmallSumsAreWithin, length_at, no_px, sum_of, with_length}

-- ---- whole numbers

-- the fraction is whole, and its size is no more than this
pub record IsUpTo (most : ℕ) (r : Ratio) : Type 0 where
  pub whole : r.bottom ≡ 1
  pub size : unsigned_abs r.top ≤ most

sum_size : (t u : ℤ) (m n : ℕ) → unsigned_abs t ≤ m → unsigned_abs u ≤ n → unsigned_abs (t *ℤ pos 1 +ℤ u *ℤ pos 1) ≤ m + n
sum_size t u m n h k = omega (arith, ints)

over_one : (t : ℤ) (q most : ℕ) → q ≡ 1 → unsigned_abs t ≤ most → IsUpTo most (ratio t q)
over_one t q most one size =
    let low : gcd (unsigned_abs t) q ≡ 1 = ap (gcd (unsigned_abs t)) one ∙ gcd_one (unsigned_abs t) in
    record {
      whole = bottom_kept t q (omega arith) low ∙ one;
      size = subst (λ (z : ℤ). unsigned_abs z ≤ most) (sym (top_kept t q (omega arith) low)) size;
    }

add_up_to : (r s : Ratio) (m n : ℕ) → IsUpTo m r → IsUpTo n s → IsUpTo (m + n) (add r s)
unfolding add
add_up_to r s m n h k =
    over_one (r.top *ℤ pos s.bottom +ℤ s.top *ℤ pos r.bottom) (r.bottom * s.bottom) (m + n) (rw (h.whole, k.whole) refl)
    (rw (h.whole, k.whole) (sum_size r.top s.top m n h.size k.size))

lt_true : (a b : ℕ) → a < b → nat_lt a b ≡ true
lt_true a b h = grind (arith, nat_tests)

both : (a b : Bool) → a ≡ true → b ≡ true → (a && b) ≡ true
both a b h k = rw (h, k) refl

within : (r : Ratio) (m : ℕ) → m ≤ 16384 → IsUpTo (m * 2 ^ 40) r → in_bounds r ≡ true
within r m few h =
    both _ _ (lt_true (unsigned_abs r.top) (2 ^ 63) (omega (arith, h.size))) (lt_true r.bottom (2 ^ 63) (omega (arith, h.whole)))

-- ---- sums

module _ (property : Property) where
  from : (all : List Values) (start : Ratio) (m n : ℕ) → m + length all ≤ 16384 → All (λ values. IsSmall (length_at property values)) all → IsUpTo (m * 2 ^ 40) start
      → in_bounds (fold (with_length property) start (take n all)) ≡ true
  from [] start m zero few small h = within start m (omega arith) h
  from [] start m (suc n) few small h = within start m (omega arith) h
  from (x ∷ all) start m zero few small h = within start m (omega arith) h
  from (x ∷ all) start m (suc n) few small h =
      let first : IsSmall (length_at property x) = small 0 x (omega arith) in
      let one : IsUpTo (2 ^ 40) (length_at property x) = record { whole = first.0; size = first.1 } in
      let more = add_up_to start (length_at property x) (m * 2 ^ 40) (2 ^ 40) h one in
      from all (add start (length_at property x)) (m + 1) n (omega arith) (λ k d lower. small (suc k) d (omega arith)) (record { whole = more.whole; size = omega (arith, more.size) })

nothing : IsUpTo (0 * 2 ^ 40) no_px
nothing = over_one (pos 0) 1 (0 * 2 ^ 40) refl (omega arith)

pub small_sums : SmallSumsAreWithin
unfolding sum_of
small_sums = λ property all few small n h. from property all no_px 0 n (omega arith) small nothing
