-- Sums over the first elements.
use Rattle.std.proofs.Common.{◌≡◌, ◌∙◌, ℕ, ◌+◌, ◌<◌, Bool, true, false, List, length, get_or, take, ⊎_elim, refl, sym, ap, ◌∙◌, arith}
use Rattle.std.specs.Prelude.{pos, Ok, Err, if◌then◌else◌}
use Rattle.std.proofs.lemmas.Bool.{cases_lt}
use Rattle.std.proofs.lemmas.List.{get_or-map, length-map}
use Rattle.std.proofs.lemmas.List.Sums.{fold_more}
use Rattle.cv_spec_ratio.specs.Gcd.{gcd, gcd_steps}
use Rattle.cv_spec_ratio.specs.Ratio.{Ratio, add, ratio}
use Rattle.cv_frac.specs.declared.error.FracErr.{FracErr}
use Rattle.cv_frac.specs.Bounded.{bounded, in_bounds}
use Rattle.cv_property.specs.declared.property.Property.{Property}
use Rattle.cv_property.specs.declared.property.Property.TheVariants.{PaddingLeft, Width}
use Rattle.cv_valuation.specs.declared.computed.Computed.{Computed}
use Rattle.cv_valuation.specs.Valuations.{Values}
use Rattle.cv_gen.specs.Summary.{AreWithin, length_at, no_px, sum_of, summary_text, text_with, values_of, with_length}

zero_within : in_bounds (ratio (pos 0) 1) ≡ true
unfolding ratio gcd gcd_steps
zero_within = refl

pub bounded_ok : (r s : Ratio) → bounded r ≡ Ok s → (in_bounds r ≡ true) × (s ≡ r)
bounded_ok r s h = go (in_bounds r) _ h
  where
    go : (b : Bool) (e : FracErr) → (if b then Ok r else Err e) ≡ Ok s → (b ≡ true) × (s ≡ r)
    go true e h = (refl, cc)
    go false e h = cc

pub bounded_err : (r : Ratio) (why : FracErr) → bounded r ≡ Err why → in_bounds r ≡ false
bounded_err r why h = go (in_bounds r) _ h
  where
    go : (b : Bool) (e : FracErr) → (if b then Ok r else Err e) ≡ Err why → b ≡ false
    go true e h = cc
    go false e h = refl

module _ (property : Property) where
  pub sum_none : (all : List Values) → sum_of property (take 0 all) ≡ ratio (pos 0) 1
  unfolding sum_of
  sum_none all = refl

  -- the sum with one more element
  pub sum_more : (all : List Computed) (i : ℕ) (d : Computed) (sum more : Ratio) → i < length all → d ≡ get_or all i d → sum ≡ sum_of property (take i (values_of all)) → more ≡ length_at property d.values
      → add sum more ≡ sum_of property (take (i + 1) (values_of all))
  unfolding sum_of
  sum_more all i d sum more h is before next =
      let value : get_or (values_of all) i d.values ≡ d.values = get_or-map (λ (x : Computed). x.values) all i d d.values h ∙ ap (λ (x : Computed). x.values) (sym is) in
      rw (fold_more (with_length property) no_px (values_of all) i d.values (omega (arith, length-map all (λ (x : Computed). x.values))), value, ← before, ← next) refl

  pub within_none : (all : List Values) → AreWithin property all 0
  within_none all = λ n h. let same : n ≡ 0 = omega arith in rw (same, sum_none all) zero_within

  pub within_more : (all : List Values) (i : ℕ) → AreWithin property all i → in_bounds (sum_of property (take (i + 1) all)) ≡ true → AreWithin property all (i + 1)
  within_more all i before next = λ n h. ⊎_elim (λ lower. before n (omega arith)) (λ upper. last n (omega arith)) (cases_lt n (i + 1))
    where
      last : (n : ℕ) → n ≡ i + 1 → in_bounds (sum_of property (take n all)) ≡ true
      last n same = rw same next

-- the text of the sums is that of the values
pub text_is : (all : List Computed) (widths padding : Ratio) → widths ≡ sum_of Width (values_of all) → padding ≡ sum_of PaddingLeft (values_of all) → text_with (length all) widths padding ≡ summary_text (values_of all)
unfolding summary_text
text_is all widths padding w p = rw (w, p, length-map all (λ (x : Computed). x.values)) refl
