-- A number multiplied into a sum of numbers, which keeps the form of a sum.
use Rattle.std.specs.Prelude.{ℕ, suc, Bool, true, ◌&&◌, ◌||◌, not, List, [], ◌∷◌, map, length, ◌≤◌, Some}
use Rattle.std.proofs.Common.{◌≡◌, refl, sym, ◌∙◌, ap, ap₂, subst}
use Rattle.cv_spec_ratio.specs.Ratio.{Ratio, mul}
use Rattle.cv_calc.specs.declared.unit.Unit as units
use Rattle.cv_calc.specs.declared.calc.Calc.{Calc}
use Rattle.cv_calc.specs.declared.calc.Calc.TheVariants as tree
use Rattle.cv_calc.specs.declared.calc.Calc.TheOpen.{Calc-F, Num, Sum, Product, Negate, Invert, Min, Max, Clamp}
use Rattle.cv_calc.specs.declared.calc.Calc.TheViews.{out-Calc}
use Rattle.cv_simplify.specs.Simplified.{any_unit, scaled_term, both_terms, scaled_terms}
use Rattle.cv_calc_roundtrip.proofs.Forms.{measure, IsTerm, plus, AreTerms, no_terms, terms}
use Rattle.cv_calc_roundtrip.proofs.FormRows.{term_measure}
use Rattle.cv_calc_roundtrip.proofs.Heads.{Head, number, head, head_as, head-Num, is_negate, is_sum, is_num, nums_alone, joinable}
use Rattle.cv_calc_roundtrip.proofs.Heads as heads
use Rattle.cv_calc_roundtrip.proofs.Orders.{none_after, pairs_apart}
use Rattle.cv_calc_roundtrip.proofs.RowOrders.{IsRow, starts, has_number}
use Rattle.cv_calc_roundtrip.proofs.Sums.{no_sums}

-- a number times a number, and what is none as it is
abbrev pub times_as : Ratio → Calc → Calc-F Calc → Calc
times_as n c (Num w u) = tree.Num (mul n w) u
times_as n c _ = c

abbrev pub times_calc : Ratio → Calc → Calc
times_calc n c = times_as n c (out-Calc c)

abbrev times_number : Ratio → Head → Head
times_number n (number w u) = number (mul n w) u
times_number n h = h

times_as_head : (n : Ratio) (c : Calc) (l : Calc-F Calc) → head c ≡ head_as l → head (times_as n c l) ≡ times_number n (head_as l)
times_as_head n c (Num w u) e = head-Num (mul n w) u
times_as_head n c (Sum cs) e = e
times_as_head n c (Product cs) e = e
times_as_head n c (Negate d) e = e
times_as_head n c (Invert d) e = e
times_as_head n c (Min cs) e = e
times_as_head n c (Max cs) e = e
times_as_head n c (Clamp a b d) e = e

pub terms_scaled : (n : Ratio) (cs : List Calc) → nums_alone cs ≡ true → scaled_terms n cs ≡ Some (map (times_calc n) cs)
terms_scaled n [] h = refl
terms_scaled n (c ∷ cs) h = go (out-Calc c) h (λ k. terms_scaled n cs k)
  where
    go : (l : Calc-F Calc) → (is_num l && nums_alone cs) ≡ true → (nums_alone cs ≡ true → scaled_terms n cs ≡ Some (map (times_calc n) cs)) →
        both_terms (scaled_term n l) (scaled_terms n cs) ≡ Some (times_as n c l ∷ map (times_calc n) cs)
    go (Num w u) h more = ap (both_terms (Some (tree.Num (mul n w) u))) (more h)
    go (Sum ds) h more = cc
    go (Product ds) h more = cc
    go (Negate d) h more = cc
    go (Invert d) h more = cc
    go (Min ds) h more = cc
    go (Max ds) h more = cc
    go (Clamp a b d) h more = cc

heads_scaled : (n : Ratio) (cs : List Calc) → map head (map (times_calc n) cs) ≡ map (times_number n) (map head cs)
heads_scaled n [] = refl
heads_scaled n (c ∷ cs) = ap₂ (λ h hs. h ∷ hs) (times_as_head n c (out-Calc c) refl) (heads_scaled n cs)

same_joined : (may : units.Unit → Bool) (n : Ratio) (h k : Head) → joinable may (times_number n h) (times_number n k) ≡ joinable may h k
same_joined may n (number v u) (number w t) = refl
same_joined may n (number v u) (heads.sum b) = refl
same_joined may n (number v u) heads.product = refl
same_joined may n (number v u) heads.negate = refl
same_joined may n (number v u) heads.invert = refl
same_joined may n (number v u) heads.least = refl
same_joined may n (number v u) heads.greatest = refl
same_joined may n (number v u) heads.clamp = refl
same_joined may n (heads.sum b) k = refl
same_joined may n heads.product k = refl
same_joined may n heads.negate k = refl
same_joined may n heads.invert k = refl
same_joined may n heads.least k = refl
same_joined may n heads.greatest k = refl
same_joined may n heads.clamp k = refl

same_after : (n : Ratio) (h : Head) (hs : List Head) → none_after any_unit (times_number n h) (map (times_number n) hs) ≡ none_after any_unit h hs
same_after n h [] = refl
same_after n h (k ∷ ks) = ap₂ (λ a b. not a && b) (same_joined any_unit n h k) (same_after n h ks)

same_pairs : (n : Ratio) (hs : List Head) → pairs_apart any_unit (map (times_number n) hs) ≡ pairs_apart any_unit hs
same_pairs n [] = refl
same_pairs n (h ∷ hs) = ap₂ (λ a b. a && b) (same_after n h hs) (same_pairs n hs)

same_sum : (n : Ratio) (h : Head) → is_sum (times_number n h) ≡ is_sum h
same_sum n (number v u) = refl
same_sum n (heads.sum b) = refl
same_sum n heads.product = refl
same_sum n heads.negate = refl
same_sum n heads.invert = refl
same_sum n heads.least = refl
same_sum n heads.greatest = refl
same_sum n heads.clamp = refl

same_negate : (n : Ratio) (h : Head) → is_negate (times_number n h) ≡ is_negate h
same_negate n (number v u) = refl
same_negate n (heads.sum b) = refl
same_negate n heads.product = refl
same_negate n heads.negate = refl
same_negate n heads.invert = refl
same_negate n heads.least = refl
same_negate n heads.greatest = refl
same_negate n heads.clamp = refl

same_number : (n : Ratio) (h : Head) → heads.is_number (times_number n h) ≡ heads.is_number h
same_number n (number v u) = refl
same_number n (heads.sum b) = refl
same_number n heads.product = refl
same_number n heads.negate = refl
same_number n heads.invert = refl
same_number n heads.least = refl
same_number n heads.greatest = refl
same_number n heads.clamp = refl

same_flat : (n : Ratio) (hs : List Head) → no_sums (map (times_number n) hs) ≡ no_sums hs
same_flat n [] = refl
same_flat n (h ∷ hs) = ap₂ (λ a b. not a && b) (same_sum n h) (same_flat n hs)

same_has : (n : Ratio) (hs : List Head) → has_number (map (times_number n) hs) ≡ has_number hs
same_has n [] = refl
same_has n (h ∷ hs) = ap₂ (λ a b. a || b) (same_number n h) (same_has n hs)

same_starts : (n : Ratio) (hs : List Head) → starts (map (times_number n) hs) ≡ starts hs
same_starts n [] = refl
same_starts n (h ∷ hs) = ap₂ (λ a b. a || not b) (same_has n (h ∷ hs)) (same_negate n h)

length_map : {A B : Type 0} (f : A → B) (xs : List A) → length (map f xs) ≡ length xs
length_map f [] = refl
length_map f (x ∷ xs) = ap (λ n. suc n) (length_map f xs)

pub scaled_row : (n : Ratio) (cs : List Calc) → IsRow (map head cs) → IsRow (map head (map (times_calc n) cs))
scaled_row n cs r = subst IsRow (sym (heads_scaled n cs)) (record {
  two = subst (λ (k : ℕ). 2 ≤ k) (sym (length_map (times_number n) (map head cs))) r.two;
  differ = same_pairs n (map head cs) ∙ r.differ;
  flat = same_flat n (map head cs) ∙ r.flat;
  begins = same_starts n (map head cs) ∙ r.begins;
})

scaled_as_term : (n : Ratio) (c : Calc) (l : Calc-F Calc) → head c ≡ head_as l → IsTerm c → IsTerm (times_as n c l)
scaled_as_term n c (Num w u) e t = plus (measure (mul n w) (term_measure t w u e))
scaled_as_term n c (Sum cs) e t = t
scaled_as_term n c (Product cs) e t = t
scaled_as_term n c (Negate d) e t = t
scaled_as_term n c (Invert d) e t = t
scaled_as_term n c (Min cs) e t = t
scaled_as_term n c (Max cs) e t = t
scaled_as_term n c (Clamp a b d) e t = t

pub scaled_are : (n : Ratio) (cs : List Calc) → AreTerms cs → AreTerms (map (times_calc n) cs)
scaled_are n [] no_terms = no_terms
scaled_are n (c ∷ cs) (terms t ts) = terms (scaled_as_term n c (out-Calc c) refl t) (scaled_are n cs ts)
