-- What is computed of the first elements of a tree, and of one more.
use Rattle.std.proofs.Common.{◌≡◌, ℕ, zero, suc, ◌+◌, ◌<◌, ◌≤◌, List, [], ◌∷◌, ◌++◌, length, refl, sym, ap, ◌∙◌, subst, arith, ◌⊎◌, inl, inr, length-append}
use Rattle.std.specs.Prelude.{Option, Some, None, IfSome}
use Rattle.std.specs.List.{slice_get}
use Rattle.cv_doc.specs.Kept.{IsParentOf}
use Rattle.cv_spec_ratio.specs.Ratio.{Ratio}
use Rattle.cv_valuation.specs.declared.computed.Computed.{Computed}
use Rattle.cv_valuation.specs.Valuations.{Values}
use Rattle.cv_props.specs.Winners.{Declarations}
use Rattle.cv_spec_valuation.specs.declared.place.Place.{Place}
use Rattle.cv_spec_valuation.specs.Computed.{IsComputed}
use Rattle.cv_spec_valuation.specs.Contexts.{size_above}
use Rattle.cv_walk.proofs.Inside.{get_front}
use Rattle.cv_tree.specs.Tree.{AreEarlier, Tree, StandsAt, AreComputed, IsOfElement, parent_in, place_in, root_size, values_in}

-- ---- lists

-- an item of a list with one more is an item of the list, or the last
pub front_or_last : {X : Type 0} (xs : List X) (x : X) (i : ℕ) (y : X) → slice_get (xs ++ x ∷ []) i ≡ Some y
    → ((i < length xs) × (slice_get xs i ≡ Some y)) ⊎ ((i ≡ length xs) × (y ≡ x))
front_or_last [] x zero y is = inr (refl, cc)
front_or_last [] x (suc i) y is = cc
front_or_last (z ∷ xs) x zero y is = inl (omega arith, is)
front_or_last (z ∷ xs) x (suc i) y is = by (front_or_last xs x i y is)
  where
    by : ((i < length xs) × (slice_get xs i ≡ Some y)) ⊎ ((i ≡ length xs) × (y ≡ x)) → ((suc i < suc (length xs)) × (slice_get xs i ≡ Some y)) ⊎ ((suc i ≡ suc (length xs)) × (y ≡ x))
    by (inl front) = inl (omega (arith, front.0), front.1)
    by (inr last) = inr (ap suc last.0, last.1)

-- ---- values of one more element

pub values_more : (all : List Computed) (c : Computed) → values_in (all ++ c ∷ []) ≡ values_in all ++ c.values ∷ []
values_more [] c = refl
values_more (x ∷ xs) c = ap (λ rest. x.values ∷ rest) (values_more xs c)

pub count_values : (all : List Computed) → length (values_in all) ≡ length all
count_values [] = refl
count_values (x ∷ xs) = ap suc (count_values xs)

parent_stays : (all : List Values) (v : Values) (parent : Option ℕ) → IfSome parent (λ at. at < length all) → parent_in (all ++ v ∷ []) parent ≡ parent_in all parent
parent_stays all v None lt = refl
parent_stays all v (Some at) lt = get_front all (v ∷ []) at lt

root_stays : (all : List Values) (v : Values) (parent : Option ℕ) → IfSome parent (λ at. at < length all) → root_size (all ++ v ∷ []) parent ≡ root_size all parent
root_stays all v None lt = refl
root_stays all v (Some at) lt = ap (λ (x : Option Values). Some (size_above x)) (get_front all (v ∷ []) 0 (omega (arith, lt)))

abbrev with_root : ℕ → ℕ → Option Ratio → Place
with_root width height root = record { width = width; height = height; root = root }

pub earlier_still : (i n : ℕ) (parent : Option ℕ) → i ≤ n → IsParentOf i parent → IfSome parent (λ at. at < n)
earlier_still i n None le is = tt
earlier_still i n (Some at) le is = omega (arith, le, is)

module _ (tree : Tree) (most : ℕ) where
  -- what is computed of an element by some values, by others with the same parent's and the same place
  pub element_alike : (all others : List Values) (parent : Option ℕ) (decls : Declarations) (c : Computed) → parent_in others parent ≡ parent_in all parent → root_size others parent ≡ root_size all parent
      → IsOfElement tree most all parent decls c → IsOfElement tree most others parent decls c
  element_alike all others parent decls c same root is =
      subst (λ (r : Option Ratio). IsComputed tree.registered decls (parent_in others parent) (with_root tree.width tree.height r) most c) (sym root)
      (subst (λ (v : Option Values). IsComputed tree.registered decls v (place_in tree.width tree.height all parent) most c) (sym same) is)

  -- what is computed of an element stays so when one more is computed
  element_stays : (all : List Values) (v : Values) (parent : Option ℕ) (decls : Declarations) (c : Computed) → IfSome parent (λ at. at < length all)
      → IsOfElement tree most all parent decls c → IsOfElement tree most (all ++ v ∷ []) parent decls c
  element_stays all v parent decls c lt is = element_alike all (all ++ v ∷ []) parent decls c (parent_stays all v parent lt) (root_stays all v parent lt) is

  pub first_next : (all : List Computed) (parent : Option ℕ) (decls : Declarations) (c : Computed) → AreEarlier tree.parents → StandsAt tree (length all) parent decls
      → IsOfElement tree most (values_in all) parent decls c → AreComputed tree most (length all) all → AreComputed tree most (length all + 1) (all ++ c ∷ [])
  first_next all parent decls c earlier stands fresh first = record {
    count = omega (arith, length-append all (c ∷ []));
    each = λ j above declared computed at is_at. by j above declared computed at (front_or_last all c j computed is_at);
  }
    where
      few : (j : ℕ) (above : Option ℕ) → j ≤ length all → slice_get tree.parents j ≡ Some above → IfSome above (λ at. at < length (values_in all))
      few j above le at = earlier_still j (length (values_in all)) above (omega (arith, le, count_values all)) (earlier j above at)

      by : (j : ℕ) (above : Option ℕ) (declared : Declarations) (computed : Computed) → StandsAt tree j above declared
          → ((j < length all) × (slice_get all j ≡ Some computed)) ⊎ ((j ≡ length all) × (computed ≡ c)) → IsOfElement tree most (values_in (all ++ c ∷ [])) above declared computed
      by j above declared computed at (inl front) =
          subst (λ (vs : List Values). IsOfElement tree most vs above declared computed) (sym (values_more all c))
          (element_stays (values_in all) c.values above declared computed (few j above (omega (arith, front.0)) at.under) (first.each j above declared computed at front.1))
      by j above declared computed at (inr last) =
          let parents : Some above ≡ Some parent = sym at.under ∙ ap (slice_get tree.parents) last.0 ∙ stands.under in
          let decls_too : Some declared ≡ Some decls = sym at.declares ∙ ap (slice_get tree.declarations) last.0 ∙ stands.declares in
          let same : parent ≡ above = cc in
          let same_decls : decls ≡ declared = cc in
          let named : c ≡ computed = sym last.1 in
          subst (λ (vs : List Values). IsOfElement tree most vs above declared computed) (sym (values_more all c))
          (element_stays (values_in all) c.values above declared computed (few j above (omega (arith, last.0)) at.under)
          (subst (λ (x : Computed). IsOfElement tree most (values_in all) above declared x) named
          (subst (λ (d : Declarations). IsOfElement tree most (values_in all) above d c) same_decls
          (subst (λ (p : Option ℕ). IsOfElement tree most (values_in all) p decls c) same fresh))))
