-- Faults sorted by their names.
use Rattle.std.proofs.Common.{◌≡◌, ◌≢◌, ℕ, zero, suc, ◌+◌, ◌-◌, ◌<◌, Bool, true, false, List, [], ◌∷◌, map, length, get_or, Some, ◌↔◌, ◌⊎◌, inl, inr, All, Contains, swap, IsPermutation, IsSortedBy, slice_get, nat_cmp, is_lt, Result, Ok, Err, IfOk, refl, sym, ◌∙◌, ap, subst, arith}
use Rattle.std.specs.Ordering.{ordering_reverse}
use Rattle.std.specs.declared.cmp.Ordering.TheVariants.{Greater}
use Rattle.std.specs.Cmp.{IsStrictWeakOrder}
use Rattle.std.specs.Cmp.Lexicographic.{slice_cmp}
use Rattle.std.proofs.lemmas.Bool.{cases_eq}
use Rattle.std.proofs.lemmas.Cmp.{nat_list_cmp_total}
use Rattle.std.proofs.lemmas.List.{get_or-map, length-map}
use Rattle.std.proofs.lemmas.List.Edits.{swapped_from_swap}
use Rattle.std.proofs.lemmas.List.Elements.{All-nil, All-cons}
use Rattle.std.proofs.lemmas.List.Sorted.{ranks_by, All-permutation, Contains-permutation, IsPermutation-sym, IsPermutation-map, IsPermutation-swap, IsPermutation-keeps, length_permutation}
use Rattle.std.proofs.lemmas.Option.{get_or_from_slice_get, slice_get_within, slice_get-get_or}
use Rattle.cv_valuation.specs.declared.computed.Cause.{Cause}
use Rattle.cv_valuation.specs.declared.key.Key.{Key}
use Rattle.cv_valuation.specs.Keys.{key_text}
use Rattle.cv_element.specs.declared.faults.Named.{Named}
use Rattle.cv_spec_valuation.specs.Computed.{Faults, IsOnce, IsByName}
use Rattle.cv_element.specs.FaultNames.{named, fault_of}

-- the order by the names
abbrev pub before : Named → Named → Bool
before a b = is_lt (slice_cmp nat_cmp a.text b.text)

pub before_ranks : IsStrictWeakOrder before
before_ranks = ranks_by nat_list_cmp_total (λ fault. fault.text)

abbrev IsNamed : Named → Type 0
IsNamed fault = fault.text ≡ key_text fault.key

named_all : (faults : Faults) → All IsNamed (map named faults)
named_all [] = All-nil IsNamed
named_all (x ∷ xs) = All-cons IsNamed (named x) (map named xs) refl (named_all xs)

unnamed : (faults : Faults) → map fault_of (map named faults) ≡ faults
unnamed [] = refl
unnamed (x ∷ xs) = ap (λ rest. x ∷ rest) (unnamed xs)

not_greater : (x y : List ℕ) → is_lt (slice_cmp nat_cmp y x) ≡ false → slice_cmp nat_cmp x y ≢ Greater
not_greater x y not_less greater = let clash : false ≡ true = sym not_less ∙ ap is_lt (nat_list_cmp_total.antisymm y x ∙ ap ordering_reverse greater) in absurd cc

module _ (faults : Faults) (sorted : List Named) (shuffled : IsPermutation (map named faults) sorted) where
  pub same : IsPermutation faults (map fault_of sorted)
  same = subst (λ list. IsPermutation list (map fault_of sorted)) (unnamed faults) (IsPermutation-map fault_of (map named faults) sorted shuffled)

  all_named : All IsNamed sorted
  all_named = All-permutation IsNamed (map named faults) sorted shuffled (named_all faults)

  text_at : (i : ℕ) (key : Key) (cause : Cause) (d : Named) → slice_get (map fault_of sorted) i ≡ Some (key, cause) → (i < length sorted) × ((get_or sorted i d).text ≡ key_text key)
  text_at i key cause d is =
      let long = length-map sorted fault_of in
      let within : i < length (map fault_of sorted) = slice_get_within (map fault_of sorted) i (key, cause) is in
      let below : i < length sorted = omega (arith, long, within) in
      let read : fault_of (get_or sorted i d) ≡ (key, cause) = sym (get_or-map fault_of sorted i d (key, cause) below) ∙ get_or_from_slice_get (map fault_of sorted) i (key, cause) (key, cause) is in
      (below, all_named i d below ∙ ap (λ fault. key_text fault.0) read)

  module _ (up : IsSortedBy before sorted) where
    far : (i m : ℕ) (d : Named) → i + m + 1 < length sorted → before (get_or sorted (i + m + 1) d) (get_or sorted i d) ≡ false
    far i zero d h = subst (λ (n : ℕ). before (get_or sorted n d) (get_or sorted i d) ≡ false) {x = i + 1} {y = i + zero + 1} (omega arith) (up i d (omega arith) (omega (arith, h)))
    far i (suc m) d h = subst (λ (n : ℕ). before (get_or sorted n d) (get_or sorted i d) ≡ false) {x = i + m + 1 + 1} {y = i + suc m + 1} (omega arith)
        (before_ranks.chain (get_or sorted (i + m + 1 + 1) d) (get_or sorted (i + m + 1) d) (get_or sorted i d) (up (i + m + 1) d (omega arith) (omega (arith, h))) (far i m d (omega (arith, h))))

    apart : (i j : ℕ) (d : Named) → i < j → j < length sorted → before (get_or sorted j d) (get_or sorted i d) ≡ false
    apart i j d lower within = subst (λ (n : ℕ). before (get_or sorted n d) (get_or sorted i d) ≡ false) {x = i + (j - i - 1) + 1} {y = j} (omega (arith, lower)) (far i (j - i - 1) d (omega (arith, lower, within)))

    pub ordered : IsByName (map fault_of sorted)
    ordered i j first second one other lower at_i at_j =
        let d : Named = named (first, one) in
        let here = text_at i first one d at_i in
        let there = text_at j second other d at_j in
        not_greater (key_text first) (key_text second)
        (sym (ap (λ text. is_lt (slice_cmp nat_cmp text (key_text first))) there.1) ∙ sym (ap (λ text. is_lt (slice_cmp nat_cmp (get_or sorted j d).text text)) here.1) ∙ apart i j d lower there.0)

-- two elements in each other's place
module _ (faults : Faults) (a b : ℕ) (a_within : a < length faults) (b_within : b < length faults) where
  abbrev swapped : Faults
  swapped = swap faults a b

  abbrev CameFrom : ℕ → ℕ → Type 0
  CameFrom i m = ((i ≡ a) × (m ≡ b)) ⊎ (((i ≡ b) × (m ≡ a)) ⊎ ((i ≢ a) × ((i ≢ b) × (m ≡ i))))

  came_from : (i : ℕ) (x : Key × Cause) → slice_get swapped i ≡ Some x → (m : ℕ) × ((slice_get faults m ≡ Some x) × CameFrom i m)
  came_from i x is =
      let long = length_permutation faults swapped (IsPermutation-swap faults swapped a b a_within b_within refl) in
      let within : i < length swapped = slice_get_within swapped i x is in
      let value : get_or swapped i x ≡ x = get_or_from_slice_get swapped i x x is in
      let places = swapped_from_swap faults swapped a b x a_within b_within refl in
      elim (cases_eq i a) [
        | inl at_a ↦ (b, (slice_get-get_or faults b x b_within ∙ ap Some (sym places.0 ∙ ap (λ n. get_or swapped n x) (sym at_a) ∙ value), inl (at_a, refl)))
        | inr not_a ↦ elim (cases_eq i b) [
          | inl at_b ↦ (a, (slice_get-get_or faults a x a_within ∙ ap Some (sym places.1 ∙ ap (λ n. get_or swapped n x) (sym at_b) ∙ value), inr (inl (at_b, refl))))
          | inr not_b ↦ (i, (slice_get-get_or faults i x (omega (arith, long, within)) ∙ ap Some (sym (places.2 i not_a not_b) ∙ value), inr (inr (not_a, (not_b, refl)))))
        ]
      ]

  meet : (i j m n : ℕ) → m ≡ n → CameFrom i m → CameFrom j n → i ≡ j
  meet i j m n same (inl u) (inl v) = u.0 ∙ sym v.0
  meet i j m n same (inl u) (inr (inl v)) = omega (arith, same, u.0, u.1, v.0, v.1)
  meet i j m n same (inl u) (inr (inr v)) = absurd (v.1.0 (omega (arith, same, u.1, v.1.1)))
  meet i j m n same (inr (inl u)) (inl v) = omega (arith, same, u.0, u.1, v.0, v.1)
  meet i j m n same (inr (inl u)) (inr (inl v)) = u.0 ∙ sym v.0
  meet i j m n same (inr (inl u)) (inr (inr v)) = absurd (v.0 (omega (arith, same, u.1, v.1.1)))
  meet i j m n same (inr (inr u)) (inl v) = absurd (u.1.0 (omega (arith, same, u.1.1, v.1)))
  meet i j m n same (inr (inr u)) (inr (inl v)) = absurd (u.0 (omega (arith, same, u.1.1, v.1)))
  meet i j m n same (inr (inr u)) (inr (inr v)) = omega (arith, same, u.1.1, v.1.1)

  once-swap : IsOnce faults → IsOnce swapped
  once-swap once i j key one other at_i at_j =
      let left = came_from i (key, one) at_i in
      let right = came_from j (key, other) at_j in
      meet i j left.0 right.0 (once left.0 right.0 key one other left.1.0 right.1.0) left.1.1 right.1.1

pub once-permutation : (faults faults' : Faults) → IsPermutation faults faults' → IsOnce faults → IsOnce faults'
once-permutation faults faults' shuffled once = IsPermutation-keeps faults IsOnce once (λ list i j i_within j_within now. once-swap list i j i_within j_within now) faults' shuffled

pub answered : {E : Type 0} (result : Result Faults E) (one other : List Named) (P : Faults → Type 0) → IfOk result (λ all. all ≡ map fault_of one) → one ≡ other → P (map fault_of other) → IfOk result P
answered (Ok all) one other P is alike holds = subst P (sym (is ∙ ap (map fault_of) alike)) holds
answered (Err e) one other P is alike holds = tt

-- what a list of faults tells, the same faults in another order tell
pub told-permutation : {P : Key → Cause → Type 0} (faults faults' : Faults) → IsPermutation faults faults' → ((key : Key) (cause : Cause) → Contains faults (key, cause) ↔ P key cause) → (key : Key) (cause : Cause) → Contains faults' (key, cause) ↔ P key cause
told-permutation faults faults' shuffled told key cause = (
  λ held. (told key cause).0 (Contains-permutation faults' faults (key, cause) (IsPermutation-sym faults faults' shuffled) held),
  λ holds. Contains-permutation faults faults' (key, cause) shuffled ((told key cause).1 holds),
)

pub moved : (faults read sorted : Faults) → read ≡ faults → IsPermutation read sorted → IsPermutation faults sorted
moved faults read sorted is shuffled = subst (λ list. IsPermutation list sorted) is shuffled
