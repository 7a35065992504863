-- Properties sorted by their names.
use Rattle.std.proofs.Common.{◌≡◌, ◌≢◌, ℕ, zero, suc, ◌+◌, ◌-◌, ◌<◌, Bool, true, false, List, [], ◌∷◌, ◌++◌, map, length, get_or, take, Some, All, IsPermutation, IsSortedBy, slice_get, nat_cmp, is_lt, sym, ◌∙◌, ap, subst, arith}
use Rattle.std.specs.Prelude.{None, encode_utf8_all}
use Rattle.std.specs.Ordering.{ordering_reverse}
use Rattle.std.specs.declared.cmp.Ordering.TheVariants.{Greater}
use Rattle.std.specs.Cmp.{IsStrictWeakOrder}
use Rattle.std.specs.Cmp.Lexicographic.{slice_cmp}
use Rattle.std.proofs.lemmas.Cmp.{nat_list_cmp_total}
use Rattle.std.proofs.lemmas.List.{get_or-map, length-map, map-append, take_more}
use Rattle.std.proofs.lemmas.List.Elements.{All-append, All-push}
use Rattle.std.proofs.lemmas.List.Sorted.{ranks_by, All-permutation, IsPermutation-map}
use Rattle.std.proofs.lemmas.Option.{get_or_from_slice_get, slice_get_within}
use Rattle.cv_property.specs.Table.{properties}
use Rattle.cv_valuation.specs.declared.key.Key.{Key}
use Rattle.cv_valuation.specs.declared.key.Key.TheVariants.{Custom, Table}
use Rattle.cv_valuation.specs.Keys.{key_text}
use Rattle.cv_update.specs.declared.names.Named.{Named}
use Rattle.cv_update.specs.Names.{AreTold, IsByName, IsNamed, IsSpelled, key_of, told_keys}

-- the bytes of the name
abbrev pub bytes_of : Named → List ℕ
bytes_of named = encode_utf8_all named.text

-- the order by the names
abbrev pub before : Named → Named → Bool
before a b = is_lt (slice_cmp nat_cmp (bytes_of a) (bytes_of b))

pub before_ranks : IsStrictWeakOrder before
before_ranks = ranks_by nat_list_cmp_total bytes_of

not_greater : (x y : List ℕ) → is_lt (slice_cmp nat_cmp y x) ≡ false → slice_cmp nat_cmp x y ≢ Greater
not_greater x y not_less greater = let clash : false ≡ true = sym not_less ∙ ap is_lt (nat_list_cmp_total.antisymm y x ∙ ap ordering_reverse greater) in absurd cc

module _ (sorted : List Named) (spelled : All IsSpelled sorted) (up : IsSortedBy before sorted) where
  text_at : (i : ℕ) (key : Key) (d : Named) → slice_get (map key_of sorted) i ≡ Some key → (i < length sorted) × (bytes_of (get_or sorted i d) ≡ key_text key)
  text_at i key d is =
      let long = length-map sorted key_of in
      let within : i < length (map key_of sorted) = slice_get_within (map key_of sorted) i key is in
      let below : i < length sorted = omega (arith, long, within) in
      let read : key_of (get_or sorted i d) ≡ key = sym (get_or-map key_of sorted i d key below) ∙ get_or_from_slice_get (map key_of sorted) i key key is in
      (below, spelled i d below ∙ ap key_text read)

  far : (i m : ℕ) (d : Named) → i + m + 1 < length sorted → before (get_or sorted (i + m + 1) d) (get_or sorted i d) ≡ false
  far i zero d h = subst (λ (n : ℕ). before (get_or sorted n d) (get_or sorted i d) ≡ false) {x = i + 1} {y = i + zero + 1} (omega arith) (up i d (omega arith) (omega (arith, h)))
  far i (suc m) d h = subst (λ (n : ℕ). before (get_or sorted n d) (get_or sorted i d) ≡ false) {x = i + m + 1 + 1} {y = i + suc m + 1} (omega arith)
      (before_ranks.chain (get_or sorted (i + m + 1 + 1) d) (get_or sorted (i + m + 1) d) (get_or sorted i d) (up (i + m + 1) d (omega arith) (omega (arith, h))) (far i m d (omega (arith, h))))

  apart : (i j : ℕ) (d : Named) → i < j → j < length sorted → before (get_or sorted j d) (get_or sorted i d) ≡ false
  apart i j d lower within = subst (λ (n : ℕ). before (get_or sorted n d) (get_or sorted i d) ≡ false) {x = i + (j - i - 1) + 1} {y = j} (omega (arith, lower)) (far i (j - i - 1) d (omega (arith, lower, within)))

  ordered : IsByName (map key_of sorted)
  ordered i j first second lower at_i at_j =
      let d : Named = record { key = first; text = [] } in
      let here = text_at i first d at_i in
      let there = text_at j second d at_j in
      not_greater (key_text first) (key_text second)
      (sym (ap (λ text. is_lt (slice_cmp nat_cmp text (key_text first))) there.1) ∙ sym (ap (λ text. is_lt (slice_cmp nat_cmp (bytes_of (get_or sorted j d)) text)) here.1) ∙ apart i j d lower there.0)

pub still : (P : Named → Type 0) (all sorted : List Named) → IsPermutation all sorted → All P all → All P sorted
still P all sorted shuffled are = All-permutation P all sorted shuffled are

-- what is sorted
module _ (custom : List (List ℕ)) (all sorted : List Named) (keys : map key_of all ≡ told_keys custom) (shuffled : IsPermutation all sorted) where
  pub told : All IsSpelled sorted → IsSortedBy before sorted → AreTold custom (map key_of sorted)
  told spelled up = record {
    all = subst (λ list. IsPermutation list (map key_of sorted)) keys (IsPermutation-map key_of all sorted shuffled);
    by_name = ordered sorted spelled up;
  }

-- ---- names that are added one after another

take_next : {X : Type 0} (xs : List X) (i : ℕ) (x : X) → slice_get xs i ≡ Some x → take (i + 1) xs ≡ take i xs ++ x ∷ []
take_next xs i x is = take_more xs i x (slice_get_within xs i x is) ∙ ap (λ y. take i xs ++ y ∷ []) (get_or_from_slice_get xs i x x is)

pub names_next : {X : Type 0} (f : X → Key) (xs : List X) (i : ℕ) (x : X) (all more : List Named) (named : Named) → slice_get xs i ≡ Some x → named.key ≡ f x → IsNamed named → IsSpelled named → more ≡ all ++ named ∷ []
    → (map key_of all ≡ map f (take i xs)) × All IsNamed all × All IsSpelled all → (map key_of more ≡ map f (take (i + 1) xs)) × All IsNamed more × All IsSpelled more
names_next f xs i x all more named at key is_named is_spelled grown so_far = (
  ap (map key_of) grown ∙ map-append key_of all (named ∷ []) ∙ ap (λ l. l ++ named.key ∷ []) so_far.0 ∙ ap (λ k. map f (take i xs) ++ k ∷ []) key
      ∙ sym (ap (map f) (take_next xs i x at) ∙ map-append f (take i xs) (x ∷ [])),
  subst (All IsNamed) (sym grown) (All-push IsNamed all named so_far.1 is_named),
  subst (All IsSpelled) (sym grown) (All-push IsSpelled all named so_far.2 is_spelled),
)

pub not_none : {X : Type 0} (xs : List X) (i : ℕ) → i < length xs → None ≡ slice_get xs i → ⊥
not_none [] i lt none = omega (arith, lt)
not_none (x ∷ xs) zero lt none = cc
not_none (x ∷ xs) (suc i) lt none = not_none xs i (omega (arith, lt)) none

pub both_named : (P : Named → Type 0) (one other all : List Named) → all ≡ one ++ other → All P one → All P other → All P all
both_named P one other all is these those = subst (All P) (sym is) (All-append P one other these those)

pub both_keys : (custom : List (List ℕ)) (one other all : List Named) → all ≡ one ++ other → map key_of one ≡ map Custom custom → map key_of other ≡ map Table properties → map key_of all ≡ told_keys custom
both_keys custom one other all is these those = ap (map key_of) is ∙ map-append key_of one other ∙ ap (λ l. l ++ map key_of other) these ∙ ap (λ l. map Custom custom ++ l) those
