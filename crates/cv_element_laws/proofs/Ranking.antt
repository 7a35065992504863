-- Each list of faults with names has a sorted permutation.
use Rattle.std.proofs.Common.{◌≡◌, ℕ, zero, suc, ◌+◌, ◌<◌, Bool, true, false, cond, List, [], ◌∷◌, length, get_or, IsPermutation, IsSortedBy, refl, subst, arith}
use Rattle.std.proofs.lemmas.List.Sorted.{IsPermutation-refl, IsPermutation-sym, IsPermutation-trans, IsPermutation-cons, IsPermutation-middle}
use Rattle.cv_element.specs.declared.faults.Named.{Named}
use Rattle.cv_element.proofs.Sorting.{before, before_ranks}

-- the fault at its place among sorted ones
abbrev placed : Named → List Named → List Named
placed x [] = x ∷ []
placed x (y ∷ rest) = cond (before y x) (y ∷ placed x rest) (x ∷ y ∷ rest)

abbrev pub ranked : List Named → List Named
ranked [] = []
ranked (x ∷ rest) = placed x (ranked rest)

-- no fault comes before the one in front of it
abbrev Rises : List Named → Type 0
Rises [] = Unit {0}
Rises (x ∷ []) = Unit {0}
Rises (x ∷ y ∷ rest) = (before y x ≡ false) × Rises (y ∷ rest)

rises-onto : (y x : Named) (list : List Named) → Rises (y ∷ list) → before x y ≡ false → Rises (placed x list) → Rises (y ∷ placed x list)
rises-onto y x [] up later rest = (later, tt)
rises-onto y x (z ∷ list) up later rest = by (before z x) rest
  where
    by : (b : Bool) → Rises (cond b (z ∷ placed x list) (x ∷ z ∷ list)) → Rises (y ∷ cond b (z ∷ placed x list) (x ∷ z ∷ list))
    by true rest = (up.0, rest)
    by false rest = (later, rest)

rises-tail : (y : Named) (list : List Named) → Rises (y ∷ list) → Rises list
rises-tail y [] up = tt
rises-tail y (z ∷ list) up = up.1

rises-placed : (x : Named) (list : List Named) → Rises list → Rises (placed x list)
rises-placed x [] up = tt
rises-placed x (y ∷ list) up = by (rises-placed x list (rises-tail y list up)) (before y x) refl
  where
    by : Rises (placed x list) → (b : Bool) → before y x ≡ b → Rises (cond b (y ∷ placed x list) (x ∷ y ∷ list))
    by rest true is = rises-onto y x list up (before_ranks.one_way y x is) rest
    by rest false is = (is, up)

rises-ranked : (list : List Named) → Rises (ranked list)
rises-ranked [] = tt
rises-ranked (x ∷ rest) = rises-placed x (ranked rest) (rises-ranked rest)

rising : (list : List Named) → Rises list → (k : ℕ) (d : Named) → suc k < length list → before (get_or list (suc k) d) (get_or list k d) ≡ false
rising [] up k d below = absurd (omega (arith, below))
rising (x ∷ []) up k d below = absurd (omega (arith, below))
rising (x ∷ y ∷ rest) up zero d below = up.0
rising (x ∷ y ∷ rest) up (suc k) d below = rising (y ∷ rest) up.1 k d (omega (arith, below))

pub ranked_is_sorted : (list : List Named) → IsSortedBy before (ranked list)
ranked_is_sorted list k d least below =
    subst (λ (n : ℕ). before (get_or (ranked list) n d) (get_or (ranked list) k d) ≡ false) {x = suc k} {y = k + 1} (omega arith)
    (rising (ranked list) (rises-ranked list) k d (omega (arith, below)))

placed_permutes : (x : Named) (list : List Named) → IsPermutation (x ∷ list) (placed x list)
placed_permutes x [] = IsPermutation-refl (x ∷ [])
placed_permutes x (y ∷ list) = by (placed_permutes x list) (before y x)
  where
    by : IsPermutation (x ∷ list) (placed x list) → (b : Bool) → IsPermutation (x ∷ y ∷ list) (cond b (y ∷ placed x list) (x ∷ y ∷ list))
    by rest true =
        IsPermutation-trans (x ∷ y ∷ list) (y ∷ x ∷ list) (y ∷ placed x list)
        (IsPermutation-sym (y ∷ x ∷ list) (x ∷ y ∷ list) (IsPermutation-middle (y ∷ []) x list))
        (IsPermutation-cons y (x ∷ list) (placed x list) rest)
    by rest false = IsPermutation-refl (x ∷ y ∷ list)

pub ranked_permutes : (list : List Named) → IsPermutation list (ranked list)
ranked_permutes [] = IsPermutation-refl []
ranked_permutes (x ∷ rest) =
    IsPermutation-trans (x ∷ rest) (x ∷ ranked rest) (placed x (ranked rest))
    (IsPermutation-cons x rest (ranked rest) (ranked_permutes rest))
    (placed_permutes x (ranked rest))
