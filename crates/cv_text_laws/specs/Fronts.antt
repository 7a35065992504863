-- What stands at the front of a text: the longest of a kind, and what goes to a first end.
use Rattle.std.specs.Prelude.{ℕ, Bool, true, ◌≡◌, ◌≤◌, List, [], ◌∷◌, ◌++◌, length, ⊤}
use Rattle.std.specs.List.{concat}

-- A front of a text, before the rest, is the longest of its kind. The kind may look at what follows.
pub record IsLongest (Is : List ℕ → List ℕ → Type 0) (front rest : List ℕ) : Type 0 where
  pub is : Is front rest
  pub longest : (other rest' : List ℕ) → other ++ rest' ≡ front ++ rest → Is other rest' → length other ≤ length front

-- Each piece is of this kind, before what follows it.
abbrev pub ArePieces : (List ℕ → List ℕ → Type 0) → List (List ℕ) → List ℕ → Type 0
ArePieces Is [] rest = ⊤
ArePieces Is (piece ∷ pieces) rest = Is piece (concat pieces ++ rest) × ArePieces Is pieces rest

-- pieces of this kind one after another
pub record IsSequence (Is : List ℕ → List ℕ → Type 0) (front rest : List ℕ) : Type 0 where
  pub pieces : List (List ℕ)
  pub whole : front ≡ concat pieces
  pub each : ArePieces Is pieces rest

-- Pieces of this kind go to a first end: the rest is an end, and behind no fewer of them does an end stand.
pub record EndsFirst (Is : List ℕ → List ℕ → Type 0) (is_end : List ℕ → Bool) (front rest : List ℕ) : Type 0 where
  pub sequence : IsSequence Is front rest
  pub ends : is_end rest ≡ true
  pub first : (other rest' : List ℕ) → other ++ rest' ≡ front ++ rest → IsSequence Is other rest' → is_end rest' ≡ true → length front ≤ length other
