-- Properties that are numbered, as the nodes of a graph are.
use Rattle.std.specs.Prelude.{◌≡◌, ℕ, ◌<◌, List, [], length, slice_index_or, Contains, IsSome}
use Rattle.cv_spec_element.specs.Element.{Element}
use Rattle.cv_spec_element.specs.Dependencies.{Edge, Needs}

-- an edge between numbers, where `rows` has for each number those to which an edge leads
abbrev pub NumberEdge : List (List ℕ) → ℕ → ℕ → Type 0
NumberEdge rows i j = Contains (slice_index_or rows i []) j

-- `name` gives each number another property, and each declared property that an edge leads to has a number. An edge leads
-- from the one number to the other where one leads from the one property to the other, and beyond that only where the one
-- may read the other.
pub record IsNumbering {K T V U M : Type 0} (e : Element K T V U M) (name : ℕ → K) (rows : List (List ℕ)) : Type 0 where
  pub apart : (i j : ℕ) → i < length rows → j < length rows → name i ≡ name j → i ≡ j
  pub numbered : (p q : K) → Edge e p q → IsSome (e.declarations.pieces q) → (i : ℕ) × (i < length rows) × (name i ≡ q)
  pub bounded : (i j : ℕ) → NumberEdge rows i j → j < length rows
  pub full : (i j : ℕ) → i < length rows → j < length rows → Edge e (name i) (name j) → NumberEdge rows i j
  pub needed : (i j : ℕ) → i < length rows → j < length rows → NumberEdge rows i j → Needs e (name i) (name j)
