-- What is kept of a walk's elements: of the first and of those behind it whether each is stepped, as far as one is.
use Rattle.std.specs.Prelude.{ℕ, zero, suc, ◌-◌, Bool, false, List, [], ◌∷◌, Option, Some, None, nat_lt, if◌then◌else◌}
use Rattle.std.specs.List.{slice_get}
use Rattle.cv_walk.specs.Subtrees.{mark_at}

-- so many elements that aren't stepped
abbrev pub unmarked : ℕ → List Bool
unmarked zero = []
unmarked (suc n) = false ∷ unmarked n

-- the parent is marked, where the first mark is that of the element with this index
abbrev pub is_below : ℕ → List Bool → Option ℕ → Bool
is_below start marks None = false
is_below start marks (Some parent) = if nat_lt parent start then false else mark_at (slice_get marks (parent - start))
