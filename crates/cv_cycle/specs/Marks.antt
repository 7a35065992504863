-- Marks on the nodes of a graph, and places that are kept in a list.
use Rattle.std.specs.Prelude.{◌≡◌, ℕ, ◌<◌, ◌≤◌, List, Bool, true, false, not, count_by, slice_index_or, slice_index}

-- the node has a mark
abbrev pub IsMarked : List Bool → ℕ → Type 0
IsMarked marked node = slice_index_or marked node false ≡ true

-- how many nodes have no mark
abbrev pub unmarked_count : List Bool → ℕ
unmarked_count marked = count_by not marked

-- the node stands in the list, at one of these places
abbrev pub StandsIn : List ℕ → ℕ → ℕ → ℕ → Type 0
StandsIn list from end node = (i : ℕ) × (from ≤ i) × (i < end) × (slice_index list i ≡ node)
