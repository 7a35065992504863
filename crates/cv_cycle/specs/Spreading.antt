-- What is known while marks spread along the edges of a graph. The contracts of the private functions cite it.
use Rattle.std.specs.Prelude.{◌≡◌, ℕ, ◌+◌, ◌<◌, ◌≤◌, ◌⊎◌, List, Bool, length, slice_index}
use Rattle.cv_graph.specs.Edges.{HasEdge}
use Rattle.cv_spec_element.specs.Walks.{Reaches}
use Rattle.cv_cycle.specs.Marks.{IsMarked, StandsIn, unmarked_count}
use Rattle.cv_cycle.specs.declared.spread.Found.{Found}

-- the node is marked, or one edge or more lead to it from a node that is
abbrev pub IsReached : List (List ℕ) → List Bool → ℕ → Type 0
IsReached rows starts node =
    IsMarked starts node ⊎ ((from : ℕ) × IsMarked starts from × Reaches (HasEdge rows) from node)

-- the marked nodes are listed, and all of them are reached
pub record AreFound (rows : List (List ℕ)) (starts : List Bool) (s : Found) : Type 0 where
  pub count : length s.marks.items ≡ length rows
  pub listed : (node : ℕ) → IsMarked s.marks.items node → StandsIn s.nodes.items 0 (length s.nodes.items) node
  pub marked : (i : ℕ) → i < length s.nodes.items → IsMarked s.marks.items (slice_index s.nodes.items i)
  pub reached : (i : ℕ) → i < length s.nodes.items → IsReached rows starts (slice_index s.nodes.items i)

-- more nodes are marked, and the list goes on with them
pub record Grows (s s' : Found) : Type 0 where
  pub kept : (node : ℕ) → IsMarked s.marks.items node → IsMarked s'.marks.items node
  pub longer : length s.nodes.items ≤ length s'.nodes.items
  pub same : (i : ℕ) → i < length s.nodes.items → slice_index s'.nodes.items i ≡ slice_index s.nodes.items i
  pub balance : unmarked_count s'.marks.items + length s'.nodes.items ≡ unmarked_count s.marks.items + length s.nodes.items
