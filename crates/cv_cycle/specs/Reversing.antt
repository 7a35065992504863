-- Edges that are turned round.
use Rattle.std.specs.Prelude.{◌≡◌, ℕ, ◌<◌, ◌⊎◌, ◌↔◌, List, Bool, slice_index, length, eqb}
use Rattle.std.specs.List.{IsDistinct}
use Rattle.cv_graph.specs.Edges.{targets, HasEdge}
use Rattle.cv_spec_element.specs.Walks.{Reaches}
use Rattle.cv_cycle.specs.Marks.{IsMarked}

-- an edge leads to a node that may be passed
abbrev pub LeadsThrough : List (List ℕ) → List Bool → ℕ → ℕ → Type 0
LeadsThrough rows through from to = HasEdge rows from to × IsMarked through to

-- the node is a goal, or such edges lead from it to one
abbrev pub IsReachedBack : List (List ℕ) → List Bool → List Bool → ℕ → Type 0
IsReachedBack rows through goals node =
    IsMarked goals node ⊎ ((to : ℕ) × IsMarked goals to × Reaches (LeadsThrough rows through) node to)

-- the edges of the nodes below `count` are turned round
pub record IsReversed (rows : List (List ℕ)) (through : List Bool) (count : ℕ) (back : List (List ℕ)) : Type 0 where
  pub edges : (to from : ℕ) → HasEdge back to from ↔ ((from < count) × LeadsThrough rows through from to)
  pub once : (to : ℕ) → IsDistinct eqb (targets back to)

-- and so are the first edges of one more
pub record IsReversedTo (rows : List (List ℕ)) (through : List Bool) (count edge : ℕ) (back : List (List ℕ)) : Type 0 where
  pub edges : (to from : ℕ) → HasEdge back to from ↔ (((from < count) × LeadsThrough rows through from to) ⊎ ((from ≡ count) × IsMarked through to × ((k : ℕ) × (k < edge) × (k < length (targets rows count)) × (slice_index (targets rows count) k ≡ to))))
  pub once : (to : ℕ) → IsDistinct eqb (targets back to)
