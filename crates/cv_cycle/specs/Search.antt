-- What a walk that finds the components of a graph keeps. The contracts of the private functions cite it.
use Rattle.std.specs.Prelude.{◌≡◌, ℕ, ◌+◌, ◌<◌, ◌≤◌, ◌↔◌, ◌⊎◌, List, length, Some, slice_get, slice_index}
use Rattle.cv_graph.specs.Edges.{targets, HasEdge}
use Rattle.cv_spec_element.specs.Walks.{Reaches, IsCyclic}
use Rattle.cv_cycle.specs.Marks.{IsMarked, unmarked_count, StandsIn}
use Rattle.cv_cycle.specs.State.{State, IsSized}

-- a node stands on the stack at this place or above
abbrev pub StandsFrom : (ℕ → ℕ) → ℕ → ℕ → ℕ → Type 0
StandsFrom stack size from node = (i : ℕ) × (from ≤ i) × (i < size) × (stack i ≡ node)

-- `target v k w`: the k-th edge of v leads to w
module _ (target : ℕ → ℕ → ℕ → Type 0) where
  abbrev pub edge : ℕ → ℕ → Type 0
  edge v w = (k : ℕ) × target v k w

  -- what the walk keeps; `reads` is how many edges of a node were asked for
  pub record IsWalk (stack : ℕ → ℕ) (size : ℕ) (IsOnPath IsStart IsClosed IsFlagged : ℕ → Type 0) (reads : ℕ → ℕ) : Type 0 where
    pub apart : (i j : ℕ) → i < size → j < size → stack i ≡ stack j → i ≡ j
    pub unclosed : (i : ℕ) → i < size → ¬ IsClosed (stack i)
    pub kept : (v w : ℕ) → IsClosed v → edge v w → IsClosed w
    pub sound : (v : ℕ) → IsFlagged v → IsCyclic edge v
    pub full : (v : ℕ) → IsClosed v → IsCyclic edge v → IsFlagged v
    pub loops : (i k : ℕ) → i < size → k < reads (stack i) → target (stack i) k (stack i) → IsFlagged (stack i)
    pub inside : (b i k w : ℕ) → IsStart b → b ≤ i → i < size → k < reads (stack i) → target (stack i) k w → IsClosed w ⊎ StandsFrom stack size b w
    pub finished : (i : ℕ) → i < size → IsOnPath i ⊎ ((k w : ℕ) → target (stack i) k w → k < reads (stack i))
    pub forward : (i j : ℕ) → i < j → j < size → Reaches edge (stack i) (stack j)
    pub back : (i j : ℕ) → i < j → j < size → ((b : ℕ) → IsStart b → i < b → b ≤ j → ⊥) → Reaches edge (stack j) (stack i)
    pub starts : (b : ℕ) → IsStart b → IsOnPath b
    pub path : (i : ℕ) → IsOnPath i → i < size
    pub first : 0 < size → IsStart 0

-- the k-th edge of the node leads there
abbrev pub IsTarget : List (List ℕ) → ℕ → ℕ → ℕ → Type 0
IsTarget rows node k to = slice_get (targets rows node) k ≡ Some to

-- the first places of the list rise
abbrev pub Rises : List ℕ → ℕ → Type 0
Rises places height = (a b : ℕ) → a < b → b < height → slice_index places a < slice_index places b

-- The nodes of complete components stand in the list once, and behind every node to which an edge leads from them, where they
-- are on no cycle.
pub record IsOrdered (rows : List (List ℕ)) (order : List ℕ) (done : ℕ) (IsClosed : ℕ → Type 0) : Type 0 where
  pub written : (v : ℕ) → IsClosed v ↔ StandsIn order 0 done v
  pub once : (i j : ℕ) → i < done → j < done → slice_index order i ≡ slice_index order j → i ≡ j
  pub earlier : (i w : ℕ) → i < done → ¬ IsCyclic (HasEdge rows) (slice_index order i) → HasEdge rows (slice_index order i) w → StandsIn order 0 i w

-- what a walk over the graph keeps between its moves
pub record IsSearch (rows : List (List ℕ)) (s : State) : Type 0 where
  pub sized : IsSized (length rows) s
  pub walk : IsWalk (IsTarget rows) (λ i. slice_index s.stack i) s.size (StandsIn s.path 0 s.height) (StandsIn s.starts 0 s.count) (IsMarked s.closed) (IsMarked s.flags) (λ v. slice_index s.reads v)
  pub met : (v : ℕ) → IsMarked s.met v ↔ (IsMarked s.closed v ⊎ StandsIn s.stack 0 s.size v)
  pub places : (i : ℕ) → i < s.size → slice_index s.place (slice_index s.stack i) ≡ i
  pub unread : (v : ℕ) → ¬ IsMarked s.met v → slice_index s.reads v ≡ 0
  pub path_rises : Rises s.path s.height
  pub starts_rise : Rises s.starts s.count
  pub room : s.done + (s.size + unmarked_count s.met) ≡ length rows
  pub ordered : IsOrdered rows s.order s.done (IsMarked s.closed)
  pub few : (v : ℕ) → v < length rows → slice_index s.reads v ≤ length (targets rows v) + 1
  pub unfinished : (i : ℕ) → StandsIn s.path 0 s.height i → slice_index s.reads (slice_index s.stack i) ≤ length (targets rows (slice_index s.stack i))
