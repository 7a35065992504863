-- What a walk over a graph knows, and its moves, as the contracts of the private functions say them.
use Rattle.std.specs.Prelude.{◌≡◌, ◌≢◌, ℕ, ◌+◌, ◌-◌, ◌<◌, ◌≤◌, ◌↔◌, ◌⊎◌, List, length, replicate, Bool, true, false, slice_index, slice_set}
use Rattle.cv_cycle.specs.Marks.{IsMarked, StandsIn}

pub record State : Type 0 where
  -- the nodes on the stack, and how many they are
  pub stack : List ℕ
  pub size : ℕ
  -- the path and its starts, as places on the stack
  pub path : List ℕ
  pub height : ℕ
  pub starts : List ℕ
  pub count : ℕ
  -- where each node stands on the stack
  pub place : List ℕ
  -- the nodes that were met, those of complete components, and those on a cycle
  pub met : List Bool
  pub closed : List Bool
  pub flags : List Bool
  -- how many edges of each node were asked for
  pub reads : List ℕ
  -- the nodes of complete components, one component behind another, and how many they are
  pub order : List ℕ
  pub done : ℕ

-- no node was met
abbrev pub fresh : ℕ → State
fresh nodes = record {
  stack = replicate nodes 0;
  size = 0;
  path = replicate nodes 0;
  height = 0;
  starts = replicate nodes 0;
  count = 0;
  place = replicate nodes 0;
  met = replicate nodes false;
  closed = replicate nodes false;
  flags = replicate nodes false;
  reads = replicate nodes 0;
  order = replicate nodes 0;
  done = 0;
}

-- each list has room for so many nodes
pub record IsSized (nodes : ℕ) (s : State) : Type 0 where
  pub stack : length s.stack ≡ nodes
  pub path : length s.path ≡ nodes
  pub starts : length s.starts ≡ nodes
  pub place : length s.place ≡ nodes
  pub met : length s.met ≡ nodes
  pub closed : length s.closed ≡ nodes
  pub flags : length s.flags ≡ nodes
  pub reads : length s.reads ≡ nodes
  pub order : length s.order ≡ nodes

-- there is room for one more node
pub record HasRoom (s : State) : Type 0 where
  pub size : s.size < length s.met
  pub height : s.height < length s.met
  pub count : s.count < length s.met

-- the node was met: it stands on the stack, ends the path and is a start
abbrev pub entered : State → ℕ → State
entered s node = record {
  stack = slice_set s.stack s.size node;
  size = s.size + 1;
  path = slice_set s.path s.height s.size;
  height = s.height + 1;
  starts = slice_set s.starts s.count s.size;
  count = s.count + 1;
  place = slice_set s.place node s.size;
  met = slice_set s.met node true;
  closed = s.closed;
  flags = s.flags;
  reads = s.reads;
  order = s.order;
  done = s.done;
}

-- other starts and flags
abbrev pub with_starts : State → ℕ → List Bool → State
with_starts s count flags = record s { count = count; flags = flags }

-- the node is flagged where the edge leads to itself
pub record IsLooped (flags flags' : List Bool) (node to : ℕ) : Type 0 where
  pub itself : node ≡ to → flags' ≡ slice_set flags node true
  pub other : node ≢ to → flags' ≡ flags

-- an edge of the node met a node of the stack
pub record Meets (s s' : State) (node to : ℕ) : Type 0 where
  pub rest : s' ≡ with_starts s s'.count s'.flags
  pub fewer : s'.count ≤ s.count
  pub dropped : (i : ℕ) → s'.count ≤ i → i < s.count → slice_index s.place to < slice_index s.starts i
  pub kept : 0 < s'.count → slice_index s.starts (s'.count - 1) ≤ slice_index s.place to
  pub looped : IsLooped s.flags s'.flags node to

-- an edge of the node was followed
pub record Follows (s s' : State) (node to : ℕ) : Type 0 where
  pub new : ¬ IsMarked s.met to → s' ≡ entered s to
  pub closed : IsMarked s.met to → IsMarked s.closed to → s' ≡ s
  pub pending : IsMarked s.met to → ¬ IsMarked s.closed to → Meets s s' node to

-- the nodes of one list from a place to another stand in the other list behind its first ones
pub record Copies (order order' : List ℕ) (done : ℕ) (nodes : List ℕ) (from end : ℕ) : Type 0 where
  pub count : length order' ≡ length order
  pub kept : (i : ℕ) → i < done → slice_index order' i ≡ slice_index order i
  pub copied : (i : ℕ) → i < end - from → slice_index order' (done + i) ≡ slice_index nodes (from + i)

-- the order goes on with what stands on the stack from the place on
abbrev pub written : State → ℕ → List ℕ → State
written s top order = record s { order = order; done = s.done + (s.size - top) }

pub record Writes (s s' : State) (top : ℕ) : Type 0 where
  pub rest : s' ≡ written s top s'.order
  pub copies : Copies s.order s'.order s.done s.stack top s.size

-- what stands on the stack from the place on is taken off it, and marked
abbrev pub cut : State → ℕ → List Bool → List Bool → State
cut s top closed flags = record s { count = s.count - 1; size = top; closed = closed; flags = flags }

pub record Cuts (s s' : State) (top : ℕ) : Type 0 where
  pub rest : s' ≡ cut s top s'.closed s'.flags
  pub closed_count : length s'.closed ≡ length s.closed
  pub closed : (node : ℕ) → IsMarked s'.closed node ↔ (IsMarked s.closed node ⊎ StandsIn s.stack top s.size node)
  pub flags_count : length s'.flags ≡ length s.flags
  pub flags : 1 < s.size - top → (node : ℕ) → IsMarked s'.flags node ↔ (IsMarked s.flags node ⊎ StandsIn s.stack top s.size node)
  pub same_flags : s.size - top ≤ 1 → s'.flags ≡ s.flags

-- what stands on the stack from the place on was closed as a component
pub record Closes (s s' : State) (top : ℕ) : Type 0 where
  pub between : State
  pub writes : Writes s between top
  pub cuts : Cuts between s' top

-- the path without its end
abbrev pub shortened : State → State
shortened s = record s { height = s.height - 1 }

-- the node at the end of the path, at this place of the stack, was left
pub record Leaves (s s' : State) (top : ℕ) : Type 0 where
  pub plain : slice_index s.starts (s.count - 1) ≢ top → s' ≡ shortened s
  pub whole : slice_index s.starts (s.count - 1) ≡ top → Closes (shortened s) s' top

-- one more edge of the node was asked for
abbrev pub asked : State → ℕ → State
asked s node = record s { reads = slice_set s.reads node (slice_index s.reads node + 1) }
