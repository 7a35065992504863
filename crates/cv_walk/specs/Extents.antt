-- Where the elements of a tree end (this project's own).
use Rattle.std.specs.Prelude.{ℕ, ◌≡◌, ◌+◌, ◌<◌, ◌≤◌, true, List, [], length, Option, Some, None, nat_lt, slice_index, slice_set, if◌then◌else◌}
use Rattle.std.specs.List.{slice_get}
use Rattle.cv_doc.specs.declared.elements.Elem.{Elem}
use Rattle.cv_walk.specs.Subtrees.{marks}
use Rattle.cv_walk.specs.declared.extent.Extents.{Extents}

-- the element with index i is the one with index start, or a descendant of it
abbrev pub IsIn : List Elem → ℕ → ℕ → Type 0
IsIn elements start i = slice_get (marks start [] elements) i ≡ Some true

-- Of the element with this index and its descendants, the last stands right before this end.
pub record EndsAt (elements : List Elem) (start end : ℕ) : Type 0 where
  pub last : ℕ
  pub behind : end ≡ last + 1
  pub inside : IsIn elements start last
  pub none_later : (i : ℕ) → IsIn elements start i → i ≤ last

-- there is an end for each element, and it ends there
pub record AreExtents (elements : List Elem) (extents : Extents) : Type 0 where
  pub count : length extents.ends.items ≡ length elements
  pub ends : (i : ℕ) → i < length elements → EndsAt elements i (slice_index extents.ends.items i)

-- the ends, where an element has this parent: its parent ends no earlier
abbrev pub raised : List ℕ → ℕ → Option ℕ → List ℕ
raised ends i None = ends
raised ends i (Some parent) = if nat_lt (slice_index ends parent) (slice_index ends i) then slice_set ends parent (slice_index ends i) else ends
