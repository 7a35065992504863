-- An element and its descendants: the element itself, and each other one whose parent is among them.
use Rattle.std.specs.Prelude.{ℕ, ◌+◌, ◌==◌, ◌||◌, Bool, true, false, List, [], ◌∷◌, ◌++◌, length, Option, Some, None}
use Rattle.std.specs.List.{slice_get}
use Rattle.cv_doc.specs.declared.elements.Elem.{Elem}

abbrev pub mark_at : Option Bool → Bool
mark_at None = false
mark_at (Some mark) = mark

-- the parent is marked
abbrev pub is_marked : List Bool → Option ℕ → Bool
is_marked marks None = false
is_marked marks (Some parent) = mark_at (slice_get marks parent)

-- the element behind the marked ones, with this parent, is stepped
abbrev pub is_stepped : ℕ → List Bool → Option ℕ → Bool
is_stepped start marks parent = length marks == start || is_marked marks parent

-- of each element, whether it is stepped, behind those of which that is known
abbrev pub marks : ℕ → List Bool → List Elem → List Bool
marks start known [] = known
marks start known (element ∷ elements) = marks start (known ++ is_stepped start known element.parent ∷ []) elements

-- the elements that are marked, from index i on: each with its index and its parent
abbrev pub stepped : ℕ → List Elem → List Bool → List (ℕ × Option ℕ)
stepped i [] marks = []
stepped i (element ∷ elements) [] = []
stepped i (element ∷ elements) (true ∷ marks) = (i, element.parent) ∷ stepped (i + 1) elements marks
stepped i (element ∷ elements) (false ∷ marks) = stepped (i + 1) elements marks

-- the element with this index and its descendants, by index, each with its parent
abbrev pub subtree : ℕ → List Elem → List (ℕ × Option ℕ)
subtree start elements = stepped 0 elements (marks start [] elements)
