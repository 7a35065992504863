-- What a document keeps.
use Rattle.std.specs.Prelude.{◌≡◌, ℕ, ◌<◌, ◌≤◌, List, length, Option, None, Some, IfSome, true}
use Rattle.std.specs.List.{All, slice_index_or}
use Rattle.cv_doc.specs.declared.elements.Elem.{Elem}
use Rattle.cv_doc.specs.Commands.{most_commands}
use Rattle.cv_doc.specs.Members.{is_name, most_elements, most_names, most_size}
use Rattle.cv_doc.specs.Reading.{Shape}

-- element 0 has no parent, and each other one an earlier element
abbrev pub IsParentOf : ℕ → Option ℕ → Type 0
IsParentOf i None = i ≡ 0
IsParentOf i (Some parent) = parent < i

-- each element has a parent as its index wants it
abbrev pub IsTree : List Elem → Type 0
IsTree elements = (i : ℕ) (e : Elem) → i < length elements → IsParentOf i (slice_index_or elements i e).parent

-- no part of the document is larger than it may be, its elements are a tree in order, and what it shows are names of properties
pub record IsSound (d : Shape) : Type 0 where
  pub width : d.width ≤ most_size
  pub height : d.height ≤ most_size
  pub some_elements : 1 ≤ length d.elements
  pub few_elements : length d.elements ≤ most_elements
  pub tree : IsTree d.elements
  pub few_names : IfSome d.show (λ names. length names ≤ most_names)
  pub names : IfSome d.show (λ names. All (λ name. is_name name ≡ true) names)
  pub few_commands : length d.commands ≤ most_commands

-- the sheet and each style have no more characters than this
pub record TextsAreWithin (most : ℕ) (d : Shape) : Type 0 where
  pub sheet : length d.sheet ≤ most
  pub styles : All (λ element. length element.style ≤ most) d.elements
