-- What a document says of its elements.
use Rattle.std.specs.Prelude.{ℕ, ◌≡◌, ◌≤◌, length, All, map}
use Rattle.cv_doc.specs.Reading.{Shape}
use Rattle.cv_props.specs.Registered.{AreEntries}
use Rattle.cv_props.specs.Registration.{viewport}
use Rattle.cv_props.specs.Sheets.{registry_of}
use Rattle.cv_props.specs.Winners.{Declarations}
use Rattle.cv_tree.specs.Names.{shown_of}
use Rattle.cv_tree.specs.Styles.{declarations_of, notes_of, rules_in}
use Rattle.cv_tree.specs.declared.contents.Contents.{Contents}

-- the most bytes of an input, and so of a text in it
abbrev pub most_bytes : ℕ
most_bytes = 16777216

-- an element has no more declarations than an input has bytes
abbrev pub AreFew : Declarations → Type 0
AreFew declarations = length declarations ≤ most_bytes

-- what a document says of its elements
pub record HasContents (document : Shape) (contents : Contents) : Type 0 where
  pub registry : contents.registry ≡ registry_of (viewport document.width document.height) (rules_in document.sheet)
  pub entries : AreEntries contents.registry
  pub notes : contents.notes.items ≡ notes_of document
  pub declarations : contents.declarations.items ≡ map declarations_of document.elements
  pub few : All AreFew contents.declarations.items
  pub shown : contents.shown.items ≡ shown_of document
