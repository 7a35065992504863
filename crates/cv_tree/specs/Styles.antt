-- What a document says of its elements: their declarations, and the notes on what is ignored.
use Rattle.std.specs.Prelude.{ℕ, List, ◌++◌}
use Rattle.std.specs.List.{flat_map, enumerate_from}
use Rattle.cv_spec_text.specs.declared.token.Token.{Token}
use Rattle.cv_spec_text.specs.Text.{preprocessed}
use Rattle.cv_spec_text.specs.Tokens.{tokens_of}
use Rattle.cv_component.specs.declared.items.Piece.{Piece}
use Rattle.cv_component.specs.declared.sheet.Rule.{Rule}
use Rattle.cv_component.specs.Items.{items}
use Rattle.cv_component.specs.Rules.{rules}
use Rattle.cv_doc.specs.declared.elements.Elem.{Elem}
use Rattle.cv_doc.specs.Reading.{Shape}
use Rattle.cv_props.specs.declared.note.Note.{Note}
use Rattle.cv_props.specs.Kept.{kept_declarations, notes_on}
use Rattle.cv_props.specs.Registration.{viewport}
use Rattle.cv_props.specs.Sheets.{notes_on_rules}
use Rattle.cv_props.specs.Winners.{Declarations, winners}

-- the tokens of these characters (CSS Syntax 3, "Preprocessing the input stream" and "Tokenization")
abbrev pub tokens_in : List ℕ → List Token
tokens_in characters = tokens_of (preprocessed characters)

-- the items of a style
abbrev pub items_in : List ℕ → List Piece
items_in style = items (tokens_in style)

-- the rules of a sheet
abbrev pub rules_in : List ℕ → List Rule
rules_in sheet = rules (tokens_in sheet)

-- the winning declarations of a style
abbrev pub declarations_in : List ℕ → Declarations
declarations_in style = winners (kept_declarations (items_in style))

-- an element's winning declarations
abbrev pub declarations_of : Elem → Declarations
declarations_of element = declarations_in element.style

-- the notes on the items of an element with this number
abbrev pub element_notes : ℕ × Elem → List Note
element_notes (number, element) = notes_on number (items_in element.style)

-- the notes on the elements from this number on
abbrev pub elements_notes : ℕ → List Elem → List Note
elements_notes number elements = flat_map element_notes (enumerate_from number elements)

-- the notes: those on the sheet by rule, and behind them those on the elements by element and item
abbrev pub notes_of : Shape → List Note
notes_of document = notes_on_rules (viewport document.width document.height) (rules_in document.sheet) ++ elements_notes 0 document.elements
