-- Which items of a style are kept, and why the others are ignored (CSS Syntax 3, "Consume a list of declarations"; Cascading
-- Variables 1, "Custom Property Value Syntax" and "Using Cascading Variables").
use Rattle.std.specs.Prelude.{ℕ, Bool, true, ◌||◌, nat_lt, if◌then◌else◌, List, [], ◌∷◌, Option, Some, None, is_some, Result, Ok, Err}
use Rattle.std.specs.List.{flat_map, enumerate_from}
use Rattle.cv_spec_text.specs.declared.token.Token.{Token}
use Rattle.cv_component.specs.Nesting.{depth}
use Rattle.cv_component.specs.declared.items.Piece.{Piece}
use Rattle.cv_component.specs.declared.items.Piece.TheVariants as pieces
use Rattle.cv_var.specs.Values.{bad_place}
use Rattle.cv_component.specs.Parts.{trim}
use Rattle.cv_var.specs.References.{bad_var, has_var}
use Rattle.cv_props.specs.declared.decls.Decl.{Decl}
use Rattle.cv_valuation.specs.declared.key.Key.{Key}
use Rattle.cv_props.specs.declared.note.Note.{Note}
use Rattle.cv_props.specs.declared.note.NotePlace.{NotePlace}
use Rattle.cv_props.specs.declared.note.NotePlace.TheVariants.{Item}
use Rattle.cv_props.specs.declared.note.Why.{Why}
use Rattle.cv_props.specs.declared.note.Why.TheVariants.{AtRule, NotDeclaration, UnknownProperty, TooDeep, BadValue, BadVar}
use Rattle.cv_property.specs.declared.property.Property.{Property}
use Rattle.cv_property.specs.Grammar.{is_match, matching_property}
use Rattle.cv_value_laws.specs.Values.{is_keyword}
use Rattle.cv_valuation.specs.declared.key.Key.TheVariants.{Custom, Table}
use Rattle.cv_props.specs.Registration.{viewport}
use Rattle.cv_valuation.specs.Keys.{key_named}

-- the first reason for which a value is refused, if there is one
unfoldable pub value_fault : List Token → Option Why
value_fault value =
    if nat_lt 128 (depth value) then Some TooDeep
    else (if is_some (bad_place value) then Some BadValue else (if is_some (bad_var value) then Some BadVar else None))

-- the list is a value of the property, apart from the ranges of numbers; no context matters for that (CSS Cascade 4, "Value Processing")
abbrev pub fits : Property → List Token → Bool
fits property value = is_match (matching_property property (viewport 0 0) value)

-- the value may be declared for the key: for an ordinary property it is one that holds a reference, or a CSS-wide keyword, or a value of
-- its grammar
abbrev pub may_be_value : Key → List Token → Bool
may_be_value (Custom name) value = true
may_be_value (Table property) value = has_var value || is_keyword (trim value) || fits property value

-- a declaration of this key, or why it is ignored
abbrev pub declared_by : Option Key → Option Why → List Token → Bool → Result (Key × Decl) Why
declared_by None fault value important = Err UnknownProperty
declared_by (Some key) (Some why) value important = Err why
declared_by (Some key) None value important =
    if may_be_value key value then Ok (key, record { value = value; important = important }) else Err BadValue

-- what an item declares, or the first reason for which it is ignored
abbrev pub declared_by_item : Piece → Result (Key × Decl) Why
declared_by_item pieces.At = Err AtRule
declared_by_item pieces.Other = Err NotDeclaration
declared_by_item (pieces.Decl name value important) = declared_by (key_named name) (value_fault value) value important

-- the declaration of an item that is kept
abbrev pub kept : Piece → List (Key × Decl)
kept piece = (elim (declared_by_item piece) [ Ok declaration ↦ declaration ∷ [] | Err why ↦ [] ])

-- the kept declarations, in order
abbrev pub kept_declarations : List Piece → List (Key × Decl)
kept_declarations pieces = flat_map kept pieces

-- the note on an item that is ignored
abbrev pub note_on : NotePlace → Piece → List Note
note_on place piece =
    (elim (declared_by_item piece) [ Ok declaration ↦ [] | Err why ↦ record { place = place; why = why } ∷ [] ])

-- the notes on the items of an element's style, in order; items are numbered from 0, ignored ones too
abbrev pub notes_on : ℕ → List Piece → List Note
notes_on element pieces = flat_map (λ (number, piece). note_on (Item element number) piece) (enumerate_from 0 pieces)
