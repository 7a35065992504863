-- Which declarations hold a unit that is relative to the font size, and which need which others. The contracts of the private functions
-- cite it.
use Rattle.std.specs.Prelude.{ℕ, ◌≡◌, ◌<◌, ◌⊎◌, Bool, true, false, not, ◌&&◌, ◌||◌, if◌then◌else◌, eqb, List, [], ◌∷◌, ◌++◌, length, Option, Some, None, is_some, is_none, slice_get}
use Rattle.std.specs.List.{list_any}
use Rattle.cv_spec_text.specs.declared.token.Token.{Token}
use Rattle.cv_calc_laws.specs.Fonts.{holds_no_font_unit}
use Rattle.cv_spec_element.specs.Dependencies.{Needs, Owns, Holds, RefersLoosely}
use Rattle.cv_var.specs.Flat.{FlatPiece, flat_token, flat_reference, flattened}
use Rattle.cv_var.specs.Names.{names_of, firsts}
use Rattle.cv_var.specs.References.{pieces_of}
use Rattle.cv_calc.specs.declared.unit.Unit.{Unit as Measure}
use Rattle.cv_property.specs.declared.property.Property.TheVariants.{FontSize}
use Rattle.cv_property.specs.Table.{number_of}
use Rattle.cv_valuation.specs.declared.key.Key.{Key}
use Rattle.cv_valuation.specs.declared.key.Key.TheVariants.{Custom, Table}
use Rattle.cv_valuation.specs.declared.outcome.Outcome.{Outcome}
use Rattle.cv_valuation.specs.declared.outcome.Outcome.TheVariants.{Tokens, Value, Invalid}
use Rattle.cv_valuation.specs.Valuations.{Values}
use Rattle.cv_props.specs.declared.decls.Decl.{Decl}
use Rattle.cv_props.specs.Registered.{Registered}
use Rattle.cv_props.specs.Winners.{Declarations, declaration_of}
use Rattle.cv_spec_valuation.specs.Registered.{is_loose, has_lengths, initial_at}
use Rattle.cv_spec_valuation.specs.Element.{keyword}
use Rattle.cv_element.specs.Settling.{key_at}
use Rattle.cv_element.specs.Values.{AnElement, held_by, start_at}

-- the property at the one place depends on the one at the other, or reads it
abbrev pub NeedsAt : AnElement → Declarations → ℕ → ℕ → Type 0
NeedsAt e decls from to = (to < length decls) × Needs e (key_at decls from) (key_at decls to)

-- a unit that is relative to the font size
abbrev pub OwnsFont : AnElement → Key → Type 0
OwnsFont e key = (u : Measure) × (e.words.is_font_unit u ≡ true) × Owns e key u

abbrev pub HoldsFont : AnElement → Key → Type 0
HoldsFont e key = (u : Measure) × (e.words.is_font_unit u ≡ true) × Holds e key u

-- the declaration owns such a unit, or refers to a loose name that isn't declared and owns one
abbrev pub BeginsFont : AnElement → Declarations → ℕ → Type 0
BeginsFont e decls place =
    OwnsFont e (key_at decls place) ⊎ ((name : List ℕ) × RefersLoosely e (key_at decls place) (Custom name) × (e.declarations.pieces (Custom name) ≡ None) × OwnsFont e (Custom name))

-- ---- the tests

abbrev pub has_font : Bool → List Token → Bool
has_font root list = not (holds_no_font_unit root list)

abbrev pub piece_has_font : Bool → FlatPiece → Bool
piece_has_font root (flat_token t) = has_font root (t ∷ [])
piece_has_font root (flat_reference name fallback) = false

abbrev pub piece_is_keyword : FlatPiece → Bool
piece_is_keyword (flat_token t) = is_some (keyword t)
piece_is_keyword (flat_reference name fallback) = false

abbrev pub some_piece : (FlatPiece → Bool) → Option FlatPiece → Bool
some_piece test None = false
some_piece test (Some piece) = test piece

-- a token of the declaration has a font unit, or is a CSS-wide keyword
abbrev pub declares_font : Bool → List Token → Bool
declares_font root list = list_any (piece_has_font root) (flattened (pieces_of list))

abbrev pub declares_keyword : List Token → Bool
declares_keyword list = list_any piece_is_keyword (flattened (pieces_of list))

abbrev pub outcome_has_font : Bool → Outcome → Bool
outcome_has_font root (Tokens list) = has_font root list
outcome_has_font root (Value value) = false
outcome_has_font root Invalid = false

abbrev pub some_has_font : Bool → Option Outcome → Bool
some_has_font root None = false
some_has_font root (Some outcome) = outcome_has_font root outcome

-- the lists that a loose property may take in place of its own
abbrev pub takes_font : Bool → Registered → Option Values → Key → Bool
takes_font root registered parent key = outcome_has_font root (initial_at registered key) || some_has_font root (held_by parent key)

-- the declared property owns a font unit
abbrev pub owns_font : Bool → Registered → Option Values → Key → List Token → Bool
owns_font root registered parent key list =
    declares_font root list || (is_loose registered key && (declares_keyword list && takes_font root registered parent key))

-- the name isn't declared, is loose, and has a font unit
abbrev pub lends_font : Bool → Registered → Declarations → Option Values → List ℕ → Bool
lends_font root registered decls parent name =
    is_none (declaration_of decls (Custom name)) && (is_loose registered (Custom name) && outcome_has_font root (start_at registered parent (Custom name)))

-- ---- the edges to `font-size`

-- the property reads the font size, where it is told whether it holds a font unit
abbrev pub reads_size : Registered → Key → Bool → Bool
reads_size registered (Custom name) holds = holds && has_lengths registered (Custom name)
reads_size registered (Table property) holds = not (eqb (number_of property) (number_of FontSize))

-- the row goes on with the place of `font-size`, where the property reads it
abbrev pub with_size : Registered → Key → Bool → ℕ → List ℕ → List ℕ
with_size registered key holds size row = if reads_size registered key holds then row ++ size ∷ [] else row

-- the place of `font-size`, or none where it isn't declared
abbrev pub IsSizedAt : Declarations → Option ℕ → Type 0
IsSizedAt decls None = declaration_of decls (Table FontSize) ≡ None
IsSizedAt decls (Some place) = (place < length decls) × (key_at decls place ≡ Table FontSize) × (is_some (declaration_of decls (Table FontSize)) ≡ true)
