-- The items of a style or of a block of descriptors (CSS Syntax 3, "Consume a list of declarations").
use Rattle.std.specs.Prelude.{ℕ, ◌+◌, Bool, true, false, not, ◌||◌, ◌==◌, if◌then◌else◌, List, [], ◌∷◌, drop, take, map, reverse, codes, Option, Some, None, option_map}
use Rattle.std.specs.Char.{to_ascii_lowercase}
use Rattle.cv_spec_text.specs.Characters.{exclamation_mark, same_text}
use Rattle.cv_spec_text.specs.Printing.{is_white}
use Rattle.cv_spec_text.specs.Runs.{run_values}
use Rattle.cv_spec_text.specs.declared.token.Token.{Token}
use Rattle.cv_spec_text.specs.declared.token.Token.TheVariants.{Ident, At, Delim, Colon}
use Rattle.cv_component.specs.declared.items.Piece.{Piece}
use Rattle.cv_component.specs.declared.items.Piece.TheVariants.{Decl, Other}
use Rattle.cv_component.specs.declared.items.Piece.TheVariants as pieces
use Rattle.cv_component.specs.Nesting.{completed}
use Rattle.cv_component.specs.TopLevel.{is_semicolon, ends_prelude, top_length, curly_length, trim_front, trim_end}

abbrev pub is_important : List ℕ → Bool
is_important name = same_text (map to_ascii_lowercase name) (codes "important")

-- what is in front of `!`, which stands at the end; the lists are in reverse
abbrev pub before_mark : List Token → Option (List Token)
before_mark (Delim c ∷ before) = if c == exclamation_mark then Some before else None
before_mark _ = None

-- what is in front of `!` and `important`, which stand at the end
abbrev pub before_importance : List Token → Option (List Token)
before_importance (Ident name ∷ before) = if is_important name then before_mark (trim_front before) else None
before_importance _ = None

-- the value in front of `! important`, if it ends in that
unfoldable pub unimportant : List Token → Option (List Token)
unimportant value = option_map (λ before. reverse (trim_front before)) (before_importance (reverse value))

abbrev pub declaration_by : List ℕ → List Token → Option (List Token) → Piece
declaration_by name value None = Decl name value false
declaration_by name value (Some rest) = Decl name rest true

-- a declaration, from the text behind its name on
unfoldable pub declared_value : List Token → List Token
declared_value tokens = trim_end (trim_front (completed tokens))

abbrev pub declaration : List ℕ → List Token → Piece
declaration name (Colon ∷ tokens) = declaration_by name (declared_value tokens) (unimportant (declared_value tokens))
declaration name _ = Other

-- what an item is
abbrev pub item : List Token → Piece
item (At name ∷ rest) = pieces.At
item (Ident name ∷ rest) = declaration name (trim_front rest)
item _ = Other

abbrev pub is_at : List Token → Bool
is_at (At name ∷ rest) = true
is_at _ = false

-- how many tokens the item takes that begins here
unfoldable pub item_length : List Token → ℕ
item_length tokens =
    let prelude = top_length ends_prelude tokens in
    if is_at tokens then prelude + curly_length (drop prelude tokens) else top_length is_semicolon tokens

-- the tokens between items
abbrev pub separates : Token → Bool
separates token = is_white token || is_semicolon token

abbrev pub begins_item : List Token → Bool
begins_item [] = false
begins_item (token ∷ rest) = not (separates token)

abbrev pub item_size : List Token → ℕ
item_size tokens = if begins_item tokens then item_length tokens else 1

abbrev pub item_at : List Token → List Piece
item_at tokens = if begins_item tokens then item (take (item_length tokens) tokens) ∷ [] else []

-- the items of the tokens
abbrev pub items : List Token → List Piece
items = run_values item_size item_at
