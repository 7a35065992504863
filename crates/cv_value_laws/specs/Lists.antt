-- Lists of component values with a separator between them, and their parts (CSS Values and Units 4, "Component Value Multipliers").
use Rattle.std.specs.Prelude.{◌≡◌, false, List, [], ◌∷◌, ◌++◌, map, All}
use Rattle.cv_spec_text.specs.declared.token.Token.{Token}
use Rattle.cv_spec_text.specs.declared.token.Token.TheVariants.{White, Comma}
use Rattle.cv_component.specs.Parts.{is_white, is_comma, parts, filled, trim, has_white_end}
use Rattle.cv_value.specs.declared.typed.Item.{Item}
use Rattle.cv_value.specs.declared.typed.Typed.{Typed}
use Rattle.cv_value.specs.declared.typed.Typed.TheVariants.{Spaces, Commas}
use Rattle.cv_value.specs.Text.{item_text, typed_text}
use Rattle.cv_value_laws.specs.Entries.{IsEntry}

-- further entries, each behind what separates it
abbrev pub further : List Token → List (List Token) → List Token
further separator [] = []
further separator (e ∷ es) = separator ++ e ++ further separator es

abbrev pub joined : List Token → List (List Token) → List Token
joined separator [] = []
joined separator (e ∷ es) = e ++ further separator es

-- the entries between whitespace, and those between commas, are the parts of the list
pub record EntriesAreSplit : Type 0 where
  pub spaced : (e : List Token) (es : List (List Token)) → All IsEntry (e ∷ es) → filled (parts is_white (joined (White ∷ []) (e ∷ es))) ≡ e ∷ es
  pub separated : (e : List Token) (es : List (List Token)) → All IsEntry (e ∷ es) → map trim (parts is_comma (joined (Comma ∷ White ∷ []) (e ∷ es))) ≡ e ∷ es
  pub no_white_end : (separator : List Token) (e : List Token) (es : List (List Token)) → All IsEntry (e ∷ es) → has_white_end (joined separator (e ∷ es)) ≡ false
  pub trimmed : (separator : List Token) (e : List Token) (es : List (List Token)) → All IsEntry (e ∷ es) → trim (joined separator (e ∷ es)) ≡ joined separator (e ∷ es)

-- ---- texts of typed values

-- the text of each item is an entry, and the parts of a list's text are the texts of its items; no text has whitespace at its ends
pub record TextsAreSplit : Type 0 where
  pub entry : (i : Item) → IsEntry (item_text i)
  pub spaced : (i : Item) (is : List Item) → filled (parts is_white (typed_text (Spaces (i ∷ is)))) ≡ map item_text (i ∷ is)
  pub separated : (i : Item) (is : List Item) → map trim (parts is_comma (typed_text (Commas (i ∷ is)))) ≡ map item_text (i ∷ is)
  pub spaces_end : (i : Item) (is : List Item) → has_white_end (typed_text (Spaces (i ∷ is))) ≡ false
  pub commas_end : (i : Item) (is : List Item) → has_white_end (typed_text (Commas (i ∷ is))) ≡ false
  pub trimmed : (v : Typed) → trim (typed_text v) ≡ typed_text v
