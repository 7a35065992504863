-- The text of each item is an entry of a list, and the text of a list is that of its items.
use Rattle.std.specs.Prelude.{◌≡◌, true, false, List, [], ◌∷◌, ◌++◌, map, codes, All}
use Rattle.std.specs.Fmt.{signed_decimal}
use Rattle.std.proofs.Common.{refl, sym, ◌∙◌, ap}
use Rattle.std.proofs.lemmas.List.Elements.{All-nil, All-cons}
use Rattle.cv_spec_text.specs.declared.token.Bracket.TheVariants.{Round}
use Rattle.cv_spec_text.specs.declared.token.Token.{Token}
use Rattle.cv_spec_text.specs.declared.token.Token.TheVariants as tokens
use Rattle.cv_component.specs.Balance.{ends, plain}
use Rattle.cv_component.specs.Parts.{is_white, is_comma, parts, filled, trim, has_white_end}
use Rattle.cv_calc.specs.declared.unit.Unit.TheVariants as units
use Rattle.cv_value.specs.declared.typed.Item.{Item}
use Rattle.cv_value.specs.declared.typed.Item.TheVariants.{Number, Integer, Percentage, Length, Mixed, Angle, Time, Resolution, Color, Url, Str, Ident}
use Rattle.cv_value.specs.declared.typed.Typed.{Typed}
use Rattle.cv_value.specs.declared.typed.Typed.TheVariants.{One, Spaces, Commas}
use Rattle.cv_value.specs.Text.{item_text, separator, further_text, list_text, typed_text}
use Rattle.cv_value_laws.specs.Entries.{preserved, block, IsEntry}
use Rattle.cv_value_laws.specs.Lists.{further, joined, TextsAreSplit}
use Rattle.cv_value_laws.proofs.Ends.{entry_ends, trim_kept}
use Rattle.cv_value_laws.proofs.Joined.{entries_are_split}
use Rattle.cv_value_laws.proofs.TextEntries.{number_entry, text_entry, color_entry}

pub item_entry : (i : Item) → IsEntry (item_text i)
item_entry (Number v) = number_entry v units.Number
item_entry (Integer n) = record { value = preserved (tokens.Number (signed_decimal n)) refl; not_white = refl; not_comma = refl }
item_entry (Percentage v) = number_entry v units.Percent
item_entry (Length v) = number_entry v units.Px
item_entry (Mixed c) = text_entry c
item_entry (Angle v) = number_entry v units.Deg
item_entry (Time v) = number_entry v units.S
item_entry (Resolution v) = number_entry v units.Dppx
item_entry (Color c) = color_entry c
item_entry (Url text) = record {
  value = block Round (tokens.Function (codes "url")) (tokens.Str text ∷ tokens.Close Round ∷ []) refl (plain Round (tokens.Str text) (tokens.Close Round ∷ []) refl (λ e. cc) (ends Round));
  not_white = refl;
  not_comma = refl;
}
item_entry (Str text) = record { value = preserved (tokens.Str text) refl; not_white = refl; not_comma = refl }
item_entry (Ident name) = record { value = preserved (tokens.Ident name) refl; not_white = refl; not_comma = refl }

each_entry : (is : List Item) → All IsEntry (map item_text is)
each_entry [] = All-nil IsEntry
each_entry (i ∷ is) = All-cons IsEntry (item_text i) (map item_text is) (item_entry i) (each_entry is)

-- ---- lists

further_joined : (separator : List Token) (is : List Item) → further_text separator is ≡ further separator (map item_text is)
further_joined separator [] = refl
further_joined separator (i ∷ is) = ap (λ (ts : List Token). separator ++ item_text i ++ ts) (further_joined separator is)

list_joined : (separator : List Token) (i : Item) (is : List Item) → list_text separator (i ∷ is) ≡ joined separator (map item_text (i ∷ is))
list_joined separator i is = ap (λ (ts : List Token). item_text i ++ ts) (further_joined separator is)

white : List Token
white = tokens.White ∷ []

comma : List Token
comma = tokens.Comma ∷ tokens.White ∷ []

spaced : (i : Item) (is : List Item) → filled (parts is_white (typed_text (Spaces (i ∷ is)))) ≡ map item_text (i ∷ is)
unfolding typed_text white
spaced i is =
    ap (λ (ts : List Token). filled (parts is_white ts)) (list_joined white i is) ∙ entries_are_split.spaced (item_text i) (map item_text is) (each_entry (i ∷ is))

separated : (i : Item) (is : List Item) → map trim (parts is_comma (typed_text (Commas (i ∷ is)))) ≡ map item_text (i ∷ is)
unfolding typed_text comma
separated i is =
    ap (λ (ts : List Token). map trim (parts is_comma ts)) (list_joined comma i is) ∙ entries_are_split.separated (item_text i) (map item_text is) (each_entry (i ∷ is))

ends_full : (separator : List Token) (i : Item) (is : List Item) → has_white_end (list_text separator (i ∷ is)) ≡ false
ends_full separator i is =
    ap has_white_end (list_joined separator i is) ∙ entries_are_split.no_white_end separator (item_text i) (map item_text is) (each_entry (i ∷ is))

list_trimmed : (separator : List Token) (is : List Item) → trim (list_text separator is) ≡ list_text separator is
list_trimmed separator [] = refl
list_trimmed separator (i ∷ is) =
    ap trim (list_joined separator i is) ∙ entries_are_split.trimmed separator (item_text i) (map item_text is) (each_entry (i ∷ is)) ∙ sym (list_joined separator i is)

typed_trimmed : (v : Typed) → trim (typed_text v) ≡ typed_text v
unfolding typed_text
typed_trimmed (One i) = let entry : IsEntry (item_text i) = item_entry i in trim_kept (item_text i) entry.not_white (entry_ends (item_text i) entry)
typed_trimmed (Spaces is) = list_trimmed (separator false) is
typed_trimmed (Commas is) = list_trimmed (separator true) is

pub texts_are_split : TextsAreSplit
unfolding typed_text white comma
texts_are_split = record {
  entry = item_entry;
  spaced = spaced;
  separated = separated;
  spaces_end = λ i is. ends_full white i is;
  commas_end = λ i is. ends_full comma i is;
  trimmed = typed_trimmed;
}
