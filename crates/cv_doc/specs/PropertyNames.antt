-- The names of the ordinary properties that this project has: its own selection, in an order of its own.
use Rattle.std.specs.Prelude.{ℕ, Bool, List, [], ◌∷◌, map, codes}
use Rattle.std.specs.Char.{to_ascii_lowercase}
use Rattle.std.specs.List.{list_any}
use Rattle.cv_spec_text.specs.Characters.{same_text}

unfoldable pub property_names : List (List ℕ)
property_names =
    codes "font-size" ∷ codes "color" ∷ codes "line-height" ∷ codes "letter-spacing" ∷ codes "text-indent" ∷
    codes "visibility" ∷ codes "orphans" ∷ codes "display" ∷ codes "width" ∷ codes "height" ∷ codes "min-width" ∷
    codes "min-height" ∷ codes "max-width" ∷ codes "max-height" ∷ codes "margin-top" ∷ codes "margin-right" ∷
    codes "margin-bottom" ∷ codes "margin-left" ∷ codes "padding-top" ∷ codes "padding-right" ∷
    codes "padding-bottom" ∷ codes "padding-left" ∷ codes "top" ∷ codes "right" ∷ codes "bottom" ∷ codes "left" ∷
    codes "row-gap" ∷ codes "column-gap" ∷ codes "opacity" ∷ codes "z-index" ∷ codes "order" ∷ codes "flex-grow" ∷
    codes "flex-shrink" ∷ codes "background-color" ∷ codes "outline-offset" ∷ []

-- the two texts are the same, without ASCII case
abbrev pub same_word : List ℕ → List ℕ → Bool
same_word text word = same_text (map to_ascii_lowercase text) (map to_ascii_lowercase word)

-- the name of an ordinary property, without ASCII case
unfoldable pub is_property : List ℕ → Bool
is_property name = list_any (same_word name) property_names
