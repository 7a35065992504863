-- Names with a meaning of their own: those of custom properties, and the CSS-wide keywords.
use Rattle.std.specs.Prelude.{ℕ, Bool, false, ◌==◌, ◌&&◌, ◌||◌, List, ◌∷◌, map, codes}
use Rattle.std.specs.Char.{to_ascii_lowercase}
use Rattle.cv_spec_text.specs.Characters.{hyphen, same_text}

-- The name of a custom property: `--` and more (Cascading Variables 1, "Defining Custom Properties"). That `--` alone is
-- none is this project's own: the standard keeps it for a later use.
abbrev pub is_custom : List ℕ → Bool
is_custom (a ∷ b ∷ c ∷ rest) = a == hyphen && b == hyphen
is_custom _ = false

-- the name is this word, without ASCII case
abbrev pub is_word : List ℕ → List ℕ → Bool
is_word word name = same_text (map to_ascii_lowercase name) word

-- a CSS-wide keyword, without ASCII case (Values and Units 4, "CSS-wide keywords")
abbrev pub is_css_wide_keyword : List ℕ → Bool
is_css_wide_keyword name =
    is_word (codes "initial") name || is_word (codes "inherit") name || is_word (codes "unset") name || is_word (codes "revert") name || is_word (codes "revert-layer") name
