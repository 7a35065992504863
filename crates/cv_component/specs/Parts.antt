-- The parts of a list between the separators at its top level, where no bracket is open (CSS Values and Units 4, "Component Value
-- Multipliers"; CSS Syntax 3, "Parse a comma-separated list of component values"). Several whitespace tokens count as one.
use Rattle.std.specs.Prelude.{Bool, true, false, ◌==◌, ◌||◌, List, [], ◌∷◌, reverse, if◌then◌else◌}
use Rattle.cv_spec_text.specs.Characters.{solidus}
use Rattle.cv_spec_text.specs.declared.token.Bracket.{Bracket}
use Rattle.cv_spec_text.specs.declared.token.Token.{Token}
use Rattle.cv_spec_text.specs.declared.token.Token.TheVariants as token
use Rattle.cv_component.specs.Nesting.{nesting_after, completed}
use Rattle.cv_component.specs.TopLevel.{begins, trim_front, trim_end}
use Rattle.cv_component.specs.declared.separator.Separator.{Separator}
use Rattle.cv_component.specs.declared.separator.Separator.TheVariants.{White, Comma, Solidus}

abbrev pub is_white : Token → Bool
is_white token.White = true
is_white _ = false

abbrev pub is_comma : Token → Bool
is_comma token.Comma = true
is_comma _ = false

abbrev pub is_solidus : Token → Bool
is_solidus (token.Delim c) = c == solidus
is_solidus _ = false

abbrev pub separates : Separator → Token → Bool
separates White = is_white
separates Comma = is_comma
separates Solidus = is_solidus

-- the first part begins with one token more
abbrev pub longer : Token → List (List Token) → List (List Token)
longer t [] = []
longer t (p ∷ ps) = (t ∷ p) ∷ ps

-- the parts of a list where these brackets are open
abbrev pub parts_within : (Token → Bool) → List Bracket → List Token → List (List Token)
parts_within ends nesting [] = [] ∷ []
parts_within ends [] (t ∷ ts) = if ends t then [] ∷ parts_within ends [] ts else longer t (parts_within ends (nesting_after [] t) ts)
parts_within ends (inner ∷ outer) (t ∷ ts) = longer t (parts_within ends (nesting_after (inner ∷ outer) t) ts)

unfoldable pub parts : (Token → Bool) → List Token → List (List Token)
parts ends ts = parts_within ends [] ts

abbrev pub with_filled : List Token → List (List Token) → List (List Token)
with_filled [] ps = ps
with_filled (t ∷ ts) ps = (t ∷ ts) ∷ ps

-- the parts that aren't empty
abbrev pub filled : List (List Token) → List (List Token)
filled [] = []
filled (p ∷ ps) = with_filled p (filled ps)

abbrev pub trim : List Token → List Token
trim ts = trim_end (trim_front ts)

-- whitespace stands at an end; where brackets are open at the end of the list, which closes them, it stands inside them
abbrev pub has_white_end : List Token → Bool
has_white_end ts = begins is_white ts || begins is_white (reverse (completed ts))
