-- What the equations see of a token.
use Rattle.std.specs.Prelude.{◌≡◌, Bool, List, [], ◌∷◌, Option, Some, None, if◌then◌else◌, reverse, ◌⊎◌}
use Rattle.cv_spec_element.specs.Keywords.{Keyword}

-- `T` are the tokens, `U` the units
pub record Words (T U : Type 0) : Type 0 where
  -- a whitespace token
  pub is_white : T → Bool
  -- the CSS-wide keyword that an ident is, without ASCII case
  pub keyword : T → Option Keyword
  -- the unit of a dimension
  pub unit : T → Option U
  -- the unit is relative to the element's own font size: `em`, `ex`, `ch`, `ic` and, on the root, `rem`
  pub is_font_unit : U → Bool

module _ {T U : Type 0} (words : Words T U) where
  -- the list without whitespace at its front, and without whitespace at its ends
  abbrev pub trim_front : List T → List T
  trim_front [] = []
  trim_front (t ∷ rest) = if words.is_white t then trim_front rest else t ∷ rest

  abbrev pub trim : List T → List T
  trim list = reverse (trim_front (reverse (trim_front list)))

  -- the CSS-wide keyword that a list of one token is
  abbrev pub lone_keyword : List T → Option Keyword
  lone_keyword [] = None
  lone_keyword (t ∷ []) = words.keyword t
  lone_keyword (t ∷ second ∷ rest) = None

  -- the CSS-wide keyword that the whole trimmed list is (Values and Units 4, "CSS-wide keywords")
  abbrev pub keyword_of : List T → Option Keyword
  keyword_of list = lone_keyword (trim list)

  -- a token of the list has the unit
  abbrev pub HasUnit : List T → U → Type 0
  HasUnit [] u = ⊥
  HasUnit (t ∷ rest) u = (words.unit t ≡ Some u) ⊎ HasUnit rest u
