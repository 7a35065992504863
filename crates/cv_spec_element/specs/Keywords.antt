-- The CSS-wide keywords, and the value that each of them gives a property.
use Rattle.std.specs.Prelude.{Bool, true, false, Option, Some, None}

-- (Values and Units 4, "CSS-wide keywords")
pub data Keyword : Type 0 where
  initial : Keyword
  inherit : Keyword
  unset : Keyword
  revert : Keyword
  revert_layer : Keyword

-- the parent's value; on the root, where there is none, the initial one (Cascade 4, "Inheritance")
abbrev pub inherited : {O : Type 0} → O → Option O → O
inherited first None = first
inherited first (Some value) = value

-- the value of a property that has no value of its own: it inherits or not (Cascade 4, "Defaulting")
abbrev pub defaulted : {O : Type 0} → O → Option O → Bool → O
defaulted first parent true = inherited first parent
defaulted first parent false = first

-- what the keyword gives, where `first` is the initial value, `parent` the parent's and `inherits` tells whether
-- the property inherits (Cascade 4, "Explicit Defaulting"; that `revert` and `revert-layer` act as `unset` is
-- this project's own, since it knows of one origin and one layer)
abbrev pub by_keyword : {O : Type 0} → O → Option O → Bool → Keyword → O
by_keyword first parent inherits initial = first
by_keyword first parent inherits inherit = inherited first parent
by_keyword first parent inherits unset = defaulted first parent inherits
by_keyword first parent inherits revert = defaulted first parent inherits
by_keyword first parent inherits revert_layer = defaulted first parent inherits
