-- How a list matches a syntax: by the first component that it matches (Properties and Values API 1, "Syntax Strings", "Calculation of
-- Computed Values"). A list that is nested deeper than 128 matches none, and a match that is out of range ends the search, which are
-- this project's own.
use Rattle.std.specs.Prelude.{nat_lt, List, [], ◌∷◌, map, if◌then◌else◌}
use Rattle.cv_spec_text.specs.declared.token.Token.{Token}
use Rattle.cv_component.specs.Nesting.{depth}
use Rattle.cv_component.specs.Parts.{is_white, is_comma, parts, filled, trim, has_white_end}
use Rattle.cv_calc.specs.declared.context.Context.{Context}
use Rattle.cv_numeric.specs.declared.matched.Matched.{Matched}
use Rattle.cv_numeric.specs.declared.matched.Matched.TheVariants.{No}
use Rattle.cv_numeric.specs.Matched.{mapped, all_of, first_of}
use Rattle.cv_syntax.specs.declared.syntax.Kind.{Kind}
use Rattle.cv_syntax.specs.declared.syntax.Many.{Many}
use Rattle.cv_syntax.specs.declared.syntax.Many.TheVariants.{One, Spaces, Commas}
use Rattle.cv_syntax.specs.declared.syntax.Component.{Component}
use Rattle.cv_syntax.specs.declared.syntax.Syntax.{Syntax}
use Rattle.cv_syntax.specs.declared.syntax.Syntax.TheVariants.{Any, Of}
use Rattle.cv_value.specs.declared.typed.Item.{Item}
use Rattle.cv_value.specs.declared.typed.Typed.{Typed}
use Rattle.cv_value.specs.declared.typed.Typed.TheVariants as typed
use Rattle.cv_value.specs.Items.{item}

-- at least one part, each of which is an item
abbrev pub each : Kind → Context → List (List Token) → Matched (List Item)
each k x [] = No
each k x (p ∷ ps) = all_of (map (item k x) (p ∷ ps))

-- a list of items has no whitespace at its ends, but inside a function that is open at its end
abbrev pub listed : Kind → Context → List Token → List (List Token) → Matched (List Item)
listed k x ts ps = if has_white_end ts then No else each k x ps

abbrev pub as_many : Many → Kind → Context → List Token → Matched Typed
as_many One k x ts = mapped typed.One (item k x ts)
as_many Spaces k x ts = mapped typed.Spaces (listed k x ts (filled (parts is_white ts)))
as_many Commas k x ts = mapped typed.Commas (listed k x ts (map trim (parts is_comma ts)))

abbrev pub component : Context → List Token → Component → Matched Typed
component x ts c = as_many c.many c.kind x ts

abbrev pub components : Context → List Token → List Component → Matched Typed
components x ts cs = first_of (map (component x ts) cs)

abbrev pub of_syntax : Syntax → Context → List Token → Matched Typed
of_syntax Any x ts = No
of_syntax (Of cs) x ts = components x ts cs

-- the value of a list by a syntax that isn't universal
unfoldable pub matching : Syntax → Context → List Token → Matched Typed
matching s x ts = if nat_lt 128 (depth ts) then No else of_syntax s x ts
