-- The text of a calculation at a place as what is written before its parts, and what is written behind them.
use Rattle.std.specs.Prelude.{Bool, true, false, List, [], ◌∷◌, ◌++◌, codes}
use Rattle.cv_spec_text.specs.declared.token.Token.{Token}
use Rattle.cv_spec_text.specs.declared.token.Token.TheVariants as tokens
use Rattle.cv_simplify.specs.declared.place.Place.{Place}
use Rattle.cv_simplify.specs.declared.place.Place.TheVariants.{Added, Multiplied}
use Rattle.cv_simplify.specs.Text.{Line, opening, closing, operator, prefix, has_brackets}

abbrev pub opening_if : Bool → List Token
opening_if true = opening
opening_if false = []

abbrev pub closing_if : Bool → List Token
closing_if true = closing
closing_if false = []

abbrev pub start_of : Place → List Token
start_of place = prefix place ++ opening_if (has_brackets place)

abbrev pub end_of : Place → List Token
end_of place = closing_if (has_brackets place)

abbrev pub negative_start : Place → List Token
negative_start Added = operator 0x2d
negative_start place = start_of place ++ tokens.Number (codes "-1") ∷ operator 0x2a

abbrev pub negative_end : Place → List Token
negative_end Added = []
negative_end place = end_of place

abbrev pub inverse_start : Place → List Token
inverse_start Multiplied = operator 0x2f
inverse_start place = start_of place ++ tokens.Number (codes "1") ∷ operator 0x2f

abbrev pub inverse_end : Place → List Token
inverse_end Multiplied = []
inverse_end place = end_of place

-- a line behind other tokens
abbrev pub behind : List Token → Line → Line
behind before l = record { line = before ++ l.line; started = l.started }
