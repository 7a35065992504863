-- The text of a numeric value (CSS Typed OM 1, "Serializing a CSSMathValue" and "Serializing a CSSUnitValue"), as tokens: units as they
-- are, and children in their order. The tokens of numbers and functions are those of simplified calculations; a fraction that has no decimal
-- is written as a quotient, which is this project's own.
use Rattle.std.specs.Prelude.{ℕ, Bool, true, false, pos, int_lt, List, [], ◌∷◌, ◌++◌, codes, if◌then◌else◌}
use Rattle.cv_spec_text.specs.declared.token.Token.{Token}
use Rattle.cv_spec_text.specs.declared.token.Token.TheVariants as tokens
use Rattle.cv_spec_ratio.specs.Ratio.{Ratio, neg}
use Rattle.cv_calc.specs.declared.unit.Unit.{Unit}
use Rattle.cv_calc.specs.declared.calc.Calc.{Calc}
use Rattle.cv_calc.specs.declared.calc.Calc.TheOpen.{Calc-F, Num, Sum, Product, Negate, Invert, Min, Max, Clamp}
use Rattle.cv_calc.specs.declared.calc.Calc.TheViews.{out-Calc}
use Rattle.cv_calc.specs.declared.calc.Calc.TheFolds.{fold-Calc}
use Rattle.cv_simplify.specs.Text.{opening, closing, operator, call, number_tokens, number_alone}
use Rattle.cv_om.specs.declared.place.Place.{Place}
use Rattle.cv_om.specs.declared.place.Place.TheVariants.{Operand, Whole, Added, Multiplied, Argument}

-- ---- what stands at a place: as the first within a sum or product, alone or as the first argument, or after a sign or a comma

abbrev pub prefix : Place → List Token
prefix Operand = []
prefix Whole = []
prefix Added = operator 0x2b
prefix Multiplied = operator 0x2a
prefix Argument = tokens.Comma ∷ tokens.White ∷ []

-- a sum, a product, a negative or an inverse has brackets of its own within a sum or product
abbrev pub has_brackets : Place → Bool
has_brackets Operand = true
has_brackets Whole = false
has_brackets Added = true
has_brackets Multiplied = true
has_brackets Argument = false

abbrev pub opening_of : Bool → List Token
opening_of true = opening
opening_of false = []

abbrev pub closing_of : Bool → List Token
closing_of true = closing
closing_of false = []

-- what stands before and behind the inner of a sum or product
abbrev pub front : Place → List Token
front place = prefix place ++ opening_of (has_brackets place)

abbrev pub back : Place → List Token
back place = closing_of (has_brackets place)

abbrev pub placed : Place → List Token → List Token
placed place inner = front place ++ inner ++ back place

-- a negative number that is added is subtracted
abbrev pub number_placed : Place → Ratio → Unit → List Token
number_placed Added v u = if int_lt v.top (pos 0) then operator 0x2d ++ number_tokens true (neg v) u else operator 0x2b ++ number_tokens true v u
number_placed place v u = prefix place ++ number_tokens (has_brackets place) v u

-- a negative that is added is subtracted, and an inverse by which is multiplied divides
abbrev pub negative_front : Place → List Token
negative_front Added = operator 0x2d
negative_front place = front place ++ tokens.Number (codes "-1") ∷ operator 0x2a

abbrev pub negative_back : Place → List Token
negative_back Added = []
negative_back place = back place

abbrev pub inverse_front : Place → List Token
inverse_front Multiplied = operator 0x2f
inverse_front place = front place ++ tokens.Number (codes "1") ∷ operator 0x2f

abbrev pub inverse_back : Place → List Token
inverse_back Multiplied = []
inverse_back place = back place

abbrev pub call_front : Place → List ℕ → List Token
call_front place name = prefix place ++ tokens.Function name ∷ []

-- ---- children in their order

-- the tokens of a calculation at each place
abbrev pub Written : Type 0
Written = Place → List Token

-- the first stands at a place of its own
unfoldable pub row_tokens : Place → Place → List Written → List Token
row_tokens first further [] = []
row_tokens first further (w ∷ ws) = w first ++ row_tokens further further ws

abbrev pub line_tokens : Place → List Written → List Token
line_tokens further ws = row_tokens Operand further ws

abbrev pub argument_tokens : List Written → List Token
argument_tokens ws = row_tokens Whole Argument ws

-- ---- a calculation

abbrev pub written_step : Calc-F Written → Written
written_step (Num v u) place = number_placed place v u
written_step (Sum ws) place = placed place (line_tokens Added ws)
written_step (Product ws) place = placed place (line_tokens Multiplied ws)
written_step (Negate w) place = negative_front place ++ w Operand ++ negative_back place
written_step (Invert w) place = inverse_front place ++ w Operand ++ inverse_back place
written_step (Min ws) place = call_front place (codes "min") ++ argument_tokens ws ++ closing
written_step (Max ws) place = call_front place (codes "max") ++ argument_tokens ws ++ closing
written_step (Clamp l m h) place = call_front place (codes "clamp") ++ argument_tokens (l ∷ m ∷ h ∷ []) ++ closing

unfoldable pub written : Calc → Written
written = fold-Calc Written written_step

abbrev pub numeric_text_as : Calc → Calc-F Calc → List Token
numeric_text_as c (Num v u) = number_alone v u
numeric_text_as c (Min cs) = written c Whole
numeric_text_as c (Max cs) = written c Whole
numeric_text_as c (Clamp l m h) = written c Whole
numeric_text_as c y = call (codes "calc") (written c Whole)

-- the text of a numeric value
unfoldable pub numeric_text : Calc → List Token
numeric_text c = numeric_text_as c (out-Calc c)
