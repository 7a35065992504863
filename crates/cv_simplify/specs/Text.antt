-- The text of a calculation (CSS Values and Units 4, "Serialization"; CSSOM, "Serializing CSS Values"), as tokens. A fraction that has
-- no decimal is written as a quotient, which is this project's own.
use Rattle.std.specs.Prelude.{ℕ, zero, suc, ◌==◌, Bool, true, false, pos, int_lt, List, [], ◌∷◌, ◌++◌, fold, Option, Some, None, codes, decimal, if◌then◌else◌}
use Rattle.std.specs.Fmt.{signed_decimal}
use Rattle.cv_spec_text.specs.declared.token.Token.{Token}
use Rattle.cv_spec_text.specs.declared.token.Token.TheVariants as tokens
use Rattle.cv_spec_text.specs.declared.token.Bracket.TheVariants.{Round}
use Rattle.cv_spec_ratio.specs.Ratio.{Ratio, neg}
use Rattle.cv_frac.specs.Places.{decimal_places}
use Rattle.cv_frac.specs.Text.{frac_text}
use Rattle.cv_calc.specs.declared.unit.Unit as units
use Rattle.cv_calc.specs.declared.unit.Unit.TheVariants.{Number, Percent, Px, Cm, Mm, Q, Inch, Pt, Pc, Em, Rem, Ex, Ch, Ic, Vw, Vh, Vmin, Vmax, Deg, Grad, Turn, S, Ms, Hz, Khz, Dppx, X, Dpi, Dpcm, Fr}
use Rattle.cv_calc.specs.declared.calc.Calc.{Calc}
use Rattle.cv_calc.specs.declared.calc.Calc.TheOpen.{Calc-F, Num, Sum, Product, Negate, Invert, Min, Max, Clamp}
use Rattle.cv_calc.specs.declared.calc.Calc.TheViews.{out-Calc}
use Rattle.cv_calc.specs.declared.calc.Calc.TheFolds.{fold-Calc}
use Rattle.cv_calc.specs.Names.{unit_text}
use Rattle.cv_simplify.specs.declared.place.Place.{Place}
use Rattle.cv_simplify.specs.declared.place.Place.TheVariants.{Operand, Whole, Added, Multiplied, Argument}

-- ---- punctuation

abbrev pub opening : List Token
opening = tokens.Open Round ∷ []

abbrev pub closing : List Token
closing = tokens.Close Round ∷ []

abbrev pub operator : ℕ → List Token
operator c = tokens.White ∷ tokens.Delim c ∷ tokens.White ∷ []

abbrev pub call : List ℕ → List Token → List Token
call name inner = tokens.Function name ∷ inner ++ closing

-- ---- numbers

abbrev pub numeric : List ℕ → units.Unit → Token
numeric spelling Number = tokens.Number spelling
numeric spelling Percent = tokens.Percentage spelling
numeric spelling u = tokens.Dimension spelling (unit_text u)

abbrev pub has_decimal_as : Option ℕ → Bool
has_decimal_as None = false
has_decimal_as (Some n) = true

abbrev pub has_decimal : Ratio → Bool
has_decimal v = has_decimal_as (decimal_places v)

abbrev pub decimal_tokens : Ratio → units.Unit → List Token
decimal_tokens v u = numeric (frac_text v) u ∷ []

abbrev pub quotient_tokens : Ratio → units.Unit → List Token
quotient_tokens v u = numeric (signed_decimal v.top) u ∷ operator 0x2f ++ tokens.Number (decimal v.bottom) ∷ []

-- a number, in brackets where it is a quotient within a sum or product
abbrev pub bracketed : Bool → List Token → List Token
bracketed true inner = opening ++ inner ++ closing
bracketed false inner = inner

abbrev pub number_tokens : Bool → Ratio → units.Unit → List Token
number_tokens brackets v u = if has_decimal v then decimal_tokens v u else bracketed brackets (quotient_tokens v u)

-- a number alone
abbrev pub number_alone : Ratio → units.Unit → List Token
number_alone v u = if has_decimal v then decimal_tokens v u else call (codes "calc") (quotient_tokens v u)

-- ---- the order of children: numbers, percentages, then numbers by the name of their unit, then the rest

abbrev pub unit_rank : units.Unit → ℕ
unit_rank Number = 0
unit_rank Percent = 1
unit_rank Q = 2
unit_rank Ch = 3
unit_rank Cm = 4
unit_rank Deg = 5
unit_rank Dpcm = 6
unit_rank Dpi = 7
unit_rank Dppx = 8
unit_rank Em = 9
unit_rank Ex = 10
unit_rank Fr = 11
unit_rank Grad = 12
unit_rank Hz = 13
unit_rank Ic = 14
unit_rank Inch = 15
unit_rank Khz = 16
unit_rank Mm = 17
unit_rank Ms = 18
unit_rank Pc = 19
unit_rank Pt = 20
unit_rank Px = 21
unit_rank Rem = 22
unit_rank S = 23
unit_rank Turn = 24
unit_rank Vh = 25
unit_rank Vmax = 26
unit_rank Vmin = 27
unit_rank Vw = 28
unit_rank X = 29

abbrev pub last_rank : ℕ
last_rank = 30

-- the number of ranks
abbrev pub ranks : ℕ
ranks = suc last_rank

-- ---- a calculation at a place

abbrev pub prefix : Place → List Token
prefix Operand = []
prefix Whole = []
prefix Added = operator 0x2b
prefix Multiplied = operator 0x2a
prefix Argument = tokens.Comma ∷ tokens.White ∷ []

-- a sum, a product, a negative or an inverse has brackets of its own within a sum or product
abbrev pub has_brackets : Place → Bool
has_brackets Operand = true
has_brackets Whole = false
has_brackets Added = true
has_brackets Multiplied = true
has_brackets Argument = false

abbrev pub placed : Place → List Token → List Token
placed place inner = prefix place ++ bracketed (has_brackets place) inner

-- a negative number that is added is subtracted
abbrev pub number_added : Ratio → units.Unit → List Token
number_added v u = if int_lt v.top (pos 0) then operator 0x2d ++ number_tokens true (neg v) u else operator 0x2b ++ number_tokens true v u

abbrev pub number_placed : Place → Ratio → units.Unit → List Token
number_placed Added v u = number_added v u
number_placed place v u = prefix place ++ number_tokens (has_brackets place) v u

-- a negative that is added is subtracted, and an inverse by which is multiplied divides
abbrev pub negative_placed : Place → List Token → List Token
negative_placed Added child = operator 0x2d ++ child
negative_placed place child = placed place (tokens.Number (codes "-1") ∷ operator 0x2a ++ child)

abbrev pub inverse_placed : Place → List Token → List Token
inverse_placed Multiplied child = operator 0x2f ++ child
inverse_placed place child = placed place (tokens.Number (codes "1") ∷ operator 0x2f ++ child)

-- ---- children

-- the rank of a calculation among its siblings, and its tokens at each place
pub record Written : Type 0 where
  pub rank : ℕ
  pub at_place : Place → List Token

-- the tokens so far, and whether a child was written
pub record Line : Type 0 where
  pub line : List Token
  pub started : Bool

abbrev pub no_line : Line
no_line = record { line = []; started = false }

-- a further child, of which the first stands at a place of its own
abbrev pub with_child : Place → Place → Line → Written → Line
with_child first further l w = record { line = l.line ++ w.at_place (if l.started then further else first); started = true }

abbrev pub with_rank : Place → ℕ → Line → Written → Line
with_rank further r l w = if w.rank == r then with_child Operand further l w else l

-- the children of a rank, in their order
abbrev pub with_ranked : Place → List Written → Line → ℕ → Line
with_ranked further ws l r = fold (with_rank further r) l ws

-- the children of each rank below some, rank after rank
unfoldable pub ranked : Place → List Written → ℕ → Line
ranked further ws zero = no_line
ranked further ws (suc r) = with_ranked further ws (ranked further ws r) r

abbrev pub line_of : Place → List Written → List Token
line_of further ws = (ranked further ws ranks).line

abbrev pub arguments_of : List Written → List Token
arguments_of ws = (fold (with_child Whole Argument) no_line ws).line

-- ---- a tree

abbrev pub written_step : Calc-F Written → Written
written_step (Num v u) = record { rank = unit_rank u; at_place = λ place. number_placed place v u }
written_step (Sum ws) = record { rank = last_rank; at_place = λ place. placed place (line_of Added ws) }
written_step (Product ws) = record { rank = last_rank; at_place = λ place. placed place (line_of Multiplied ws) }
written_step (Negate w) = record { rank = last_rank; at_place = λ place. negative_placed place (w.at_place Operand) }
written_step (Invert w) = record { rank = last_rank; at_place = λ place. inverse_placed place (w.at_place Operand) }
written_step (Min ws) = record { rank = last_rank; at_place = λ place. prefix place ++ call (codes "min") (arguments_of ws) }
written_step (Max ws) = record { rank = last_rank; at_place = λ place. prefix place ++ call (codes "max") (arguments_of ws) }
written_step (Clamp a b c) = record { rank = last_rank; at_place = λ place. prefix place ++ call (codes "clamp") (arguments_of (a ∷ b ∷ c ∷ [])) }

unfoldable pub written : Calc → Written
written = fold-Calc Written written_step

abbrev pub calc_text_as : Calc → Calc-F Calc → List Token
calc_text_as c (Num v u) = number_alone v u
calc_text_as c (Min cs) = (written c).at_place Whole
calc_text_as c (Max cs) = (written c).at_place Whole
calc_text_as c (Clamp l m h) = (written c).at_place Whole
calc_text_as c _ = call (codes "calc") ((written c).at_place Whole)

-- the text of a calculation
unfoldable pub calc_text : Calc → List Token
calc_text c = calc_text_as c (out-Calc c)
