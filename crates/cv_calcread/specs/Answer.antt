-- What the reader answers: the tree, or the first refusal. A list is refused for its shape, then for its types, then for a literal
-- that is out of range, then for a divisor that is out of range, then for one that is 0. The order is this project's own; that a
-- divisor which is 0 makes a calculation invalid is of CSS Values and Units 3, "Mathematical Expressions".
use Rattle.std.specs.Prelude.{◌≡◌, ℕ, ◌+◌, Bool, true, false, ◌==◌, not, List, [], ◌∷◌, Result, Ok, Err, Option, Some, None, if◌then◌else◌}
use Rattle.cv_spec_text.specs.Characters.{solidus}
use Rattle.cv_spec_text.specs.declared.token.Token.{Token}
use Rattle.cv_spec_text.specs.declared.token.Token.TheVariants.{Number, Percentage, Dimension, Delim, White}
use Rattle.cv_calc.specs.declared.unit.NumType.{NumType}
use Rattle.cv_calc.specs.declared.calc.Calc.{Calc}
use Rattle.cv_calc.specs.Types.{type_of}
use Rattle.cv_calc.specs.Linear.{is_linear}
use Rattle.cv_calcread.specs.Literals.{kept, exact_number, is_in_range}
use Rattle.cv_calcread.specs.Reading.{read}
use Rattle.cv_calcread.specs.Figures.{evaluated}
use Rattle.cv_calcread.specs.declared.figure.Mark.{Mark}
use Rattle.cv_calcread.specs.declared.figure.Mark.TheVariants.{Fine, Far, Null}
use Rattle.cv_calcread.specs.declared.error.CalcErr.{CalcErr}
use Rattle.cv_calcread.specs.declared.error.CalcErr.TheVariants.{NoCalc, NoType, Range, DivZero, Memory}

-- ---- places

-- the token is a number that is out of range
abbrev pub is_wide : Token → Bool
is_wide (Number n) = not (is_in_range n)
is_wide (Percentage n) = not (is_in_range n)
is_wide (Dimension n name) = not (is_in_range n)
is_wide t = false

-- the place of the first number that is out of range; the first argument is the place of the first token
unfoldable pub wide_place : ℕ → List Token → Option ℕ
wide_place n [] = None
wide_place n (t ∷ ts) = if is_wide t then Some n else wide_place (n + 1) ts

abbrev pub is_white : Token → Bool
is_white White = true
is_white t = false

-- how much White stands at the front
unfoldable pub white_length : List Token → ℕ
white_length [] = 0
white_length (t ∷ ts) = if is_white t then white_length ts + 1 else 0

abbrev pub is_solidus : Token → Bool
is_solidus (Delim c) = c == solidus
is_solidus t = false

-- where what follows each `/` begins: these are the places of the divisors, in the order in which they begin
unfoldable pub divisor_places : ℕ → List Token → List ℕ
divisor_places n [] = []
divisor_places n (t ∷ ts) = if is_solidus t then (n + 1 + white_length ts) ∷ divisor_places (n + 1) ts else divisor_places (n + 1) ts

-- the divisor is of a kind
abbrev pub is_marked : Mark → Mark → Bool
is_marked Far Far = true
is_marked Far Fine = false
is_marked Far Null = false
is_marked Null Null = true
is_marked Null Fine = false
is_marked Null Far = false
is_marked Fine m = false

-- the place of the first divisor that passes
unfoldable pub divisor_place : (Mark → Bool) → List Mark → List ℕ → Option ℕ
divisor_place passes [] places = None
divisor_place passes (m ∷ ms) [] = None
divisor_place passes (m ∷ ms) (n ∷ places) = if passes m then Some n else divisor_place passes ms places

-- ---- the answer

abbrev pub after_range : Calc → Option ℕ → Result Calc CalcErr
after_range c None = Ok c
after_range c (Some n) = Err (DivZero n)

abbrev pub after_literals : List ℕ → List Mark → Calc → NumType → Option ℕ → Result Calc CalcErr
after_literals places marks c t (Some n) = Err (Range n t (is_linear c))
after_literals places marks c t None = after_range c (divisor_place (is_marked Null) marks places)

abbrev pub divided : List Token → Calc → NumType → Result Calc CalcErr
divided ts c t = after_literals (divisor_places 0 ts) (evaluated c).marks c t (divisor_place (is_marked Far) (evaluated c).marks (divisor_places 0 ts))

abbrev pub after_type : List Token → Calc → NumType → Option ℕ → Result Calc CalcErr
after_type ts c t (Some n) = Err (Range n t (is_linear c))
after_type ts c t None = divided ts c t

abbrev pub ranged : List Token → Calc → NumType → Result Calc CalcErr
ranged ts c t = after_type ts c t (wide_place 0 ts)

abbrev pub typed : List Token → Calc → Option NumType → Result Calc CalcErr
typed ts c None = Err NoType
typed ts c (Some t) = ranged ts c t

abbrev pub after_tree : List Token → Option Calc → Result Calc CalcErr
after_tree ts None = Err NoCalc
after_tree ts (Some c) = typed ts c (type_of c)

unfoldable pub answer : List Token → Result Calc CalcErr
answer ts = after_tree ts (read exact_number ts)

-- what the code finds: while it isn't known whether all numbers are in range, those that aren't are kept as 0
abbrev pub found : List Token → Result Calc CalcErr
found ts = after_tree ts (read kept ts)

-- a refusal is that of the answer, but for want of memory
abbrev pub IsRefusal : Result Calc CalcErr → CalcErr → Type 0
IsRefusal a Memory = Unit {0}
IsRefusal a NoCalc = a ≡ Err NoCalc
IsRefusal a NoType = a ≡ Err NoType
IsRefusal a (Range n t b) = a ≡ Err (Range n t b)
IsRefusal a (DivZero n) = a ≡ Err (DivZero n)
