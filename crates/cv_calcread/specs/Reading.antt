-- The tree of a math function, token by token. Each step looks at one token.
use Rattle.std.specs.Prelude.{ℕ, zero, suc, Bool, true, false, ◌&&◌, ◌==◌, List, [], ◌∷◌, ◌++◌, length, fold, codes, Option, Some, None, if◌then◌else◌}
use Rattle.cv_spec_ratio.specs.Ratio.{Ratio}
use Rattle.cv_spec_text.specs.Characters.{solidus, plus_sign, hyphen, asterisk}
use Rattle.cv_spec_text.specs.declared.token.Bracket.TheVariants.{Round as RoundBracket}
use Rattle.cv_spec_text.specs.declared.token.Token.{Token}
use Rattle.cv_spec_text.specs.declared.token.Token.TheVariants.{White, Number, Percentage, Dimension, Open, Close, Function, Comma, Delim}
use Rattle.cv_calc.specs.declared.unit.Unit.{Unit}
use Rattle.cv_calc.specs.declared.unit.Unit.TheVariants as unit
use Rattle.cv_calc.specs.declared.calc.Calc.{Calc}
use Rattle.cv_calc.specs.declared.calc.Calc.TheVariants as tree
use Rattle.cv_calc.specs.Names.{unit_with_name}
use Rattle.cv_calcread.specs.Literals.{is_word}
use Rattle.cv_calcread.specs.declared.level.Level.{Level}
use Rattle.cv_calcread.specs.declared.level.Opened.{Opened}
use Rattle.cv_calcread.specs.declared.level.Opened.TheVariants as opening
use Rattle.cv_calcread.specs.declared.level.Phase.TheVariants as phase
use Rattle.cv_calcread.specs.declared.level.Stage.{Stage}
use Rattle.cv_calcread.specs.declared.level.Stage.TheVariants.{Within, Done, Fault}

-- ---- what a level has read

-- one item alone is itself
abbrev pub one_or : (List Calc → Calc) → List Calc → Calc
one_or make [] = make []
one_or make (c ∷ []) = c
one_or make (c ∷ d ∷ cs) = make (c ∷ d ∷ cs)

abbrev pub signed : Bool → Calc → Calc
signed minus c = if minus then tree.Negate c else c

abbrev pub factor_of : Bool → Calc → Calc
factor_of divides c = if divides then tree.Invert c else c

-- the terms, the last one included
abbrev pub terms_of : Level → List Calc
terms_of l = l.terms ++ signed l.minus (one_or tree.Product l.factors) ∷ []

-- the arguments, the last one included
abbrev pub arguments_of : Level → List Calc
arguments_of l = l.arguments ++ one_or tree.Sum (terms_of l) ∷ []

-- what the arguments make, where their number is right
abbrev pub made : Opened → List Calc → Option Calc
made opening.Min cs = Some (tree.Min cs)
made opening.Max cs = Some (tree.Max cs)
made opening.Clamp (a ∷ b ∷ c ∷ []) = Some (tree.Clamp a b c)
made opening.Round (c ∷ []) = Some c
made opening.Calc (c ∷ []) = Some c
made _ _ = None

-- whether a comma may stand in it
abbrev pub takes_comma : Opened → Bool
takes_comma opening.Round = false
takes_comma opening.Calc = false
takes_comma _ = true

abbrev pub opened_by : List ℕ → Option Opened
opened_by name =
    if is_word name (codes "calc") then Some opening.Calc
    else if is_word name (codes "min") then Some opening.Min
    else if is_word name (codes "max") then Some opening.Max
    else if is_word name (codes "clamp") then Some opening.Clamp
    else None

-- ---- levels

abbrev pub fresh : Opened → List Calc → Level
fresh opened arguments = record { opened = opened; arguments = arguments; terms = []; minus = false; factors = []; divides = false }

-- the last level, and those below it
abbrev pub under : Level → Option (List Level × Level) → Option (List Level × Level)
under l None = Some ([], l)
under l (Some rest) = Some (l ∷ rest.0, rest.1)

abbrev pub popped : List Level → Option (List Level × Level)
popped [] = None
popped (l ∷ ls) = under l (popped ls)

abbrev pub with_value : Calc → List Level → Level → Stage
with_value c below l = Within below (record l { factors = l.factors ++ factor_of l.divides c ∷ []; divides = false }) phase.After

-- a value is read: the whole, or one of the level below
abbrev pub given : Calc → Option (List Level × Level) → Stage
given c None = Done c
given c (Some rest) = with_value c rest.0 rest.1

abbrev pub given_or : List Level → Option Calc → Stage
given_or below None = Fault
given_or below (Some c) = given c (popped below)

abbrev pub closed : List Level → Level → Stage
closed below l = given_or below (made l.opened (arguments_of l))

abbrev pub entered : Option Opened → List Level → Level → Stage
entered None below l = Fault
entered (Some opened) below l = Within (below ++ l ∷ []) (fresh opened []) phase.Value

-- ---- steps

abbrev pub with_unit : Ratio → Option Unit → List Level → Level → Stage
with_unit v None below l = Fault
with_unit v (Some u) below l = with_value (tree.Num v u) below l

module _ (number : List ℕ → Ratio) where
  -- where a value is to begin
  abbrev pub begun : Token → List Level → Level → Stage
  begun White below l = Within below l phase.Value
  begun (Number n) below l = with_value (tree.Num (number n) unit.Number) below l
  begun (Percentage n) below l = with_value (tree.Num (number n) unit.Percent) below l
  begun (Dimension n name) below l = with_unit (number n) (unit_with_name name) below l
  begun (Open RoundBracket) below l = entered (Some opening.Round) below l
  begun (Function name) below l = entered (opened_by name) below l
  begun _ below l = Fault

-- after a sign
abbrev pub gapped : Token → List Level → Level → Stage
gapped White below l = Within below l phase.Value
gapped _ below l = Fault

abbrev pub with_sign : Bool → List Level → Level → Stage
with_sign minus below l = Within below (record l { terms = terms_of l; minus = minus; factors = []; divides = false }) phase.Gap

abbrev pub operated : Bool → ℕ → List Level → Level → Stage
operated spaced c below l =
    if c == asterisk then Within below (record l { divides = false }) phase.Value
    else if c == solidus then Within below (record l { divides = true }) phase.Value
    else if spaced && c == plus_sign then with_sign false below l
    else if spaced && c == hyphen then with_sign true below l
    else Fault

abbrev pub parted : List Level → Level → Stage
parted below l = if takes_comma l.opened then Within below (fresh l.opened (arguments_of l)) phase.Value else Fault

-- after a value, and white after it
abbrev pub passed : Bool → Token → List Level → Level → Stage
passed spaced White below l = Within below l phase.Spaced
passed spaced (Delim c) below l = operated spaced c below l
passed spaced Comma below l = parted below l
passed spaced (Close RoundBracket) below l = closed below l
passed spaced _ below l = Fault

module _ (number : List ℕ → Ratio) where
  abbrev pub step : Stage → Token → Stage
  step (Within below l phase.Value) t = begun number t below l
  step (Within below l phase.Gap) t = gapped t below l
  step (Within below l phase.After) t = passed false t below l
  step (Within below l phase.Spaced) t = passed true t below l
  step (Done c) t = Fault
  step Fault t = Fault

-- how many levels lie below the last one, where one is open
abbrev pub depth_of : Stage → Option ℕ
depth_of (Within below l p) = Some (length below)
depth_of (Done c) = None
depth_of Fault = None

-- the stage after as many closing brackets
abbrev pub close_times : (number : List ℕ → Ratio) → ℕ → Stage → Stage
close_times number zero s = s
close_times number (suc n) s = step number (close_times number n s) (Close RoundBracket)

abbrev pub ended_by : (number : List ℕ → Ratio) → Option ℕ → Stage → Stage
ended_by number None s = s
ended_by number (Some depth) s = close_times number depth (step number s (Close RoundBracket))

-- the stage with what is open closed
abbrev pub ended : (number : List ℕ → Ratio) → Stage → Stage
ended number s = ended_by number (depth_of s) s

abbrev pub outcome : Stage → Option Calc
outcome (Done c) = Some c
outcome _ = None

abbrev pub first_stage : Option Opened → Stage
first_stage None = Fault
first_stage (Some opened) = Within [] (fresh opened []) phase.Value

-- ---- the tree of a list

module _ (number : List ℕ → Ratio) where
  abbrev pub started : Token → Stage
  started (Function name) = first_stage (opened_by name)
  started _ = Fault

  abbrev pub read : List Token → Option Calc
  read [] = None
  read (t ∷ ts) = outcome (ended number (fold (step number) (started t) ts))
