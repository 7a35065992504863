-- The grammar of math functions: how a front of a list reads as a tree, and what it leaves.
use Rattle.std.specs.Prelude.{◌≡◌, ℕ, true, List, [], ◌∷◌, ◌++◌, replicate, Some}
use Rattle.cv_spec_ratio.specs.Ratio.{Ratio}
use Rattle.cv_spec_text.specs.Characters.{solidus, plus_sign, hyphen, asterisk}
use Rattle.cv_spec_text.specs.declared.token.Bracket.TheVariants.{Round as RoundBracket}
use Rattle.cv_spec_text.specs.declared.token.Token.{Token}
use Rattle.cv_spec_text.specs.declared.token.Token.TheVariants.{White, Number, Percentage, Dimension, Open, Close, Function, Comma, Delim}
use Rattle.cv_calc.specs.declared.unit.Unit.{Unit}
use Rattle.cv_calc.specs.declared.unit.Unit.TheVariants as unit
use Rattle.cv_calc.specs.declared.calc.Calc.{Calc}
use Rattle.cv_calc.specs.declared.calc.Calc.TheVariants as tree
use Rattle.cv_calc.specs.Names.{unit_with_name}
use Rattle.cv_calcread.specs.Reading.{one_or, made, takes_comma, opened_by}
use Rattle.cv_calcread.specs.declared.level.Opened.{Opened}
use Rattle.cv_calcread.specs.declared.level.Opened.TheVariants as opening

-- the second list is the first without some White at its front
pub data Skips : List Token → List Token → Type 0 where
  none : {ts : List Token} → Skips ts ts
  white : {ts us : List Token} → Skips ts us → Skips (White ∷ ts) us

mutual
  -- a value
  pub data ReadsValue (number : List ℕ → Ratio) : List Token → List Token → Calc → Type 0 where
    literal : (n : List ℕ) {rest : List Token} → ReadsValue number (Number n ∷ rest) rest (tree.Num (number n) unit.Number)
    percent : (n : List ℕ) {rest : List Token} → ReadsValue number (Percentage n ∷ rest) rest (tree.Num (number n) unit.Percent)
    measure : (n name : List ℕ) (u : Unit) {rest : List Token} → unit_with_name name ≡ Some u → ReadsValue number (Dimension n name ∷ rest) rest (tree.Num (number n) u)
    brackets : {ts rest : List Token} {cs : List Calc} {c : Calc} → ReadsArguments number opening.Round ts (Close RoundBracket ∷ rest) cs → made opening.Round cs ≡ Some c → ReadsValue number (Open RoundBracket ∷ ts) rest c
    function : (name : List ℕ) (opened : Opened) {ts rest : List Token} {cs : List Calc} {c : Calc} → opened_by name ≡ Some opened → ReadsArguments number opened ts (Close RoundBracket ∷ rest) cs → made opened cs ≡ Some c → ReadsValue number (Function name ∷ ts) rest c

  -- values with `*` or `/` between them
  pub data ReadsFactors (number : List ℕ → Ratio) : List Token → List Token → List Calc → Type 0 where
    factor : {ts us rest : List Token} {c : Calc} → Skips ts us → ReadsValue number us rest c → ReadsFactors number ts rest (c ∷ [])
    times : {ts us vs ws rest : List Token} {cs : List Calc} {c : Calc} → ReadsFactors number ts us cs → Skips us (Delim asterisk ∷ vs) → Skips vs ws → ReadsValue number ws rest c → ReadsFactors number ts rest (cs ++ c ∷ [])
    over : {ts us vs ws rest : List Token} {cs : List Calc} {c : Calc} → ReadsFactors number ts us cs → Skips us (Delim solidus ∷ vs) → Skips vs ws → ReadsValue number ws rest c → ReadsFactors number ts rest (cs ++ tree.Invert c ∷ [])

  -- products with `+` or `-` between them, and White on both sides of the sign
  pub data ReadsTerms (number : List ℕ → Ratio) : List Token → List Token → List Calc → Type 0 where
    term : {ts rest : List Token} {cs : List Calc} → ReadsFactors number ts rest cs → ReadsTerms number ts rest (one_or tree.Product cs ∷ [])
    added : {ts us vs rest : List Token} {ds cs : List Calc} → ReadsTerms number ts us ds → Skips us (White ∷ Delim plus_sign ∷ White ∷ vs) → ReadsFactors number vs rest cs → ReadsTerms number ts rest (ds ++ one_or tree.Product cs ∷ [])
    taken : {ts us vs rest : List Token} {ds cs : List Calc} → ReadsTerms number ts us ds → Skips us (White ∷ Delim hyphen ∷ White ∷ vs) → ReadsFactors number vs rest cs → ReadsTerms number ts rest (ds ++ tree.Negate (one_or tree.Product cs) ∷ [])

  -- sums with commas between them
  pub data ReadsArguments (number : List ℕ → Ratio) : Opened → List Token → List Token → List Calc → Type 0 where
    argument : {opened : Opened} {ts us rest : List Token} {cs : List Calc} → ReadsTerms number ts us cs → Skips us rest → ReadsArguments number opened ts rest (one_or tree.Sum cs ∷ [])
    further : {opened : Opened} {ts us vs rest : List Token} {ds cs : List Calc} → takes_comma opened ≡ true → ReadsArguments number opened ts (Comma ∷ us) ds → ReadsTerms number us vs cs → Skips vs rest → ReadsArguments number opened ts rest (ds ++ one_or tree.Sum cs ∷ [])

-- the list is a function and what stands in its brackets
pub data BeginsFunction : List Token → Type 0 where
  begins : (name : List ℕ) (ts : List Token) → BeginsFunction (Function name ∷ ts)

-- the list, with the brackets that are open at its end closed, is one math function, and reads as the tree
abbrev pub ReadsAs : (List ℕ → Ratio) → List Token → Calc → Type 0
ReadsAs number tokens c = BeginsFunction tokens × ((missing : ℕ) × ReadsValue number (tokens ++ replicate missing (Close RoundBracket)) [] c)
