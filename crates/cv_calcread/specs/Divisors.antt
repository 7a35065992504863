-- The divisors with which a list is read, in the words of the grammar: each stands behind a `/`, and begins at its first token after
-- whitespace (CSS Values and Units 4, "Mathematical Expressions").
use Rattle.std.specs.Prelude.{◌≡◌, ℕ, ◌-◌, List, [], ◌∷◌, ◌++◌, length, map, replicate}
use Rattle.cv_spec_ratio.specs.Ratio.{Ratio}
use Rattle.cv_spec_text.specs.declared.token.Bracket.TheVariants.{Round}
use Rattle.cv_spec_text.specs.declared.token.Token.{Token}
use Rattle.cv_spec_text.specs.declared.token.Token.TheVariants.{Close}
use Rattle.cv_calc.specs.declared.calc.Calc.{Calc}
use Rattle.cv_calc.specs.Numbers.{figure}
use Rattle.cv_calcread.specs.Answer.{divisor_places}
use Rattle.cv_calcread.specs.Figures.{evaluated, mark_of}
use Rattle.cv_calcread.specs.Grammar.{ReadsValue, literal, percent, measure, brackets, function, ReadsFactors, factor, times, over, ReadsTerms, term, added, taken, ReadsArguments, argument, further}
use Rattle.cv_calcread.specs.declared.level.Opened.{Opened}

-- a divisor, which is read from these tokens on
pub record Divisor (number : List ℕ → Ratio) : Type 0 where
  pub tokens : List Token
  pub rest : List Token
  pub value : Calc
  pub reads : ReadsValue number tokens rest value

module _ (number : List ℕ → Ratio) where
  -- the divisors of what is read, in the order in which they begin
  unfoldable mutual
    pub value_divisors : {ts rest : List Token} {c : Calc} → ReadsValue number ts rest c → List (Divisor number)
    value_divisors (literal n) = []
    value_divisors (percent n) = []
    value_divisors (measure n name u e) = []
    value_divisors (brackets r e) = argument_divisors r
    value_divisors (function name opened o r e) = argument_divisors r

    pub factor_divisors : {ts rest : List Token} {cs : List Calc} → ReadsFactors number ts rest cs → List (Divisor number)
    factor_divisors (factor k v) = value_divisors v
    factor_divisors (times r k j v) = factor_divisors r ++ value_divisors v
    factor_divisors (over {ws = ws} {rest = rest} {c = c} r k j v) = factor_divisors r ++ (record { tokens = ws; rest = rest; value = c; reads = v } ∷ value_divisors v)

    pub term_divisors : {ts rest : List Token} {cs : List Calc} → ReadsTerms number ts rest cs → List (Divisor number)
    term_divisors (term r) = factor_divisors r
    term_divisors (added r k f) = term_divisors r ++ factor_divisors f
    term_divisors (taken r k f) = term_divisors r ++ factor_divisors f

    pub argument_divisors : {opened : Opened} {ts rest : List Token} {cs : List Calc} → ReadsArguments number opened ts rest cs → List (Divisor number)
    argument_divisors (argument r k) = term_divisors r
    argument_divisors (further b r f k) = argument_divisors r ++ term_divisors f

-- the list with the brackets that are open at its end closed
abbrev pub closed : List Token → ℕ → List Token
closed ts missing = ts ++ replicate missing (Close Round)

-- the places of the divisors are where the grammar begins to read them, and what the reader finds of each is what its figure tells
pub record DivisorsHavePlaces : Type 0 where
  pub places : (number : List ℕ → Ratio) (ts : List Token) (missing : ℕ) (c : Calc) (r : ReadsValue number (closed ts missing) [] c) →
      divisor_places 0 ts ≡ map (λ (d : Divisor number). length (closed ts missing) - length d.tokens) (value_divisors number r)
  pub marks : (number : List ℕ → Ratio) (ts rest : List Token) (c : Calc) (r : ReadsValue number ts rest c) →
      (evaluated c).marks ≡ map (λ (d : Divisor number). mark_of (figure d.value)) (value_divisors number r)
