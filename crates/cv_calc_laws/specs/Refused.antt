-- Which divisor it is that a calculation is refused for: the first of its kind among those that the grammar reads, at the place where
-- it begins (CSS Values and Units 4, "Mathematical Expressions"; the bounds are this project's own).
use Rattle.std.specs.Prelude.{◌≡◌, ℕ, ◌-◌, Bool, true, List, [], ◌∷◌, ◌++◌, length, Err, None, All}
use Rattle.cv_spec_ratio.specs.Ratio.{Ratio}
use Rattle.cv_spec_text.specs.declared.token.Token.{Token}
use Rattle.cv_exact.specs.Zero.{is_zero}
use Rattle.cv_calc.specs.declared.unit.NumType.{NumType}
use Rattle.cv_calc.specs.declared.calc.Calc.{Calc}
use Rattle.cv_calc.specs.Numbers.{Figure, figure, inside, outside}
use Rattle.cv_calcread.specs.Answer.{answer, wide_place}
use Rattle.cv_calcread.specs.Divisors.{Divisor, value_divisors, closed}
use Rattle.cv_calcread.specs.Grammar.{ReadsValue}
use Rattle.cv_calcread.specs.Literals.{exact_number}
use Rattle.cv_calcread.specs.declared.error.CalcErr.TheVariants.{Range, DivZero}

-- it is made of numbers alone and is 0, with each fraction in bounds
abbrev pub IsNull : Figure → Type 0
IsNull g = (r : Ratio) × (g ≡ inside r) × (is_zero r ≡ true)

-- it is made of numbers alone and has a value, and a fraction in it is out of bounds
abbrev pub IsOutside : Figure → Type 0
IsOutside g = (r : Ratio) × (g ≡ outside r)

-- the list is read with a divisor of the kind at the place, and with none of the kind before
pub record RefusedFor (Kind : Figure → Type 0) (ts : List Token) (place : ℕ) : Type 0 where
  pub value : Calc
  pub missing : ℕ
  pub reads : ReadsValue exact_number (closed ts missing) [] value
  pub before : List (Divisor exact_number)
  pub divisor : Divisor exact_number
  pub after : List (Divisor exact_number)
  pub among : value_divisors exact_number reads ≡ before ++ divisor ∷ after
  pub stands : place ≡ length (closed ts missing) - length divisor.tokens
  pub is : Kind (figure divisor.value)
  pub first : All (λ d. Kind (figure d.value) → ⊥) before

pub record RefusalsAreDivisors : Type 0 where
  pub zero : (ts : List Token) (place : ℕ) → answer ts ≡ Err (DivZero place) → RefusedFor IsNull ts place
  pub range : (ts : List Token) (place : ℕ) (t : NumType) (linear : Bool) → wide_place 0 ts ≡ None → answer ts ≡ Err (Range place t linear) → RefusedFor IsOutside ts place
