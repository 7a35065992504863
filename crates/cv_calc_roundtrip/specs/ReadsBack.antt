-- The text of a calculation reads back as an equal calculation (CSSOM, "Serializing CSS Values", whose texts have to parse to equal
-- values; the texts are those of CSS Values and Units 4, "Serialization").
use Rattle.std.specs.Prelude.{◌≡◌, true, ℕ, List, [], ◌∷◌, Ok, Some}
use Rattle.cv_spec_text.specs.declared.token.Token.{Token}
use Rattle.cv_spec_ratio.specs.Ratio.{Ratio}
use Rattle.cv_frac.specs.Bounded.{in_bounds}
use Rattle.cv_calc.specs.declared.unit.Unit as units
use Rattle.cv_calc.specs.declared.unit.Unit.TheVariants.{Percent}
use Rattle.cv_calc.specs.declared.unit.NumType.{NumType}
use Rattle.cv_calc.specs.declared.context.Basis.{Basis}
use Rattle.cv_calc.specs.declared.context.Basis.TheVariants.{Length, Of}
use Rattle.cv_calc.specs.declared.context.Context.{Context}
use Rattle.cv_calc.specs.declared.calc.Calc.{Calc}
use Rattle.cv_calc.specs.declared.calc.Calc.TheVariants.{Num}
use Rattle.cv_calc.specs.Types.{unit_type, type_of}
use Rattle.cv_calc.specs.Linear.{is_linear}
use Rattle.cv_calc.specs.Value.{Meaning, value}
use Rattle.cv_calcread.specs.Answer.{answer}
use Rattle.cv_calcread.specs.Literals as literals
use Rattle.cv_simplify.specs.Canonical.{is_canonical}
use Rattle.cv_simplify.specs.Counted.{is_in_range}
use Rattle.cv_simplify.specs.Simplified.{simp}
use Rattle.cv_simplify.specs.Text.{numeric, number_alone, calc_text}
use Rattle.cv_calc_laws.specs.Single.{is_length_percentage}

-- the token means the number, and is in range
pub record IsNumeral (v : Ratio) (u : units.Unit) (ts : List Token) : Type 0 where
  pub spelling : List ℕ
  pub one : ts ≡ numeric spelling u ∷ []
  pub exact : literals.exact_number spelling ≡ v
  pub in_range : literals.is_in_range spelling ≡ true

-- ---- numbers

-- a percentage is itself but under a length of which it is a part
abbrev pub Keeps : units.Unit → Basis → Type 0
Keeps Percent (Of f) = ⊥
Keeps u b = Unit {0}

-- the list reads as a linear calculation of the unit's type, which is in range and simplifies to the number
pub record ReadsAsNumber (v : Ratio) (u : units.Unit) (ts : List Token) : Type 0 where
  pub tree : Calc
  pub read : answer ts ≡ Ok tree
  pub linear : is_linear tree ≡ true
  pub typed : type_of tree ≡ Some (unit_type u)
  pub in_range : (y : Context) → Keeps u y.basis → is_in_range y tree ≡ true
  pub simple : (y : Context) → Keeps u y.basis → simp y tree ≡ Num v u

-- the text of a number alone is one token that means it, or a calculation that simplifies to it
pub data NumberReadsBack (v : Ratio) (u : units.Unit) (ts : List Token) : Type 0 where
  numeral : IsNumeral v u ts → NumberReadsBack v u ts
  quotient : ReadsAsNumber v u ts → NumberReadsBack v u ts

pub record NumbersReadBack : Type 0 where
  pub reads : (v : Ratio) (u : units.Unit) → in_bounds v ≡ true → is_canonical u ≡ true → NumberReadsBack v u (number_alone v u)

-- ---- calculations of lengths and percentages

-- the list reads as a linear calculation of the type of a length-percentage (CSS Values and Units 4, "Mixing Percentages and Dimensions"),
-- which is in range and simplifies to one of the same type and value, whatever a percentage is a part of, and to no other number
pub record ReadsAsEqual (s : Calc) (ts : List Token) : Type 0 where
  pub tree : Calc
  pub kind : NumType
  pub read : answer ts ≡ Ok tree
  pub linear : is_linear tree ≡ true
  pub taken : is_length_percentage kind ≡ true
  pub typed : type_of tree ≡ Some kind
  pub given_typed : type_of s ≡ Some kind
  pub in_range : (y : Context) → y.basis ≡ Length → is_in_range y tree ≡ true
  pub simple_typed : (y : Context) → y.basis ≡ Length → type_of (simp y tree) ≡ Some kind
  pub simple_value : (y : Context) → y.basis ≡ Length → (m : Meaning) → value m (simp y tree) ≡ value m s
  pub simple_number : (y : Context) → y.basis ≡ Length → (v : Ratio) (u : units.Unit) → simp y tree ≡ Num v u → s ≡ Num v u

-- the text of a calculation is one token that means the number that it is, or a calculation that equals it
pub data ReadsBack (s : Calc) (ts : List Token) : Type 0 where
  number : (v : Ratio) (u : units.Unit) → s ≡ Num v u → IsNumeral v u ts → ReadsBack s ts
  calculation : ReadsAsEqual s ts → ReadsBack s ts

-- what the reader answers is a linear length-percentage that is in range, where a percentage is a part of a length that isn't known
pub record IsRead (x : Context) (ts : List Token) (c : Calc) : Type 0 where
  pub read : answer ts ≡ Ok c
  pub linear : is_linear c ≡ true
  pub kind : NumType
  pub typed : type_of c ≡ Some kind
  pub taken : is_length_percentage kind ≡ true
  pub basis : x.basis ≡ Length
  pub in_range : is_in_range x c ≡ true

pub record CalculationsReadBack : Type 0 where
  pub reads : (x : Context) (ts : List Token) (c : Calc) → IsRead x ts c → ReadsBack (simp x c) (calc_text (simp x c))
