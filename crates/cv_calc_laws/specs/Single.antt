-- Calculations that simplify to one number: those that are linear and have the type of a unit, as far as they have a value (CSS Values
-- and Units 4, "Simplification"; which calculations are linear is this project's own).
use Rattle.std.specs.Prelude.{◌≡◌, Bool, true, false, ◌&&◌, ◌||◌, List, Option, Some, Ok}
use Rattle.cv_spec_ratio.specs.Ratio.{Ratio}
use Rattle.cv_spec_text.specs.declared.token.Token.{Token}
use Rattle.cv_calc.specs.declared.unit.Base.{Base}
use Rattle.cv_calc.specs.declared.unit.Base.TheVariants.{Length}
use Rattle.cv_calc.specs.declared.unit.NumType.{NumType}
use Rattle.cv_calc.specs.declared.unit.Unit as units
use Rattle.cv_calc.specs.declared.unit.Unit.TheVariants.{Percent, Px}
use Rattle.cv_calc.specs.declared.context.Basis.TheVariants.{Plain, Of}
use Rattle.cv_calc.specs.declared.context.Context.{Context}
use Rattle.cv_calc.specs.declared.calc.Calc.{Calc}
use Rattle.cv_calc.specs.declared.calc.Calc.TheVariants.{Num}
use Rattle.cv_calc.specs.Factor.{canonical}
use Rattle.cv_calc.specs.Linear.{is_linear, no_hint}
use Rattle.cv_calc.specs.Types.{type_of, unit_type, same_powers}
use Rattle.cv_calc.specs.Value.{Meaning, value}
use Rattle.cv_calcread.specs.Answer.{answer}
use Rattle.cv_simplify.specs.Agrees.{Agrees}
use Rattle.cv_simplify.specs.Simplified.{simp}

-- it is linear and has the type of the unit, and where that is a percentage, percentages stand for themselves
pub record IsOfUnit (x : Context) (u : units.Unit) (c : Calc) : Type 0 where
  pub linear : is_linear c ≡ true
  pub kind : type_of c ≡ Some (unit_type u)
  pub plain : u ≡ Percent → x.basis ≡ Plain

-- it simplifies to its value in the canonical unit
abbrev pub SimplifiesToValue : Type 0
SimplifiesToValue =
    (x : Context) (u : units.Unit) (c : Calc) → IsOfUnit x u c → (m : Meaning) → Agrees m x → (r : Ratio) → value m c ≡ Some r → simp x c ≡ Num r (canonical u)

-- a type with the powers of a unit and without a hint is the unit's
abbrev pub TypesAreTold : Type 0
TypesAreTold = (t : NumType) (u : units.Unit) → same_powers t (unit_type u) ≡ true → no_hint t.hint ≡ true → t ≡ unit_type u

-- a linear calculation that the reader answers has a value in each meaning
abbrev pub AnswersHaveValues : Type 0
AnswersHaveValues = (tokens : List Token) (c : Calc) → answer tokens ≡ Ok c → is_linear c ≡ true → (m : Meaning) → (r : Ratio) × (value m c ≡ Some r)

-- so it simplifies to one number in the canonical unit
abbrev pub AnswersAreNumbers : Type 0
AnswersAreNumbers = (x : Context) (u : units.Unit) (tokens : List Token) (c : Calc) → answer tokens ≡ Ok c → IsOfUnit x u c → (r : Ratio) × (simp x c ≡ Num r (canonical u))

-- ---- percentages that are parts of a length

abbrev pub hints_length : Option Base → Bool
hints_length (Some Length) = true
hints_length _ = false

-- the type is that of a length, of a percentage, or of both together
abbrev pub is_length_percentage : NumType → Bool
is_length_percentage t =
    same_powers t (unit_type Px) && no_hint t.hint || same_powers t (unit_type Percent) && no_hint t.hint || same_powers t (unit_type Px) && hints_length t.hint

-- it is linear and a length, a percentage or both together, and percentages are parts of a known length
pub record IsOfLength (x : Context) (c : Calc) : Type 0 where
  pub linear : is_linear c ≡ true
  pub kind : NumType
  pub typed : type_of c ≡ Some kind
  pub taken : is_length_percentage kind ≡ true
  pub whole : Ratio
  pub part : x.basis ≡ Of whole

-- such a calculation simplifies to its value in px
abbrev pub LengthsSimplifyToValue : Type 0
LengthsSimplifyToValue = (x : Context) (c : Calc) → IsOfLength x c → (m : Meaning) → Agrees m x → (r : Ratio) → value m c ≡ Some r → simp x c ≡ Num r Px

abbrev pub AnswersAreLengths : Type 0
AnswersAreLengths = (x : Context) (tokens : List Token) (c : Calc) → answer tokens ≡ Ok c → IsOfLength x c → (r : Ratio) × (simp x c ≡ Num r Px)
