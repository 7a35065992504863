-- Matches that are none together.
use Rattle.std.proofs.Common.{ℕ, Bool, true, false, List, [], ◌∷◌, Option, Some, None}
use Rattle.std.specs.Prelude.{◌&&◌, Result, Ok, Err, if◌then◌else◌}
use Rattle.cv_frac.specs.Rounded.{half_up}
use Rattle.cv_spec_text.specs.declared.token.Token.{Token}
use Rattle.cv_spec_text.specs.declared.token.Token.TheVariants.{Number, Percentage, Dimension}
use Rattle.cv_calc.specs.declared.unit.Unit.{Unit}
use Rattle.cv_calc.specs.declared.unit.Unit.TheVariants.{Px, Number as NumberUnit, Percent}
use Rattle.cv_calc.specs.declared.context.Context.{Context}
use Rattle.cv_calc.specs.declared.context.Basis.TheVariants as basis
use Rattle.cv_calc.specs.declared.calc.Calc.{Calc}
use Rattle.cv_calc.specs.declared.calc.Calc.TheVariants as tree
use Rattle.cv_calc.specs.Names.{unit_with_name}
use Rattle.cv_calc.specs.Types.{unit_type}
use Rattle.cv_calcread.specs.declared.error.CalcErr.{CalcErr}
use Rattle.cv_calcread.specs.declared.error.CalcErr.TheVariants.{NoCalc, NoType, Range as WideRange, DivZero, Memory}
use Rattle.cv_calcread.specs.Literals.{exact_number, is_in_range}
use Rattle.cv_calcread.specs.Answer.{answer}
use Rattle.cv_simplify.specs.Simplified.{simp}
use Rattle.cv_simplify.specs.Counted.{is_in_range as is_counted_in_range}
use Rattle.cv_numeric.specs.declared.matched.Matched.{Matched}
use Rattle.cv_numeric.specs.declared.matched.Matched.TheVariants.{No, Out, Fit}
use Rattle.cv_numeric.specs.declared.quantity.Quantity.{Quantity}
use Rattle.cv_numeric.specs.declared.quantity.Quantity.TheVariants as quantity
use Rattle.cv_numeric.specs.declared.quantity.Range.{Range}
use Rattle.cv_numeric.specs.declared.quantity.Range.TheVariants.{All, NotNegative}
use Rattle.cv_numeric.specs.Matched.{mapped, IsAlike}
use Rattle.cv_numeric.specs.Quantities.{takes}
use Rattle.cv_numeric.specs.Calculations.{simplified, is_within, literal, plain, plain_of, clamped_calc, takes_calc, read_as, function, alone, calculation}
use Rattle.cv_numeric.specs.Numeric.{with_basis, value_of, measured, zero_length, length, length_percentage_in, whole_number, integer}
use Rattle.cv_numeric.specs.Alike.{IsMismatchAlike}

alike-self : {A : Type 0} (o : Matched A) → IsAlike o o
alike-self No = tt
alike-self Out = tt
alike-self (Fit a) = tt

alike-mapped : {A B : Type 0} (f : A → B) (o p : Matched A) → IsAlike o p → IsAlike (mapped f o) (mapped f p)
alike-mapped f No No h = tt
alike-mapped f No Out h = h
alike-mapped f No (Fit b) h = h
alike-mapped f Out No h = h
alike-mapped f Out Out h = tt
alike-mapped f Out (Fit b) h = tt
alike-mapped f (Fit a) No h = h
alike-mapped f (Fit a) Out h = tt
alike-mapped f (Fit a) (Fit b) h = tt

alike-if : {A : Type 0} (b : Bool) (o p r : Matched A) → IsAlike o p → IsAlike (if b then o else r) (if b then p else r)
alike-if true o p r h = h
alike-if false o p r h = alike-self r

alike-fits : {A : Type 0} (b c : Bool) (u v : A) → IsAlike (if b then Fit u else Out) (if c then Fit v else Out)
alike-fits true true u v = tt
alike-fits true false u v = tt
alike-fits false true u v = tt
alike-fits false false u v = tt

alike-simplified : (x y : Context) (c : Calc) → IsAlike (simplified x c) (simplified y c)
alike-simplified x y c = alike-fits (is_counted_in_range x c) (is_counted_in_range y c) (simp x c) (simp y c)

module _ (q : Quantity) (r : Range) (x y : Context) where
  alike-plain : (n : List ℕ) (u : Unit) → IsAlike (plain q r x n u) (plain q r y n u)
  alike-plain n u =
      alike-if (takes q (unit_type u) && is_within r n) (literal x n u) (literal y n u) No
      (alike-if (is_in_range n) (simplified x (tree.Num (exact_number n) u)) (simplified y (tree.Num (exact_number n) u)) Out (alike-simplified x y (tree.Num (exact_number n) u)))

  alike-plain_of : (n : List ℕ) (u : Option Unit) → IsAlike (plain_of q r x n u) (plain_of q r y n u)
  alike-plain_of n None = tt
  alike-plain_of n (Some u) = alike-plain n u

  alike-read : (a : Result Calc CalcErr) → IsAlike (read_as q r x a) (read_as q r y a)
  alike-read (Ok c) =
      alike-if (takes_calc q c) (mapped (clamped_calc r) (simplified x c)) (mapped (clamped_calc r) (simplified y c)) No
      (alike-mapped (clamped_calc r) (simplified x c) (simplified y c) (alike-simplified x y c))
  alike-read (Err (WideRange place t linear)) = alike-self (if takes q t && linear then Out else No)
  alike-read (Err NoCalc) = tt
  alike-read (Err NoType) = tt
  alike-read (Err (DivZero place)) = tt
  alike-read (Err Memory) = tt

  alike-function : (ts : List Token) → IsAlike (function q r x ts) (function q r y ts)
  alike-function ts = alike-read (answer ts)

  alike-alone : (t : Token) → IsAlike (alone q r x t) (alone q r y t)
  alike-alone (Number n) = alike-plain n NumberUnit
  alike-alone (Percentage n) = alike-plain n Percent
  alike-alone (Dimension n name) = alike-plain_of n (unit_with_name name)
  alike-alone t = alike-function (t ∷ [])

  alike-calculation : (ts : List Token) → IsAlike (calculation q r x ts) (calculation q r y ts)
  unfolding calculation
  alike-calculation [] = alike-function []
  alike-calculation (t ∷ []) = alike-alone t
  alike-calculation (t ∷ s ∷ ts) = alike-function (t ∷ s ∷ ts)

alike-measured : (q : Quantity) (r : Range) (x y : Context) (ts : List Token) → IsAlike (measured q r x ts) (measured q r y ts)
alike-measured q r x y ts =
    let u : Context = with_basis basis.Plain x in
    let v : Context = with_basis basis.Plain y in
    alike-mapped value_of (calculation q r u ts) (calculation q r v ts) (alike-calculation q r u v ts)

alike-length : (x y : Context) (ts : List Token) → IsAlike (length x ts) (length y ts)
alike-length x y (Number n ∷ []) = alike-self (zero_length n)
alike-length x y ts = alike-measured quantity.Length All x y ts

alike-length_percentage : (r : Range) (x y : Context) (ts : List Token) → IsAlike (length_percentage_in r x ts) (length_percentage_in r y ts)
alike-length_percentage r x y (Number n ∷ []) = alike-self (mapped (λ v. tree.Num v Px) (zero_length n))
alike-length_percentage r x y ts = alike-calculation quantity.LengthPercentage r x y ts

alike-integer : (x y : Context) (ts : List Token) → IsAlike (integer x ts) (integer y ts)
alike-integer x y (Number n ∷ []) = alike-self (whole_number n)
alike-integer x y ts = alike-mapped half_up (measured quantity.Number All x ts) (measured quantity.Number All y ts) (alike-measured quantity.Number All x y ts)

pub alike : IsMismatchAlike
alike = record {
  number_is = λ r x y ts. alike-measured quantity.Number r x y ts;
  percentage_is = λ x y ts. alike-measured quantity.Percentage All x y ts;
  angle_is = λ x y ts. alike-measured quantity.Angle All x y ts;
  time_is = λ x y ts. alike-measured quantity.Time All x y ts;
  resolution_is = λ x y ts. alike-measured quantity.Resolution NotNegative x y ts;
  length_is = alike-length;
  length_percentage_in_is = alike-length_percentage;
  length_percentage_is = λ r x y ts. alike-length_percentage r (with_basis basis.Length x) (with_basis basis.Length y) ts;
  integer_is = alike-integer;
}
