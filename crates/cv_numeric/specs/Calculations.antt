-- The calculation of a list that is one numeric token or one math function, for a quantity that takes some types, within a range
-- (CSS Values and Units 4, "Mathematical Expressions", "Range Checking"). A number outside the range of its quantity is no match, and
-- this is told before its unit is resolved; a math function that is one number is clamped instead. A function with a divisor 0 is no
-- match, which is this project's own.
use Rattle.std.specs.Prelude.{ℕ, Bool, true, ◌&&◌, not, List, [], ◌∷◌, Option, Some, None, Result, Ok, Err, encode_utf8_all, if◌then◌else◌}
use Rattle.cv_exact.specs.Zero.{is_zero}
use Rattle.cv_spec_text.specs.Characters.{hyphen, begins_with}
use Rattle.cv_spec_text.specs.declared.token.Token.{Token}
use Rattle.cv_spec_text.specs.declared.token.Token.TheVariants.{Number, Percentage, Dimension}
use Rattle.cv_calc.specs.declared.unit.Unit as units
use Rattle.cv_calc.specs.declared.unit.Unit.TheVariants.{Number as NumberUnit, Percent}
use Rattle.cv_calc.specs.declared.context.Context.{Context}
use Rattle.cv_calc.specs.declared.calc.Calc.{Calc}
use Rattle.cv_calc.specs.declared.calc.Calc.TheVariants as tree
use Rattle.cv_calc.specs.declared.calc.Calc.TheOpen as layer
use Rattle.cv_calc.specs.declared.calc.Calc.TheViews.{out-Calc}
use Rattle.cv_calc.specs.Names.{unit_with_name}
use Rattle.cv_calc.specs.Types.{unit_type, type_of}
use Rattle.cv_calc.specs.Linear.{is_linear}
use Rattle.cv_calcread.specs.declared.error.CalcErr.{CalcErr}
use Rattle.cv_calcread.specs.declared.error.CalcErr.TheVariants.{Range as WideRange}
use Rattle.cv_calcread.specs.Literals.{exact_number, is_in_range}
use Rattle.cv_calcread.specs.Answer.{answer}
use Rattle.cv_simplify.specs.Simplified.{simp}
use Rattle.cv_simplify.specs.Counted.{is_in_range as is_counted_in_range}
use Rattle.cv_numeric.specs.declared.matched.Matched.{Matched}
use Rattle.cv_numeric.specs.declared.matched.Matched.TheVariants.{No, Out, Fit}
use Rattle.cv_numeric.specs.declared.quantity.Quantity.{Quantity}
use Rattle.cv_numeric.specs.declared.quantity.Range.{Range}
use Rattle.cv_numeric.specs.declared.quantity.Range.TheVariants.{All, NotNegative}
use Rattle.cv_numeric.specs.Matched.{mapped}
use Rattle.cv_numeric.specs.Quantities.{takes, takes_some, clamped}

-- the simplified form, where all that is counted is in bounds
abbrev pub simplified : Context → Calc → Matched Calc
simplified x c = if is_counted_in_range x c then Fit (simp x c) else Out

-- ---- one token

-- the number is 0
abbrev pub is_null : List ℕ → Bool
is_null n = is_in_range n && is_zero (exact_number n)

-- the number is below 0: it has a minus and isn't 0
abbrev pub is_negative : List ℕ → Bool
is_negative n = begins_with hyphen (encode_utf8_all n) && not (is_null n)

abbrev pub is_within : Range → List ℕ → Bool
is_within All n = true
is_within NotNegative n = not (is_negative n)

-- a number of a unit
abbrev pub literal : Context → List ℕ → units.Unit → Matched Calc
literal x n u = if is_in_range n then simplified x (tree.Num (exact_number n) u) else Out

abbrev pub plain : Quantity → Range → Context → List ℕ → units.Unit → Matched Calc
plain q r x n u = if takes q (unit_type u) && is_within r n then literal x n u else No

abbrev pub plain_of : Quantity → Range → Context → List ℕ → Option units.Unit → Matched Calc
plain_of q r x n None = No
plain_of q r x n (Some u) = plain q r x n u

-- ---- one math function

abbrev pub clamped_as : Range → Calc → layer.Calc-F Calc → Calc
clamped_as r c (layer.Num v u) = tree.Num (clamped r v) u
clamped_as r c l = c

-- what is one number is clamped
abbrev pub clamped_calc : Range → Calc → Calc
clamped_calc r c = clamped_as r c (out-Calc c)

abbrev pub takes_calc : Quantity → Calc → Bool
takes_calc q c = takes_some q (type_of c) && is_linear c

abbrev pub taken : Quantity → Range → Context → Calc → Matched Calc
taken q r x c = if takes_calc q c then mapped (clamped_calc r) (simplified x c) else No

-- what the reader answers of a list, for a quantity
abbrev pub read_as : Quantity → Range → Context → Result Calc CalcErr → Matched Calc
read_as q r x (Ok c) = taken q r x c
read_as q r x (Err (WideRange place t linear)) = if takes q t && linear then Out else No
read_as q r x (Err e) = No

abbrev pub function : Quantity → Range → Context → List Token → Matched Calc
function q r x ts = read_as q r x (answer ts)

-- ---- both

abbrev pub alone : Quantity → Range → Context → Token → Matched Calc
alone q r x (Number n) = plain q r x n NumberUnit
alone q r x (Percentage n) = plain q r x n Percent
alone q r x (Dimension n name) = plain_of q r x n (unit_with_name name)
alone q r x t = function q r x (t ∷ [])

-- what a list is for a quantity, within a range, with the basis of the context
unfoldable pub calculation : Quantity → Range → Context → List Token → Matched Calc
calculation q r x (t ∷ []) = alone q r x t
calculation q r x ts = function q r x ts
