-- The arithmetic of numeric values (CSS Typed OM 1, "Common Numeric Operations, and the CSSNumericValue Superclass"). A *single* value is
-- a number with its unit. The bounds of fractions are this project's own.
use Rattle.std.specs.Prelude.{List, [], ◌∷◌, ◌++◌, fold, Result, Ok, Err, Option, Some, None, if◌then◌else◌}
use Rattle.cv_spec_ratio.specs.Ratio.{Ratio, add, mul, neg, reciprocal, zero_ratio}
use Rattle.cv_spec_ratio.specs.Order.{lesser, greater}
use Rattle.cv_frac.specs.Bounded.{bounded}
use Rattle.cv_calc.specs.declared.unit.Unit.{Unit}
use Rattle.cv_calc.specs.declared.unit.Unit.TheVariants as unit
use Rattle.cv_calc.specs.declared.calc.Calc.{Calc}
use Rattle.cv_calc.specs.declared.calc.Calc.TheVariants.{Num, Sum, Product, Negate, Invert, Min, Max}
use Rattle.cv_calc.specs.declared.calc.Calc.TheOpen.{Calc-F}
use Rattle.cv_calc.specs.declared.calc.Calc.TheOpen as layer
use Rattle.cv_calc.specs.declared.calc.Calc.TheViews.{out-Calc}
use Rattle.cv_calc.specs.Unit.{same_unit}
use Rattle.cv_calc.specs.Types.{type_of}
use Rattle.cv_calc.specs.Linear.{has_type}
use Rattle.cv_om.specs.declared.error.OmErr.{OmErr}
use Rattle.cv_om.specs.declared.joining.Joining.{Joining}
use Rattle.cv_om.specs.declared.joining.Joining.TheVariants as joining
use Rattle.cv_om.specs.declared.error.OmErr.TheVariants.{BadType, RangeError}
use Rattle.cv_om.specs.Refusal.{and_then, answer_map, in_range}

-- ---- the items that a receiver puts in front of the argument

abbrev pub terms_as : Calc → Calc-F Calc → List Calc
terms_as c (layer.Sum cs) = cs
terms_as c y = c ∷ []

abbrev pub factors_as : Calc → Calc-F Calc → List Calc
factors_as c (layer.Product cs) = cs
factors_as c y = c ∷ []

abbrev pub least_as : Calc → Calc-F Calc → List Calc
least_as c (layer.Min cs) = cs
least_as c y = c ∷ []

abbrev pub greatest_as : Calc → Calc-F Calc → List Calc
greatest_as c (layer.Max cs) = cs
greatest_as c y = c ∷ []

-- ---- single values

abbrev pub unit_as : Calc-F Calc → Option Unit
unit_as (layer.Num v u) = Some u
unit_as y = None

-- the unit of a single value
abbrev pub unit_of : Calc → Option Unit
unit_of c = unit_as (out-Calc c)

abbrev pub number_as : Calc-F Calc → Ratio
number_as (layer.Num v u) = v
number_as y = zero_ratio

-- the number of a single value
abbrev pub number_of : Calc → Ratio
number_of c = number_as (out-Calc c)

abbrev pub one_unit : Option Unit → Option Unit → Option Unit
one_unit None t = None
one_unit (Some u) None = None
one_unit (Some u) (Some t) = if same_unit u t then Some u else None

abbrev pub times_unit : Option Unit → Option Unit → Option Unit
times_unit None t = None
times_unit (Some u) None = None
times_unit (Some u) (Some t) = if same_unit u unit.Number then Some t else if same_unit t unit.Number then Some u else None

-- ---- how values are joined

abbrev pub items : Joining → Calc → List Calc
items joining.Sum c = terms_as c (out-Calc c)
items joining.Product c = factors_as c (out-Calc c)
items joining.Least c = least_as c (out-Calc c)
items joining.Greatest c = greatest_as c (out-Calc c)

abbrev pub node : Joining → List Calc → Calc
node joining.Sum cs = Sum cs
node joining.Product cs = Product cs
node joining.Least cs = Min cs
node joining.Greatest cs = Max cs

-- the unit of two single values together: they have one unit, or, where they are multiplied, at most one of them isn't a plain number
abbrev pub unit_joined : Joining → Option Unit → Option Unit → Option Unit
unit_joined joining.Sum u t = one_unit u t
unit_joined joining.Product u t = times_unit u t
unit_joined joining.Least u t = one_unit u t
unit_joined joining.Greatest u t = one_unit u t

abbrev pub unit_next : Joining → Option Unit → Calc → Option Unit
unit_next how u c = unit_joined how u (unit_of c)

-- the unit of all of them together, where all are single
abbrev pub whole_unit : Joining → List Calc → Option Unit
whole_unit how [] = None
whole_unit how (c ∷ cs) = fold (unit_next how) (unit_of c) cs

abbrev pub number_joined : Joining → Ratio → Ratio → Result Ratio OmErr
number_joined joining.Sum v w = in_range (bounded (add v w))
number_joined joining.Product v w = in_range (bounded (mul v w))
number_joined joining.Least v w = Ok (lesser v w)
number_joined joining.Greatest v w = Ok (greater v w)

abbrev pub number_next : Joining → Result Ratio OmErr → Calc → Result Ratio OmErr
number_next how r c = and_then r (λ v. number_joined how v (number_of c))

-- the numbers are joined from the left, two at a time
abbrev pub whole_number : Joining → List Calc → Result Ratio OmErr
whole_number how [] = Ok zero_ratio
whole_number how (c ∷ cs) = fold (number_next how) (Ok (number_of c)) cs

-- a calculation that has a type
abbrev pub typed : Calc → Result Calc OmErr
typed c = if has_type (type_of c) then Ok c else Err BadType

abbrev pub united : Joining → List Calc → Option Unit → Result Calc OmErr
united how cs (Some u) = answer_map (λ v. Num v u) (whole_number how cs)
united how cs None = typed (node how cs)

-- the items of the receiver in front of the argument, as one single value where they are such, else as a node that has a type
unfoldable pub joined : Joining → Calc → Calc → Result Calc OmErr
joined how a b = united how (items how a ++ b ∷ []) (whole_unit how (items how a ++ b ∷ []))

-- ---- answers

abbrev pub sum_of : Calc → Calc → Result Calc OmErr
sum_of = joined joining.Sum

abbrev pub product_of : Calc → Calc → Result Calc OmErr
product_of = joined joining.Product

abbrev pub least_of : Calc → Calc → Result Calc OmErr
least_of = joined joining.Least

abbrev pub greatest_of : Calc → Calc → Result Calc OmErr
greatest_of = joined joining.Greatest

abbrev pub negated_as : Calc → Calc-F Calc → Calc
negated_as c (layer.Num v u) = Num (neg v) u
negated_as c (layer.Negate d) = d
negated_as c y = Negate c

unfoldable pub negated : Calc → Calc
negated c = negated_as c (out-Calc c)

abbrev pub inverse_number : Option Ratio → Result Calc OmErr
inverse_number None = Err RangeError
inverse_number (Some v) = Ok (Num v unit.Number)

abbrev pub inverse_as : Calc → Calc-F Calc → Result Calc OmErr
inverse_as c (layer.Num v u) = if same_unit u unit.Number then inverse_number (reciprocal v) else Ok (Invert c)
inverse_as c (layer.Invert d) = Ok d
inverse_as c y = Ok (Invert c)

unfoldable pub inverse_of : Calc → Result Calc OmErr
inverse_of c = inverse_as c (out-Calc c)

abbrev pub difference_of : Calc → Calc → Result Calc OmErr
difference_of a b = sum_of a (negated b)

abbrev pub quotient_of : Calc → Calc → Result Calc OmErr
quotient_of a b = and_then (inverse_of b) (product_of a)
