-- Conversion to a unit and to a sum of units (CSS Typed OM 1, "Common Numeric Operations, and the CSSNumericValue Superclass": `to()` and
-- `toSum()`). The refusals for types go first, and then each converted value and each sum that is formed has to be in bounds, which is
-- this project's own.
use Rattle.std.specs.Prelude.{ℕ, ◌==◌, Bool, true, false, pos, List, [], ◌∷◌, map, fold, filter, position, Result, Ok, Err, Option, Some, None, if◌then◌else◌}
use Rattle.std.specs.List.{flat_map, list_all, enumerate_from}
use Rattle.std.specs.Ordering.{int_eq}
use Rattle.cv_spec_ratio.specs.Ratio.{Ratio, zero_ratio, add}
use Rattle.cv_frac.specs.Bounded.{bounded, quotient_of}
use Rattle.cv_calc.specs.declared.unit.Unit.{Unit}
use Rattle.cv_calc.specs.declared.unit.Unit.TheVariants.{Number, Percent, Px, Cm, Mm, Q, Inch, Pt, Pc, Em, Rem, Ex, Ch, Ic, Vw, Vh, Vmin, Vmax, Deg, Grad, Turn, S, Ms, Hz, Khz, Dppx, X, Dpi, Dpcm, Fr}
use Rattle.cv_calc.specs.declared.calc.Calc.{Calc}
use Rattle.cv_calc.specs.declared.calc.Calc.TheVariants.{Num, Sum}
use Rattle.cv_calc.specs.Types.{type_of}
use Rattle.cv_calc.specs.Linear.{has_type}
use Rattle.cv_om.specs.declared.error.OmErr.{OmErr}
use Rattle.cv_om.specs.declared.error.OmErr.TheVariants.{BadType}
use Rattle.cv_om.specs.declared.item.SumItem.{SumItem}
use Rattle.cv_om.specs.Refusal.{and_then, answer_map, all_of, in_range}
use Rattle.cv_om.specs.UnitMap.{Powers, same_powers, sum_factor, unit_powers}
use Rattle.cv_om.specs.SumValue.{Row, one_item, sum_value}
use Rattle.cv_om.specs.Arithmetic.{typed}
use Rattle.cv_calc.specs.Unit.{same_unit}

-- an item converts to a unit whose own unit map is that of the item
abbrev pub converts : Unit → SumItem → Bool
converts u s = same_powers s.units (unit_powers u)

-- the item's value in the unit
abbrev pub in_unit : Unit → SumItem → Result Ratio OmErr
in_unit u s = in_range (quotient_of s.value (sum_factor u))

-- ---- to one unit

abbrev pub converted_item : Unit → SumItem → Result Calc OmErr
converted_item u s = if converts u s then answer_map (λ v. Num v u) (in_unit u s) else Err BadType

abbrev pub converted_row : Unit → Row → Result Calc OmErr
converted_row u row = and_then (one_item row) (converted_item u)

unfoldable pub converted : Unit → Calc → Result Calc OmErr
converted u c = and_then (sum_value c) (converted_row u)

-- ---- to some units: each item goes to the first of them to which it converts

abbrev pub placed_value : Ratio → Option ℕ → Result (ℕ × Ratio) OmErr
placed_value v None = Err BadType
placed_value v (Some i) = Ok (i, v)

-- the place of the unit that collects the item, with the item's value
abbrev pub placed_item : List Unit → SumItem → Result (ℕ × Ratio) OmErr
placed_item us s = placed_value s.value (position (λ u. converts u s) us)

-- the values that the unit at a place collects are added in the unit, from the left
abbrev pub collected_next : ℕ → Unit → Result Ratio OmErr → ℕ × Ratio → Result Ratio OmErr
collected_next i u r p = if p.0 == i then and_then r (λ v. and_then (in_range (quotient_of p.1 (sum_factor u))) (λ w. in_range (bounded (add v w)))) else r

abbrev pub collected : List (ℕ × Ratio) → ℕ × Unit → Result Calc OmErr
collected ps e = answer_map (λ v. Num v e.1) (fold (collected_next e.0 e.1) (Ok zero_ratio) ps)

-- the sum of some units has a type
abbrev pub has_sum_type : List Unit → Bool
has_sum_type us = has_type (type_of (Sum (map (Num zero_ratio) us)))

abbrev pub collected_sum : List Unit → List (ℕ × Ratio) → Result Calc OmErr
collected_sum us ps = if has_sum_type us then answer_map Sum (all_of (map (collected ps) (enumerate_from 0 us))) else Err BadType

abbrev pub units_row : List Unit → Row → Result Calc OmErr
units_row us row = and_then (all_of (map (placed_item us) row)) (collected_sum us)

-- ---- to the units that the items have

-- the units in the byte order of their names; a plain number and a percentage have the words that stand for them
abbrev pub units_by_name : List Unit
units_by_name = Q ∷ Ch ∷ Cm ∷ Deg ∷ Dpcm ∷ Dpi ∷ Dppx ∷ Em ∷ Ex ∷ Fr ∷ Grad ∷ Hz ∷ Ic ∷ Inch ∷ Khz ∷ Mm ∷ Ms ∷ Number ∷ Pc ∷ Percent ∷ Pt ∷ Px ∷ Rem ∷ S ∷ Turn ∷ Vh ∷ Vmax ∷ Vmin ∷ Vw ∷ X ∷ []

-- the unit of an item that has one unit of power 1, or none
abbrev pub item_unit : Powers → Option Unit
item_unit [] = Some Number
item_unit (p ∷ []) = if int_eq p.1 (pos 1) then Some p.0 else None
item_unit (p ∷ q ∷ ps) = None

abbrev pub is_unit : Option Unit → Unit → Bool
is_unit None u = false
is_unit (Some t) u = same_unit t u

abbrev pub has_unit : Option Unit → Bool
has_unit None = false
has_unit (Some u) = true

-- the items of a unit, in their order
abbrev pub numbers_of : Row → Unit → List Calc
numbers_of row u = map (λ s. Num s.value u) (filter (λ s. is_unit (item_unit s.units) u) row)

abbrev pub own_row : Row → Result Calc OmErr
own_row row = if list_all (λ s. has_unit (item_unit s.units)) row then typed (Sum (flat_map (numbers_of row) units_by_name)) else Err BadType

abbrev pub summed_row : List Unit → Row → Result Calc OmErr
summed_row [] row = own_row row
summed_row (u ∷ us) row = units_row (u ∷ us) row

unfoldable pub summed : List Unit → Calc → Result Calc OmErr
summed us c = and_then (sum_value c) (summed_row us)
