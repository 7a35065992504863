-- The sum value of a calculation (CSS Typed OM 1, "Common Numeric Operations, and the CSSNumericValue Superclass": "create a sum value"): a
-- sum of fractions, each with the units of a product. That fractions and powers are within bounds is this project's own. The sum values
-- of the children are formed from the left, and then that of their node; the first refusal counts.
use Rattle.std.specs.Prelude.{List, [], ◌∷◌, map, fold, Result, Ok, Err, Option, Some, None, if◌then◌else◌}
use Rattle.std.specs.List.{flat_map}
use Rattle.cv_spec_ratio.specs.Ratio.{Ratio, add, mul, neg, reciprocal, one_ratio}
use Rattle.cv_spec_ratio.specs.Order.{lesser, greater}
use Rattle.cv_frac.specs.Bounded.{bounded}
use Rattle.cv_calc.specs.declared.unit.Unit.{Unit}
use Rattle.cv_calc.specs.declared.calc.Calc.{Calc}
use Rattle.cv_calc.specs.declared.calc.Calc.TheOpen.{Calc-F, Num, Sum, Product, Negate, Invert, Min, Max, Clamp}
use Rattle.cv_calc.specs.declared.calc.Calc.TheFolds.{fold-Calc}
use Rattle.cv_om.specs.declared.error.OmErr.{OmErr}
use Rattle.cv_om.specs.declared.error.OmErr.TheVariants.{BadType, RangeError}
use Rattle.cv_om.specs.declared.item.SumItem.{SumItem}
use Rattle.cv_om.specs.Refusal.{and_then, answer_map, all_of, in_range}
use Rattle.cv_om.specs.UnitMap.{Powers, product_powers, inverse_powers, same_powers, sum_factor, unit_powers}

abbrev pub Row : Type 0
Row = List SumItem

abbrev pub item : Ratio → Powers → SumItem
item v units = record { value = v; units = units }

-- ---- a number: its value in the unit to which its unit converts

abbrev pub number_row : Ratio → Unit → Result Row OmErr
number_row v u = answer_map (λ w. item w (unit_powers u) ∷ []) (in_range (bounded (mul v (sum_factor u))))

-- ---- a sum: items of equal units are added at the place of the first

abbrev pub added_item : SumItem → SumItem → Result SumItem OmErr
added_item s t = answer_map (λ v. item v s.units) (in_range (bounded (add s.value t.value)))

unfoldable pub with_item : Row → SumItem → Result Row OmErr
with_item [] t = Ok (t ∷ [])
with_item (s ∷ ss) t = if same_powers t.units s.units then answer_map (λ sum. sum ∷ ss) (added_item s t) else answer_map (λ rest. s ∷ rest) (with_item ss t)

abbrev pub with_next : Result Row OmErr → SumItem → Result Row OmErr
with_next r t = and_then r (λ row. with_item row t)

abbrev pub with_row : Result Row OmErr → Row → Result Row OmErr
with_row r row = fold with_next r row

abbrev pub sum_row : List Row → Result Row OmErr
sum_row rows = fold with_row (Ok []) rows

-- ---- a product: each item so far, in order, times each item of the next child, in order

abbrev pub item_product : SumItem → SumItem → Result SumItem OmErr
item_product s t = and_then (in_range (bounded (mul s.value t.value))) (λ v. answer_map (item v) (product_powers s.units t.units))

abbrev pub item_products : Row → Row → List (Result SumItem OmErr)
item_products ss ts = flat_map (λ s. map (item_product s) ts) ss

abbrev pub times_row : Result Row OmErr → Row → Result Row OmErr
times_row r ts = and_then r (λ ss. all_of (item_products ss ts))

abbrev pub product_row : List Row → Result Row OmErr
product_row [] = Ok (item one_ratio [] ∷ [])
product_row (r ∷ rs) = fold times_row (Ok r) rs

-- ---- a negative

abbrev pub negated_item : SumItem → SumItem
negated_item s = item (neg s.value) s.units

-- ---- a reciprocal, the least, the greatest and a number within limits have one item in each child

abbrev pub one_item : Row → Result SumItem OmErr
one_item [] = Err BadType
one_item (s ∷ []) = Ok s
one_item (s ∷ t ∷ ts) = Err BadType

abbrev pub inverse_item : Powers → Option Ratio → Result Row OmErr
inverse_item units None = Err RangeError
inverse_item units (Some v) = answer_map (λ inverse. item v inverse ∷ []) (inverse_powers units)

abbrev pub inverse_row : Row → Result Row OmErr
inverse_row row = and_then (one_item row) (λ s. inverse_item s.units (reciprocal s.value))

-- one of two items of equal units
abbrev pub chosen_item : (Ratio → Ratio → Ratio) → SumItem → SumItem → Result SumItem OmErr
chosen_item f s t = if same_powers s.units t.units then Ok (item (f s.value t.value) s.units) else Err BadType

abbrev pub chosen_next : (Ratio → Ratio → Ratio) → Result SumItem OmErr → Row → Result SumItem OmErr
chosen_next f r row = and_then r (λ s. and_then (one_item row) (chosen_item f s))

abbrev pub row_of : Result SumItem OmErr → Result Row OmErr
row_of r = answer_map (λ s. s ∷ []) r

abbrev pub chosen_row : (Ratio → Ratio → Ratio) → List Row → Result Row OmErr
chosen_row f [] = Err BadType
chosen_row f (r ∷ rs) = row_of (fold (chosen_next f) (one_item r) rs)

-- the greater of the first and of the lesser of the others
abbrev pub limited_item : Row → Row → Row → Result SumItem OmErr
limited_item low middle high = and_then (one_item low) (λ l. and_then (chosen_next lesser (one_item middle) high) (chosen_item greater l))

abbrev pub limited_row : Row → Row → Row → Result Row OmErr
limited_row low middle high = row_of (limited_item low middle high)

-- ---- a calculation

abbrev pub limited : Result Row OmErr → Result Row OmErr → Result Row OmErr → Result Row OmErr
limited low middle high = and_then low (λ l. and_then middle (λ m. and_then high (λ h. limited_row l m h)))

abbrev pub sum_value_step : Calc-F (Result Row OmErr) → Result Row OmErr
sum_value_step (Num v u) = number_row v u
sum_value_step (Sum rs) = and_then (all_of rs) sum_row
sum_value_step (Product rs) = and_then (all_of rs) product_row
sum_value_step (Negate r) = answer_map (map negated_item) r
sum_value_step (Invert r) = and_then r inverse_row
sum_value_step (Min rs) = and_then (all_of rs) (chosen_row lesser)
sum_value_step (Max rs) = and_then (all_of rs) (chosen_row greater)
sum_value_step (Clamp l m h) = limited l m h

unfoldable pub sum_value : Calc → Result Row OmErr
sum_value = fold-Calc (Result Row OmErr) sum_value_step
