-- The value of a sum value: each item's fraction times its units, each to its power (CSS Typed OM 1, "Common Numeric Operations, and the
-- CSSNumericValue Superclass").
use Rattle.std.specs.Prelude.{◌≡◌, ℕ, zero, suc, ℤ, pos, negsuc, List, [], ◌∷◌, Option, Some, None, Ok}
use Rattle.cv_spec_ratio.specs.Ratio.{Ratio, add, mul, reciprocal, zero_ratio, one_ratio}
use Rattle.cv_calc.specs.declared.unit.Unit as units
use Rattle.cv_calc.specs.declared.calc.Calc.{Calc}
use Rattle.cv_calc.specs.Value.{Meaning, unit_value, value}
use Rattle.cv_om.specs.declared.item.SumItem.{SumItem}
use Rattle.cv_om.specs.UnitMap.{Powers}
use Rattle.cv_om.specs.SumValue.{Row, sum_value}
use Rattle.cv_om.specs.Conversion.{converted, summed}
use Rattle.cv_om_laws.specs.Valued.{HasPositiveUnits}

unfoldable pub raised : Ratio → ℕ → Ratio
raised f zero = one_ratio
raised f (suc n) = mul f (raised f n)

abbrev pub or_one : Option Ratio → Ratio
or_one None = one_ratio
or_one (Some r) = r

-- a fraction that isn't 0 to a power
abbrev pub to_power : Ratio → ℤ → Ratio
to_power f (pos n) = raised f n
to_power f (negsuc n) = raised (or_one (reciprocal f)) (suc n)

unfoldable pub units_value : Meaning → Powers → Ratio
units_value m [] = one_ratio
units_value m (p ∷ ps) = mul (to_power (unit_value m p.0) p.1) (units_value m ps)

abbrev pub item_value : Meaning → SumItem → Ratio
item_value m s = mul s.value (units_value m s.units)

unfoldable pub row_value : Meaning → Row → Ratio
row_value m [] = zero_ratio
row_value m (s ∷ ss) = add (item_value m s) (row_value m ss)

-- where each unit means something positive, the sum of the items is the value
abbrev pub SumValuesAreKept : Type 0
SumValuesAreKept = (m : Meaning) → HasPositiveUnits m → (c : Calc) (x : Ratio) (row : Row) → value m c ≡ Some x → sum_value c ≡ Ok row → row_value m row ≡ x

-- and a conversion to a unit keeps it
abbrev pub ConversionsAreKept : Type 0
ConversionsAreKept = (m : Meaning) → HasPositiveUnits m → (u : units.Unit) (c d : Calc) (x : Ratio) → value m c ≡ Some x → converted u c ≡ Ok d → value m d ≡ Some x

-- and so does one to a sum of units, of those that are given or else of its own
abbrev pub SumsAreKept : Type 0
SumsAreKept = (m : Meaning) → HasPositiveUnits m → (us : List units.Unit) (c d : Calc) (x : Ratio) → value m c ≡ Some x → summed us c ≡ Ok d → value m d ≡ Some x
