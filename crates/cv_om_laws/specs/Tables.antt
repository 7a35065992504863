-- The two tables of units in which sum values are ordered hold each unit once: that of unit maps in the order of the variants, and that of
-- `toSum()` in the byte order of the names (CSS Typed OM 1, "Common Numeric Operations, and the CSSNumericValue Superclass").
use Rattle.std.specs.Prelude.{◌≡◌, ℕ, Bool, true, ◌&&◌, List, [], ◌∷◌, map, count_by, slice_get, Some}
use Rattle.std.specs.Ordering.{nat_cmp, is_lt}
use Rattle.std.specs.Cmp.Lexicographic.{slice_cmp}
use Rattle.cv_calc.specs.declared.unit.Unit as units
use Rattle.cv_calc.specs.Names.{unit_text}
use Rattle.cv_calc.specs.Unit.{same_unit}
use Rattle.cv_om.specs.UnitMap.{all_units}
use Rattle.cv_om.specs.Coded.{unit_number}
use Rattle.cv_om.specs.Conversion.{units_by_name}

-- each text is before the next
abbrev pub in_order : List (List ℕ) → Bool
in_order [] = true
in_order (t ∷ []) = true
in_order (t ∷ u ∷ ts) = is_lt (slice_cmp nat_cmp t u) && in_order (u ∷ ts)

pub record TablesAreWhole : Type 0 where
  pub once : (u : units.Unit) → count_by (same_unit u) all_units ≡ 1
  pub place : (u : units.Unit) → slice_get all_units (unit_number u) ≡ Some u
  pub named_once : (u : units.Unit) → count_by (same_unit u) units_by_name ≡ 1
  pub by_name : in_order (map unit_text units_by_name) ≡ true
