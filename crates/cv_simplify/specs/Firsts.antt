-- The place of the first number of a unit in a row.
use Rattle.std.specs.Prelude.{◌≡◌, ℕ, zero, suc, Bool, false, List, [], ◌∷◌, length, get_or, Option, Some, None, option_map, if◌then◌else◌}
use Rattle.cv_calc.specs.declared.unit.Unit as units
use Rattle.cv_calc.specs.declared.calc.Calc.{Calc}
use Rattle.cv_calc.specs.declared.calc.Calc.TheOpen.{Calc-F, Num}
use Rattle.cv_calc.specs.declared.calc.Calc.TheViews.{out-Calc}
use Rattle.cv_calc.specs.Unit.{same_unit}
use Rattle.cv_simplify.specs.Text.{unit_rank, last_rank}

-- the unit of a number
abbrev pub unit_as : Calc-F Calc → Option units.Unit
unit_as (Num v u) = Some u
unit_as _ = None

abbrev pub is_unit : units.Unit → Option units.Unit → Bool
is_unit u (Some t) = same_unit t u
is_unit u None = false

-- whether a calculation is a number with a unit
abbrev pub is_in : units.Unit → Calc → Bool
is_in u c = is_unit u (unit_as (out-Calc c))

-- the first place at which a number with a unit stands
unfoldable pub first_in : units.Unit → List Calc → Option ℕ
first_in u [] = None
first_in u (c ∷ cs) = if is_in u c then Some zero else option_map suc (first_in u cs)

-- by the rank of each unit, the first place at which a number with this unit stands
abbrev pub HoldsFirsts : List Calc → List (Option ℕ) → Type 0
HoldsFirsts row firsts = (length firsts ≡ last_rank) × ((u : units.Unit) → get_or firsts (unit_rank u) None ≡ first_in u row)

-- numbers of each unit stand first where they stood
abbrev pub KeepsFirsts : List Calc → List Calc → Type 0
KeepsFirsts row next = (u : units.Unit) → first_in u next ≡ first_in u row
