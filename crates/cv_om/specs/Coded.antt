-- A unit map as a list of numbers, by which an equal one is found.
use Rattle.std.specs.Prelude.{ℕ, ℤ, pos, List, [], ◌∷◌, Option, Some, None, Result, Ok}
use Rattle.std.specs.List.{flat_map}
use Rattle.cv_calc.specs.declared.unit.Unit.{Unit}
use Rattle.cv_calc.specs.declared.unit.Unit.TheVariants.{Number, Percent, Px, Cm, Mm, Q, Inch, Pt, Pc, Em, Rem, Ex, Ch, Ic, Vw, Vh, Vmin, Vmax, Deg, Grad, Turn, S, Ms, Hz, Khz, Dppx, X, Dpi, Dpcm, Fr}
use Rattle.cv_om.specs.UnitMap.{Powers}
use Rattle.cv_om.specs.declared.error.OmErr.{OmErr}
use Rattle.cv_om.specs.declared.item.SumItem.{SumItem}
use Rattle.cv_om.specs.SumValue.{added_item}

abbrev pub unit_number : Unit → ℕ
unit_number Number = 0
unit_number Percent = 1
unit_number Px = 2
unit_number Cm = 3
unit_number Mm = 4
unit_number Q = 5
unit_number Inch = 6
unit_number Pt = 7
unit_number Pc = 8
unit_number Em = 9
unit_number Rem = 10
unit_number Ex = 11
unit_number Ch = 12
unit_number Ic = 13
unit_number Vw = 14
unit_number Vh = 15
unit_number Vmin = 16
unit_number Vmax = 17
unit_number Deg = 18
unit_number Grad = 19
unit_number Turn = 20
unit_number S = 21
unit_number Ms = 22
unit_number Hz = 23
unit_number Khz = 24
unit_number Dppx = 25
unit_number X = 26
unit_number Dpi = 27
unit_number Dpcm = 28
unit_number Fr = 29

abbrev pub entry_code : Unit × ℤ → List ℤ
entry_code p = pos (unit_number p.0) ∷ p.1 ∷ []

abbrev pub map_code : Powers → List ℤ
map_code ps = flat_map entry_code ps

-- an item with which another is added, or the other alone
abbrev pub sum_with : Option SumItem → SumItem → Result SumItem OmErr
sum_with None t = Ok t
sum_with (Some s) t = added_item s t
