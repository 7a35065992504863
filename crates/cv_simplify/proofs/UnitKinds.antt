-- The kinds of the units.
use Rattle.std.specs.Prelude.{false, Some}
use Rattle.std.proofs.Common.{◌≡◌, refl}
use Rattle.cv_calc.specs.declared.unit.Base.TheVariants as base
use Rattle.cv_calc.specs.declared.unit.Unit as units
use Rattle.cv_calc.specs.declared.unit.Unit.TheVariants.{Number, Percent, Deg, Grad, Turn, S, Ms, Hz, Khz, Dppx, X, Dpi, Dpcm, Fr}
use Rattle.cv_calc.specs.declared.context.Basis.{Basis}
use Rattle.cv_calc.specs.declared.context.Basis.TheVariants.{Plain, Length, Of}
use Rattle.cv_calc.specs.Factor.{canonical}
use Rattle.cv_calc.specs.Types.{unit_type}
use Rattle.cv_simplify.specs.TypeIn.{unit_type_with_lengths}
use Rattle.cv_simplify.proofs.Measures.{Kind, nothing, plain, measured, percents, based}
use Rattle.cv_simplify.proofs.KindTypes.{kind_type, IsReal}

abbrev pub unit_kind : units.Unit → Kind
unit_kind Number = plain
unit_kind Percent = measured percents
unit_kind Deg = measured (based false base.Angle)
unit_kind Grad = measured (based false base.Angle)
unit_kind Turn = measured (based false base.Angle)
unit_kind S = measured (based false base.Time)
unit_kind Ms = measured (based false base.Time)
unit_kind Hz = measured (based false base.Frequency)
unit_kind Khz = measured (based false base.Frequency)
unit_kind Dppx = measured (based false base.Resolution)
unit_kind X = measured (based false base.Resolution)
unit_kind Dpi = measured (based false base.Resolution)
unit_kind Dpcm = measured (based false base.Resolution)
unit_kind Fr = measured (based false base.Flex)
unit_kind u = measured (based false base.Length)

abbrev pub unit_kind_with_lengths : units.Unit → Kind
unit_kind_with_lengths Percent = measured (based false base.Length)
unit_kind_with_lengths u = unit_kind u

abbrev pub unit_kind_in : Basis → units.Unit → Kind
unit_kind_in (Of f) u = unit_kind_with_lengths u
unit_kind_in b u = unit_kind u

pub unit_typed : (u : units.Unit) → Some (unit_type u) ≡ kind_type (unit_kind u)
unit_typed Number = refl
unit_typed _ = refl

pub unit_typed_with_lengths : (u : units.Unit) → Some (unit_type_with_lengths u) ≡ kind_type (unit_kind_with_lengths u)
unit_typed_with_lengths Number = refl
unit_typed_with_lengths _ = refl

pub canonical_kind : (u : units.Unit) → unit_kind (canonical u) ≡ unit_kind u
canonical_kind Number = refl
canonical_kind _ = refl

-- two kinds of one sort: of plain numbers, or of what is measured
abbrev pub IsSort : Kind → Kind → Type 0
IsSort nothing nothing = Unit {0}
IsSort plain plain = Unit {0}
IsSort (measured m) (measured n) = Unit {0}
IsSort _ _ = ⊥

lengths_sort : (u : units.Unit) → IsSort (unit_kind u) (unit_kind_with_lengths u)
lengths_sort Number = tt
lengths_sort _ = tt

units_self : (u : units.Unit) → IsSort (unit_kind u) (unit_kind u)
units_self Number = tt
units_self _ = tt

pub units_sort : (b : Basis) (u : units.Unit) → IsSort (unit_kind u) (unit_kind_in b u)
units_sort Plain u = units_self u
units_sort Length u = units_self u
units_sort (Of f) u = lengths_sort u

pub units_real : (u : units.Unit) → IsReal (unit_kind u)
units_real Number = tt
units_real _ = tt
