-- The unit map of an item of a sum value: the units of a product, each with its power (CSS Typed OM 1, "Common Numeric Operations, and the
-- CSSNumericValue Superclass").
use Rattle.std.specs.Prelude.{Bool, true, false, ◌&&◌, ℤ, pos, neg_ℤ, ◌+ℤ◌, List, [], ◌∷◌, map, Option, Some, None, option_map, Result, Ok, Err, if◌then◌else◌}
use Rattle.std.specs.List.{flat_map, list_all}
use lib.Pointwise.{pointwise}
use Rattle.std.specs.Ordering.{int_eq}
use Rattle.cv_spec_ratio.specs.Ratio.{Ratio, one_ratio}
use Rattle.cv_calc.specs.declared.unit.Unit.{Unit}
use Rattle.cv_calc.specs.declared.unit.Unit.TheVariants.{Number, Percent, Px, Cm, Mm, Q, Inch, Pt, Pc, Em, Rem, Ex, Ch, Ic, Vw, Vh, Vmin, Vmax, Deg, Grad, Turn, S, Ms, Hz, Khz, Dppx, X, Dpi, Dpcm, Fr}
use Rattle.cv_calc.specs.Unit.{same_unit}
use Rattle.cv_calc.specs.Factor.{Sizes, canonical, factor}
use Rattle.cv_calc.specs.Types.{power_fits, power_of}
use Rattle.cv_om.specs.declared.error.OmErr.{OmErr}
use Rattle.cv_om.specs.declared.error.OmErr.TheVariants.{Range}

abbrev pub Powers : Type 0
Powers = List (Unit × ℤ)

-- the order in which the units of a map stand
abbrev pub all_units : List Unit
all_units = Number ∷ Percent ∷ Px ∷ Cm ∷ Mm ∷ Q ∷ Inch ∷ Pt ∷ Pc ∷ Em ∷ Rem ∷ Ex ∷ Ch ∷ Ic ∷ Vw ∷ Vh ∷ Vmin ∷ Vmax ∷ Deg ∷ Grad ∷ Turn ∷ S ∷ Ms ∷ Hz ∷ Khz ∷ Dppx ∷ X ∷ Dpi ∷ Dpcm ∷ Fr ∷ []

-- the power of a unit in a map
unfoldable pub power_in : Powers → Unit → ℤ
power_in [] u = pos 0
power_in (p ∷ ps) u = if same_unit p.0 u then p.1 else power_in ps u

-- a unit with its power, where that isn't 0
abbrev pub entry : Unit → ℤ → Powers
entry u z = if int_eq z (pos 0) then [] else (u, z) ∷ []

-- the units whose power isn't 0, each with it
abbrev pub powers_listed : (Unit → ℤ) → List Unit → Powers
powers_listed f us = flat_map (λ u. entry u (f u)) us

abbrev pub power_sum : Powers → Powers → Unit → ℤ
power_sum a b u = power_in a u +ℤ power_in b u

-- the map of a product, where each power is in bounds
unfoldable pub product_powers : Powers → Powers → Result Powers OmErr
product_powers a b = if list_all (λ u. power_fits (power_sum a b u)) all_units then Ok (powers_listed (power_sum a b) all_units) else Err Range

abbrev pub negative_entry : Unit × ℤ → Option (Unit × ℤ)
negative_entry p = option_map (λ z. (p.0, z)) (power_of (neg_ℤ p.1))

abbrev pub all_entries : List (Option (Unit × ℤ)) → Option Powers
all_entries [] = Some []
all_entries (None ∷ os) = None
all_entries (Some p ∷ os) = option_map (λ ps. p ∷ ps) (all_entries os)

abbrev pub within_bounds : Option Powers → Result Powers OmErr
within_bounds None = Err Range
within_bounds (Some ps) = Ok ps

-- the map of a reciprocal, where each power is in bounds
unfoldable pub inverse_powers : Powers → Result Powers OmErr
inverse_powers a = within_bounds (all_entries (map negative_entry a))

abbrev pub same_power : Unit × ℤ → Unit × ℤ → Bool
same_power p q = same_unit p.0 q.0 && int_eq p.1 q.1

-- the maps are equal
abbrev pub same_powers : Powers → Powers → Bool
same_powers = pointwise same_power

-- ---- the unit of a sum value to which a unit converts

-- a unit of which a context alone says what it stands for
abbrev pub is_relative : Unit → Bool
is_relative Em = true
is_relative Rem = true
is_relative Ex = true
is_relative Ch = true
is_relative Ic = true
is_relative Vw = true
is_relative Vh = true
is_relative Vmin = true
is_relative Vmax = true
is_relative u = false

-- the canonical unit (CSS Values and Units 4, "Compatible Units"), and each unit that has no conversion itself
abbrev pub sum_unit : Unit → Unit
sum_unit u = if is_relative u then u else canonical u

-- no other unit asks for these
abbrev pub no_sizes : Sizes
no_sizes = record { em = one_ratio; rem = one_ratio; width = one_ratio; height = one_ratio }

-- what one of a unit is in the unit to which it converts
abbrev pub sum_factor : Unit → Ratio
sum_factor u = if is_relative u then one_ratio else factor no_sizes u

-- the map of one of a unit: a number has no units
abbrev pub unit_powers : Unit → Powers
unit_powers Number = []
unit_powers u = (sum_unit u, pos 1) ∷ []
