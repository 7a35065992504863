-- The types of calculations (CSS Typed OM 1, "Numeric Value Typing"): a power of each base and of the percentage, and the
-- base that a percentage stands for. Each power is from -(2 ^ 63 - 1) to 2 ^ 63 - 1, else there is no type.
use Rattle.std.specs.Prelude.{Bool, true, false, ◌||◌, not, ◌^◌, nat_lt, ℤ, pos, neg_ℤ, ◌+ℤ◌, unsigned_abs, List, [], ◌∷◌, fold, Option, Some, None, if◌then◌else◌}
use Rattle.std.specs.Option.{option_and_then}
use Rattle.std.specs.Ordering.{int_eq}
use denote.Enum.Bare.{sameb}
use Rattle.cv_calc.specs.contracts.unit.Base.{the_type}
use Rattle.cv_calc.specs.declared.unit.NumType.{NumType}
use Rattle.cv_calc.specs.declared.unit.Base.{Base}
use Rattle.cv_calc.specs.declared.unit.Base.TheVariants.{Length, Angle, Time, Frequency, Resolution, Flex}
use Rattle.cv_calc.specs.declared.unit.Unit as units
use Rattle.cv_calc.specs.declared.unit.Unit.TheVariants.{Number, Percent, Px, Cm, Mm, Q, Inch, Pt, Pc, Em, Rem, Ex, Ch, Ic, Vw, Vh, Vmin, Vmax, Deg, Grad, Turn, S, Ms, Hz, Khz, Dppx, X, Dpi, Dpcm, Fr}
use Rattle.cv_calc.specs.declared.calc.Calc.{Calc}
use Rattle.cv_calc.specs.declared.calc.Calc.TheOpen.{Calc-F}
use Rattle.cv_calc.specs.declared.calc.Calc.TheOpen as layer
use Rattle.cv_calc.specs.declared.calc.Calc.TheFolds.{fold-Calc}

abbrev pub power_fits : ℤ → Bool
power_fits z = nat_lt (unsigned_abs z) (2 ^ 63)

abbrev pub power_of : ℤ → Option ℤ
power_of z = if power_fits z then Some z else None

abbrev pub if_fits : ℤ → Option NumType → Option NumType
if_fits z t = if power_fits z then t else None

-- a type, where its powers are within bounds
abbrev pub within : NumType → Option NumType
within t = if_fits t.length (if_fits t.angle (if_fits t.time (if_fits t.frequency (if_fits t.resolution (if_fits t.flex (if_fits t.percent (Some t)))))))

abbrev pub powers : ℤ → ℤ → ℤ → ℤ → ℤ → ℤ → ℤ → Option Base → NumType
powers l a t f r x p h = record { length = l; angle = a; time = t; frequency = f; resolution = r; flex = x; percent = p; hint = h }

abbrev pub no_powers : Option Base → NumType
no_powers h = powers (pos 0) (pos 0) (pos 0) (pos 0) (pos 0) (pos 0) (pos 0) h

-- the type of a unit
abbrev pub unit_type : units.Unit → NumType
unit_type Number = no_powers None
unit_type Percent = record (no_powers None) { percent = pos 1 }
unit_type Deg = record (no_powers None) { angle = pos 1 }
unit_type Grad = record (no_powers None) { angle = pos 1 }
unit_type Turn = record (no_powers None) { angle = pos 1 }
unit_type S = record (no_powers None) { time = pos 1 }
unit_type Ms = record (no_powers None) { time = pos 1 }
unit_type Hz = record (no_powers None) { frequency = pos 1 }
unit_type Khz = record (no_powers None) { frequency = pos 1 }
unit_type Dppx = record (no_powers None) { resolution = pos 1 }
unit_type X = record (no_powers None) { resolution = pos 1 }
unit_type Dpi = record (no_powers None) { resolution = pos 1 }
unit_type Dpcm = record (no_powers None) { resolution = pos 1 }
unit_type Fr = record (no_powers None) { flex = pos 1 }
unit_type Px = record (no_powers None) { length = pos 1 }
unit_type Cm = record (no_powers None) { length = pos 1 }
unit_type Mm = record (no_powers None) { length = pos 1 }
unit_type Q = record (no_powers None) { length = pos 1 }
unit_type Inch = record (no_powers None) { length = pos 1 }
unit_type Pt = record (no_powers None) { length = pos 1 }
unit_type Pc = record (no_powers None) { length = pos 1 }
unit_type Em = record (no_powers None) { length = pos 1 }
unit_type Rem = record (no_powers None) { length = pos 1 }
unit_type Ex = record (no_powers None) { length = pos 1 }
unit_type Ch = record (no_powers None) { length = pos 1 }
unit_type Ic = record (no_powers None) { length = pos 1 }
unit_type Vw = record (no_powers None) { length = pos 1 }
unit_type Vh = record (no_powers None) { length = pos 1 }
unit_type Vmin = record (no_powers None) { length = pos 1 }
unit_type Vmax = record (no_powers None) { length = pos 1 }

-- ---- hints

-- the power of the percentage moved to a base, which is then the hint
abbrev pub moved : Base → NumType → NumType
moved Length t = powers (t.length +ℤ t.percent) t.angle t.time t.frequency t.resolution t.flex (pos 0) (Some Length)
moved Angle t = powers t.length (t.angle +ℤ t.percent) t.time t.frequency t.resolution t.flex (pos 0) (Some Angle)
moved Time t = powers t.length t.angle (t.time +ℤ t.percent) t.frequency t.resolution t.flex (pos 0) (Some Time)
moved Frequency t = powers t.length t.angle t.time (t.frequency +ℤ t.percent) t.resolution t.flex (pos 0) (Some Frequency)
moved Resolution t = powers t.length t.angle t.time t.frequency (t.resolution +ℤ t.percent) t.flex (pos 0) (Some Resolution)
moved Flex t = powers t.length t.angle t.time t.frequency t.resolution (t.flex +ℤ t.percent) (pos 0) (Some Flex)

abbrev pub hinted : Base → NumType → Option NumType
hinted base t = within (moved base t)

abbrev pub with_hint : Option Base → NumType → Option NumType
with_hint None t = Some t
with_hint (Some base) t = hinted base t

-- the hint of two types, or nothing where they have different hints
abbrev pub shared : Option Base → Option Base → Option (Option Base)
shared None h = Some h
shared (Some a) None = Some (Some a)
shared (Some a) (Some b) = if sameb the_type a b then Some (Some a) else None

-- ---- sums

abbrev pub if_equal : ℤ → ℤ → Bool → Bool
if_equal a b rest = if int_eq a b then rest else false

abbrev pub same_powers : NumType → NumType → Bool
same_powers s t = if_equal s.length t.length (if_equal s.angle t.angle (if_equal s.time t.time (if_equal s.frequency t.frequency (if_equal s.resolution t.resolution (if_equal s.flex t.flex (if_equal s.percent t.percent true))))))

abbrev pub has_percent : NumType → Bool
has_percent t = not (int_eq t.percent (pos 0))

abbrev pub if_same : NumType → NumType → Option NumType
if_same s t = if same_powers s t then Some s else None

-- a base is tried as the hint of two types
abbrev pub tried : Base → NumType → NumType → Option NumType
tried base s t = option_and_then (λ u. option_and_then (λ v. if_same u v) (hinted base t)) (hinted base s)

abbrev pub else_tried : Option NumType → Base → NumType → NumType → Option NumType
else_tried (Some u) base s t = Some u
else_tried None base s t = tried base s t

-- the first base that makes two types equal
unfoldable pub tried_all : NumType → NumType → Option NumType
tried_all s t =
    else_tried (else_tried (else_tried (else_tried (else_tried (tried Length s t) Angle s t) Time s t) Frequency s t) Resolution s t) Flex s t

-- the sum of two types that have one hint or none
abbrev pub added_alike : NumType → NumType → Option NumType
added_alike s t = if same_powers s t then Some s else if has_percent s || has_percent t then tried_all s t else None

unfoldable pub added : NumType → NumType → Option NumType
added s t = option_and_then (λ h. option_and_then (λ u. option_and_then (λ v. added_alike u v) (with_hint h t)) (with_hint h s)) (shared s.hint t.hint)

abbrev pub added_next : Option NumType → Option NumType → Option NumType
added_next s t = option_and_then (λ u. option_and_then (λ v. added u v) t) s

-- ---- products

-- the sum of the powers, with the first hint
unfoldable pub multiplied : NumType → NumType → Option NumType
multiplied s t =
    within (powers (s.length +ℤ t.length) (s.angle +ℤ t.angle) (s.time +ℤ t.time) (s.frequency +ℤ t.frequency) (s.resolution +ℤ t.resolution) (s.flex +ℤ t.flex) (s.percent +ℤ t.percent) s.hint)

-- a product so far, under a hint, times one more
abbrev pub multiplied_next : Option Base → Option NumType → Option NumType → Option NumType
multiplied_next h s t = option_and_then (λ u. option_and_then (λ v. option_and_then (λ w. multiplied u w) (with_hint h v)) t) s

abbrev pub shared_next : Option (Option Base) → Option NumType → Option (Option Base)
shared_next h t = option_and_then (λ g. option_and_then (λ u. shared g u.hint) t) h

-- ---- trees

-- types are added from the left; without children there is none
unfoldable pub sum_type : List (Option NumType) → Option NumType
sum_type [] = None
sum_type (t ∷ ts) = fold added_next t ts

-- the hint that the children of a product have
unfoldable pub shared_hint : List (Option NumType) → Option (Option Base)
shared_hint ts = fold shared_next (Some None) ts

-- a product under a hint
unfoldable pub product_under : List (Option NumType) → Option Base → Option NumType
product_under ts h = fold (multiplied_next h) (Some (no_powers h)) ts

unfoldable pub product_type : List (Option NumType) → Option NumType
product_type [] = None
product_type (t ∷ ts) = option_and_then (product_under (t ∷ ts)) (shared_hint (t ∷ ts))

abbrev pub negated : NumType → Option NumType
negated t = within (powers (neg_ℤ t.length) (neg_ℤ t.angle) (neg_ℤ t.time) (neg_ℤ t.frequency) (neg_ℤ t.resolution) (neg_ℤ t.flex) (neg_ℤ t.percent) t.hint)

abbrev pub type_step : Calc-F (Option NumType) → Option NumType
type_step (layer.Num v u) = Some (unit_type u)
type_step (layer.Sum ts) = sum_type ts
type_step (layer.Product ts) = product_type ts
type_step (layer.Negate t) = t
type_step (layer.Invert t) = option_and_then negated t
type_step (layer.Min ts) = sum_type ts
type_step (layer.Max ts) = sum_type ts
type_step (layer.Clamp a b c) = added_next (added_next a b) c

-- the type of a calculation
unfoldable pub type_of : Calc → Option NumType
type_of = fold-Calc (Option NumType) type_step
