-- Linear calculations: in each product at most one child isn't a plain number, and each divisor is a plain number that is made
-- of numbers alone (the products that CSS Values and Units 3, "Mathematical Expressions", allows, over the types of CSS Typed OM 1,
-- "Numeric Value Typing").
use Rattle.std.specs.Prelude.{Bool, true, false, ◌&&◌, not, List, [], ◌∷◌, map, fold, Option, Some, None, if◌then◌else◌}
use Rattle.std.specs.Option.{option_and_then}
use Rattle.cv_calc.specs.declared.unit.NumType.{NumType}
use Rattle.cv_calc.specs.declared.unit.Base.{Base}
use Rattle.cv_calc.specs.declared.unit.Unit as units
use Rattle.cv_calc.specs.declared.unit.Unit.TheVariants.{Number}
use Rattle.cv_calc.specs.declared.shape.Shape.{Shape}
use Rattle.cv_calc.specs.declared.calc.Calc.{Calc}
use Rattle.cv_calc.specs.declared.calc.Calc.TheOpen.{Calc-F, Num, Sum, Product, Negate, Invert, Min, Max, Clamp}
use Rattle.cv_calc.specs.declared.calc.Calc.TheFolds.{fold-Calc}
use Rattle.cv_calc.specs.Types.{unit_type, product_type, negated, added_next, same_powers, no_powers}
use Rattle.cv_calc.specs.Unit.{same_unit}

abbrev pub no_hint : Option Base → Bool
no_hint None = true
no_hint (Some base) = false

-- the type of a plain number, with no power and no hint
abbrev pub is_plain : Option NumType → Bool
is_plain None = false
is_plain (Some t) = same_powers t (no_powers None) && no_hint t.hint

-- what is found of a calculation is its type, whether its products and divisors are as they have to be, and whether it holds
-- numbers alone

abbrev pub unit_shape : units.Unit → Shape
unit_shape u = record { kind = Some (unit_type u); fits = true; numbers = same_unit u Number }

-- children that are added, or of which one is chosen
abbrev pub added_shape : Shape → Shape → Shape
added_shape s t = record { kind = added_next s.kind t.kind; fits = s.fits && t.fits; numbers = s.numbers && t.numbers }

-- a node without children has no type
abbrev pub no_child : Shape
no_child = record { kind = None; fits = true; numbers = true }

unfoldable pub sum_shape : List Shape → Shape
sum_shape [] = no_child
sum_shape (s ∷ ss) = fold added_shape s ss

-- what is found of the children so far, and one more
abbrev pub further_shape : Option Shape → Shape → Option Shape
further_shape None s = Some s
further_shape (Some first) s = Some (added_shape first s)

abbrev pub kinds : List Shape → List (Option NumType)
kinds ss = map (λ s. s.kind) ss

unfoldable pub all_fit : List Shape → Bool
all_fit [] = true
all_fit (s ∷ ss) = s.fits && all_fit ss

unfoldable pub all_numbers : List Shape → Bool
all_numbers [] = true
all_numbers (s ∷ ss) = s.numbers && all_numbers ss

abbrev pub is_measured : Shape → Bool
is_measured s = not (is_plain s.kind)

unfoldable pub none_measured : List Shape → Bool
none_measured [] = true
none_measured (s ∷ ss) = if is_measured s then false else none_measured ss

-- at most one child isn't a plain number
unfoldable pub one_measured : List Shape → Bool
one_measured [] = true
one_measured (s ∷ ss) = if is_measured s then none_measured ss else one_measured ss

unfoldable pub product_shape : List Shape → Shape
product_shape ss = record { kind = product_type (kinds ss); fits = all_fit ss && one_measured ss; numbers = all_numbers ss }

-- a divisor is a plain number that is made of numbers alone
abbrev pub inverted_shape : Shape → Shape
inverted_shape s = record { kind = option_and_then negated s.kind; fits = s.fits && is_plain s.kind && s.numbers; numbers = s.numbers }

abbrev pub shape_step : Calc-F Shape → Shape
shape_step (Num v u) = unit_shape u
shape_step (Sum ss) = sum_shape ss
shape_step (Product ss) = product_shape ss
shape_step (Negate s) = s
shape_step (Invert s) = inverted_shape s
shape_step (Min ss) = sum_shape ss
shape_step (Max ss) = sum_shape ss
shape_step (Clamp a b c) = added_shape (added_shape a b) c

unfoldable pub shape : Calc → Shape
shape = fold-Calc Shape shape_step

abbrev pub has_type : Option NumType → Bool
has_type None = false
has_type (Some t) = true

-- a calculation that has a type and whose products and divisors are as they have to be
unfoldable pub is_linear : Calc → Bool
is_linear c = has_type (shape c).kind && (shape c).fits
