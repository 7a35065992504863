-- The fractions of a calculation that is made of numbers alone: its value, and whether each fraction is in bounds that counts in it,
-- which are its numbers, the value of each part, and the sums and products of the first children of a sum or product. The bounds
-- are this project's own; the value is that of CSS Values and Units 4, "Mathematical Expressions".
use Rattle.std.specs.Prelude.{List, [], ◌∷◌, fold, Option, Some, None, if◌then◌else◌}
use Rattle.cv_spec_ratio.specs.Ratio.{Ratio, add, mul, neg, reciprocal, zero_ratio, one_ratio}
use Rattle.cv_spec_ratio.specs.Order.{lesser, greater}
use Rattle.cv_frac.specs.Bounded.{in_bounds}
use Rattle.cv_calc.specs.declared.unit.Unit as units
use Rattle.cv_calc.specs.declared.unit.Unit.TheVariants as unit
use Rattle.cv_calc.specs.declared.calc.Calc.{Calc}
use Rattle.cv_calc.specs.declared.calc.Calc.TheOpen.{Calc-F, Num, Sum, Product, Negate, Invert, Min, Max, Clamp}
use Rattle.cv_calc.specs.declared.calc.Calc.TheFolds.{fold-Calc}
use Rattle.cv_calc.specs.Unit.{same_unit}

-- it holds a unit, or it has no value since a divisor in it is 0; else it has a value, and each fraction is in bounds or not
pub data Figure : Type 0 where
  measured : Figure
  undefined : Figure
  inside : Ratio → Figure
  outside : Ratio → Figure

abbrev pub figure_of : Ratio → Figure
figure_of r = if in_bounds r then inside r else outside r

-- a number is in bounds
abbrev pub unit_figure : Ratio → units.Unit → Figure
unit_figure v u = if same_unit u unit.Number then inside v else measured

-- two parts, and the value that they have together; the first argument tells what two values in bounds give
abbrev pub joined : (Ratio → Figure) → (Ratio → Ratio → Ratio) → Figure → Figure → Figure
joined give f measured g = measured
joined give f undefined measured = measured
joined give f undefined undefined = undefined
joined give f undefined (inside b) = undefined
joined give f undefined (outside b) = undefined
joined give f (inside a) measured = measured
joined give f (inside a) undefined = undefined
joined give f (inside a) (inside b) = give (f a b)
joined give f (inside a) (outside b) = outside (f a b)
joined give f (outside a) measured = measured
joined give f (outside a) undefined = undefined
joined give f (outside a) (inside b) = outside (f a b)
joined give f (outside a) (outside b) = outside (f a b)

abbrev pub added : Figure → Figure → Figure
added = joined figure_of add

abbrev pub multiplied : Figure → Figure → Figure
multiplied = joined figure_of mul

-- the least and the greatest of two values in bounds are in bounds
abbrev pub least : Figure → Figure → Figure
least = joined inside lesser

abbrev pub greatest : Figure → Figure → Figure
greatest = joined inside greater

abbrev pub negated : Figure → Figure
negated measured = measured
negated undefined = undefined
negated (inside r) = inside (neg r)
negated (outside r) = outside (neg r)

abbrev pub inside_or : Option Ratio → Figure
inside_or None = undefined
inside_or (Some r) = inside r

abbrev pub outside_or : Option Ratio → Figure
outside_or None = undefined
outside_or (Some r) = outside r

abbrev pub inverted : Figure → Figure
inverted measured = measured
inverted undefined = undefined
inverted (inside r) = inside_or (reciprocal r)
inverted (outside r) = outside_or (reciprocal r)

-- the least or greatest of some parts, which has no value where there is none
abbrev pub chosen : (Figure → Figure → Figure) → List Figure → Figure
chosen choose [] = undefined
chosen choose (g ∷ gs) = fold choose g gs

abbrev pub figure_step : Calc-F Figure → Figure
figure_step (Num v u) = unit_figure v u
figure_step (Sum gs) = fold added (inside zero_ratio) gs
figure_step (Product gs) = fold multiplied (inside one_ratio) gs
figure_step (Negate g) = negated g
figure_step (Invert g) = inverted g
figure_step (Min gs) = chosen least gs
figure_step (Max gs) = chosen greatest gs
figure_step (Clamp l m h) = greatest l (least m h)

unfoldable pub figure : Calc → Figure
figure = fold-Calc Figure figure_step
