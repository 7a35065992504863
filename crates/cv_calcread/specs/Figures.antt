-- What a calculation says of the divisors in it: those that are made of numbers alone are looked at.
use Rattle.std.specs.Prelude.{List, [], ◌∷◌, ◌++◌, fold, Option, Some, None, if◌then◌else◌}
use Rattle.cv_spec_ratio.specs.Ratio.{Ratio, add, mul, zero_ratio, one_ratio}
use Rattle.cv_spec_ratio.specs.Order.{lesser, greater}
use Rattle.cv_exact.specs.Zero.{is_zero}
use Rattle.cv_calc.specs.declared.calc.Calc.{Calc}
use Rattle.cv_calc.specs.declared.calc.Calc.TheOpen.{Calc-F, Num, Sum, Product, Negate, Invert, Min, Max, Clamp}
use Rattle.cv_calc.specs.declared.calc.Calc.TheFolds.{fold-Calc}
use Rattle.cv_calc.specs.Numbers as numbers
use Rattle.cv_calcread.specs.declared.figure.Figure.{Figure}
use Rattle.cv_calcread.specs.declared.figure.Figure.TheVariants.{Measured, Undefined, Inside, Outside}
use Rattle.cv_calcread.specs.declared.divisors.Evaluation.{Evaluation}
use Rattle.cv_calcread.specs.declared.figure.Joining.{Joining}
use Rattle.cv_calcread.specs.declared.figure.Joining.TheVariants.{Add, Multiply, Least, Greatest}
use Rattle.cv_calcread.specs.declared.figure.Mark.{Mark}
use Rattle.cv_calcread.specs.declared.figure.Mark.TheVariants.{Fine, Far, Null}

-- what the reader keeps of a part, as a figure
abbrev pub seen : Figure → numbers.Figure
seen Measured = numbers.measured
seen Undefined = numbers.undefined
seen (Inside r) = numbers.inside r
seen (Outside r) = numbers.outside r

-- the ways of joining two parts
abbrev pub operation : Joining → Ratio → Ratio → Ratio
operation Add = add
operation Multiply = mul
operation Least = lesser
operation Greatest = greater

abbrev pub given : Joining → Ratio → numbers.Figure
given Add = numbers.figure_of
given Multiply = numbers.figure_of
given Least = numbers.inside
given Greatest = numbers.inside

abbrev pub joined_as : Joining → numbers.Figure → numbers.Figure → numbers.Figure
joined_as joining = numbers.joined (given joining) (operation joining)

-- what a divisor is
abbrev pub mark_of : numbers.Figure → Mark
mark_of numbers.measured = Fine
mark_of numbers.undefined = Fine
mark_of (numbers.inside r) = if is_zero r then Null else Fine
mark_of (numbers.outside r) = Far

-- ---- the divisors of a calculation

-- the figure of a part, and what the divisors in it are, in the order in which they begin
pub record Evaluated : Type 0 where
  pub figure : numbers.Figure
  pub marks : List Mark

-- what the reader keeps of it
abbrev pub shown : Evaluation → Evaluated
shown e = record { figure = seen e.figure; marks = e.marks.items }

abbrev pub with_part : Joining → Evaluated → Evaluated → Evaluated
with_part joining a e = record { figure = joined_as joining a.figure e.figure; marks = a.marks ++ e.marks }

abbrev pub begun_with : Ratio → Evaluated
begun_with r = record { figure = numbers.inside r; marks = [] }

-- the part chosen so far, and one more
abbrev pub chosen_next : Joining → Option Evaluated → Evaluated → Option Evaluated
chosen_next joining None e = Some e
chosen_next joining (Some a) e = Some (with_part joining a e)

abbrev pub or_undefined : Option Evaluated → Evaluated
or_undefined None = record { figure = numbers.undefined; marks = [] }
or_undefined (Some e) = e

abbrev pub divided : Evaluated → Evaluated
divided e = record { figure = numbers.inverted e.figure; marks = mark_of e.figure ∷ e.marks }

abbrev pub opposite : Evaluated → Evaluated
opposite e = record { figure = numbers.negated e.figure; marks = e.marks }

abbrev pub clamped : Evaluated → Evaluated → Evaluated → Evaluated
clamped l m h = with_part Greatest l (with_part Least m h)

abbrev pub sum_of : List Evaluated → Evaluated
sum_of es = fold (with_part Add) (begun_with zero_ratio) es

abbrev pub product_of : List Evaluated → Evaluated
product_of es = fold (with_part Multiply) (begun_with one_ratio) es

abbrev pub chosen_of : Joining → List Evaluated → Evaluated
chosen_of joining es = or_undefined (fold (chosen_next joining) None es)

abbrev pub evaluated_step : Calc-F Evaluated → Evaluated
evaluated_step (Num v u) = record { figure = numbers.unit_figure v u; marks = [] }
evaluated_step (Sum es) = sum_of es
evaluated_step (Product es) = product_of es
evaluated_step (Negate e) = opposite e
evaluated_step (Invert e) = divided e
evaluated_step (Min es) = chosen_of Least es
evaluated_step (Max es) = chosen_of Greatest es
evaluated_step (Clamp l m h) = clamped l m h

unfoldable pub evaluated : Calc → Evaluated
evaluated = fold-Calc Evaluated evaluated_step

-- the divisors of a further part behind others
abbrev pub with_marks : List Mark → Evaluated → List Mark
with_marks marks e = marks ++ e.marks
