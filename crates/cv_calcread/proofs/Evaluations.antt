-- The equations of what a calculation says of the divisors in it.
use Rattle.std.specs.Prelude.{List, [], map}
use Rattle.std.proofs.Common.{◌≡◌}
use Rattle.cv_spec_ratio.specs.Ratio.{Ratio}
use Rattle.cv_calc.specs.declared.unit.Unit as units
use Rattle.cv_calc.specs.declared.calc.Calc.{Calc}
use Rattle.cv_calc.specs.declared.calc.Calc.TheVariants.{Num, Sum, Product, Negate, Invert, Min, Max, Clamp}
use Rattle.cv_calc.specs.Numbers as numbers
use Rattle.cv_calc.specs.Tree.{fold-Num, fold-Sum, fold-Product, fold-Negate, fold-Invert, fold-Min, fold-Max, fold-Clamp}
use Rattle.cv_calcread.specs.declared.figure.Joining.TheVariants.{Least, Greatest}
use Rattle.cv_calcread.specs.Figures.{evaluated, evaluated_step, opposite, divided, clamped, sum_of, product_of, chosen_of}

pub evaluated-Num : (v : Ratio) (u : units.Unit) → evaluated (Num v u) ≡ record { figure = numbers.unit_figure v u; marks = [] }
unfolding evaluated
evaluated-Num v u = fold-Num evaluated_step v u

pub evaluated-Sum : (cs : List Calc) → evaluated (Sum cs) ≡ sum_of (map evaluated cs)
unfolding evaluated
evaluated-Sum cs = fold-Sum evaluated_step cs

pub evaluated-Product : (cs : List Calc) → evaluated (Product cs) ≡ product_of (map evaluated cs)
unfolding evaluated
evaluated-Product cs = fold-Product evaluated_step cs

pub evaluated-Negate : (c : Calc) → evaluated (Negate c) ≡ opposite (evaluated c)
unfolding evaluated
evaluated-Negate c = fold-Negate evaluated_step c

pub evaluated-Invert : (c : Calc) → evaluated (Invert c) ≡ divided (evaluated c)
unfolding evaluated
evaluated-Invert c = fold-Invert evaluated_step c

pub evaluated-Min : (cs : List Calc) → evaluated (Min cs) ≡ chosen_of Least (map evaluated cs)
unfolding evaluated
evaluated-Min cs = fold-Min evaluated_step cs

pub evaluated-Max : (cs : List Calc) → evaluated (Max cs) ≡ chosen_of Greatest (map evaluated cs)
unfolding evaluated
evaluated-Max cs = fold-Max evaluated_step cs

pub evaluated-Clamp : (a b c : Calc) → evaluated (Clamp a b c) ≡ clamped (evaluated a) (evaluated b) (evaluated c)
unfolding evaluated
evaluated-Clamp a b c = fold-Clamp evaluated_step a b c

pub ruleset evaluations = (evaluated-Num, evaluated-Sum, evaluated-Product, evaluated-Negate, evaluated-Invert, evaluated-Min, evaluated-Max, evaluated-Clamp)
