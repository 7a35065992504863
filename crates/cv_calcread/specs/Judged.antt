-- The divisors of a calculation are judged by their figures, which tell their values.
use Rattle.std.specs.Prelude.{◌≡◌, ◌∷◌}
use Rattle.cv_calc.specs.declared.calc.Calc.{Calc}
use Rattle.cv_calc.specs.declared.calc.Calc.TheVariants.{Invert}
use Rattle.cv_calc.specs.Numbers.{figure}
use Rattle.cv_calcread.specs.Figures.{evaluated, mark_of}

pub record DivisorsAreJudged : Type 0 where
  pub figure_is : (c : Calc) → (evaluated c).figure ≡ figure c
  pub divisor_is : (c : Calc) → (evaluated (Invert c)).marks ≡ mark_of (figure c) ∷ (evaluated c).marks
