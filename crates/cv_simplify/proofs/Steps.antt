-- The equations of the simplified form as it is made.
use Rattle.std.specs.Prelude.{List, map, option_map}
use Rattle.std.specs.Option.{option_and_then}
use Rattle.std.proofs.Common.{◌≡◌}
use Rattle.cv_spec_ratio.specs.Ratio.{Ratio}
use Rattle.cv_calc.specs.declared.unit.Unit as units
use Rattle.cv_calc.specs.declared.context.Context.{Context}
use Rattle.cv_calc.specs.declared.calc.Calc.{Calc}
use Rattle.cv_calc.specs.declared.calc.Calc.TheVariants.{Num, Sum, Product, Negate, Invert, Min, Max, Clamp}
use Rattle.cv_calc.specs.Tree.{fold-Num, fold-Sum, fold-Product, fold-Negate, fold-Invert, fold-Min, fold-Max, fold-Clamp}
use Rattle.cv_simplify.specs.declared.joining.Joining.TheVariants as joining
use Rattle.cv_simplify.specs.Simplified.{one_or, compares_percent, negated, inverted}
use Rattle.cv_simplify.specs.Checked.{checked, checked_step, literal_within, row_within, factors_within, shown, clamped_within}

module _ (x : Context) where
  pub checked-Num : (v : Ratio) (u : units.Unit) → checked x (Num v u) ≡ literal_within x v u
  unfolding checked
  checked-Num v u = fold-Num (checked_step x) v u

  pub checked-Sum : (cs : List Calc) → checked x (Sum cs) ≡ option_map (one_or Sum) (row_within joining.Sum (map (checked x) cs))
  unfolding checked
  checked-Sum cs = fold-Sum (checked_step x) cs

  pub checked-Product : (cs : List Calc) → checked x (Product cs) ≡ option_and_then shown (factors_within (map (checked x) cs))
  unfolding checked
  checked-Product cs = fold-Product (checked_step x) cs

  pub checked-Negate : (c : Calc) → checked x (Negate c) ≡ option_map negated (checked x c)
  unfolding checked
  checked-Negate c = fold-Negate (checked_step x) c

  pub checked-Invert : (c : Calc) → checked x (Invert c) ≡ option_map inverted (checked x c)
  unfolding checked
  checked-Invert c = fold-Invert (checked_step x) c

  pub checked-Min : (cs : List Calc) → checked x (Min cs) ≡ option_map (one_or Min) (row_within (joining.Least (compares_percent x.basis)) (map (checked x) cs))
  unfolding checked
  checked-Min cs = fold-Min (checked_step x) cs

  pub checked-Max : (cs : List Calc) → checked x (Max cs) ≡ option_map (one_or Max) (row_within (joining.Greatest (compares_percent x.basis)) (map (checked x) cs))
  unfolding checked
  checked-Max cs = fold-Max (checked_step x) cs

  pub checked-Clamp : (a b c : Calc) → checked x (Clamp a b c) ≡ clamped_within (compares_percent x.basis) (checked x a) (checked x b) (checked x c)
  unfolding checked
  checked-Clamp a b c = fold-Clamp (checked_step x) a b c

pub ruleset checked_equations = (checked-Num, checked-Sum, checked-Product, checked-Negate, checked-Invert, checked-Min, checked-Max, checked-Clamp)
