-- The value of each kind of calculation.
use Rattle.std.specs.Prelude.{List, map, Some, option_map}
use Rattle.std.proofs.Common.{◌≡◌}
use Rattle.cv_spec_ratio.specs.Ratio.{Ratio, mul, neg}
use Rattle.cv_spec_ratio.specs.Order.{lesser, greater}
use Rattle.cv_calc.specs.declared.unit.Unit as units
use Rattle.cv_calc.specs.declared.calc.Calc.{Calc}
use Rattle.cv_calc.specs.declared.calc.Calc.TheVariants.{Num, Sum, Product, Negate, Invert, Min, Max}
use Rattle.cv_calc.specs.Tree.{fold-Num, fold-Sum, fold-Product, fold-Negate, fold-Invert, fold-Min, fold-Max}
use Rattle.cv_calc.specs.Value.{Meaning, unit_value, sum_of, product_of, chosen_of, inverse_of, value_step, value}

module _ (m : Meaning) where
  pub value-Num : (v : Ratio) (u : units.Unit) → value m (Num v u) ≡ Some (mul v (unit_value m u))
  unfolding value
  value-Num v u = fold-Num (value_step m) v u

  pub value-Sum : (cs : List Calc) → value m (Sum cs) ≡ sum_of (map (value m) cs)
  unfolding value
  value-Sum cs = fold-Sum (value_step m) cs

  pub value-Product : (cs : List Calc) → value m (Product cs) ≡ product_of (map (value m) cs)
  unfolding value
  value-Product cs = fold-Product (value_step m) cs

  pub value-Negate : (c : Calc) → value m (Negate c) ≡ option_map neg (value m c)
  unfolding value
  value-Negate c = fold-Negate (value_step m) c

  pub value-Invert : (c : Calc) → value m (Invert c) ≡ inverse_of (value m c)
  unfolding value
  value-Invert c = fold-Invert (value_step m) c

  pub value-Min : (cs : List Calc) → value m (Min cs) ≡ chosen_of lesser (map (value m) cs)
  unfolding value
  value-Min cs = fold-Min (value_step m) cs

  pub value-Max : (cs : List Calc) → value m (Max cs) ≡ chosen_of greater (map (value m) cs)
  unfolding value
  value-Max cs = fold-Max (value_step m) cs
