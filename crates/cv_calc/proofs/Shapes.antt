-- The equations of what one pass finds of a calculation.
use Rattle.std.specs.Prelude.{List, map}
use Rattle.std.proofs.Common.{◌≡◌}
use Rattle.cv_spec_ratio.specs.Ratio.{Ratio}
use Rattle.cv_calc.specs.declared.unit.Unit as units
use Rattle.cv_calc.specs.declared.calc.Calc.{Calc}
use Rattle.cv_calc.specs.declared.calc.Calc.TheVariants.{Num, Sum, Product, Negate, Invert, Min, Max, Clamp}
use Rattle.cv_calc.specs.Tree.{fold-Num, fold-Sum, fold-Product, fold-Negate, fold-Invert, fold-Min, fold-Max, fold-Clamp}
use Rattle.cv_calc.specs.Linear.{unit_shape, added_shape, sum_shape, product_shape, inverted_shape, shape, shape_step}

pub shape-Num : (v : Ratio) (u : units.Unit) → shape (Num v u) ≡ unit_shape u
unfolding shape
shape-Num v u = fold-Num shape_step v u

pub shape-Sum : (cs : List Calc) → shape (Sum cs) ≡ sum_shape (map shape cs)
unfolding shape
shape-Sum cs = fold-Sum shape_step cs

pub shape-Product : (cs : List Calc) → shape (Product cs) ≡ product_shape (map shape cs)
unfolding shape
shape-Product cs = fold-Product shape_step cs

pub shape-Negate : (c : Calc) → shape (Negate c) ≡ shape c
unfolding shape
shape-Negate c = fold-Negate shape_step c

pub shape-Invert : (c : Calc) → shape (Invert c) ≡ inverted_shape (shape c)
unfolding shape
shape-Invert c = fold-Invert shape_step c

pub shape-Min : (cs : List Calc) → shape (Min cs) ≡ sum_shape (map shape cs)
unfolding shape
shape-Min cs = fold-Min shape_step cs

pub shape-Max : (cs : List Calc) → shape (Max cs) ≡ sum_shape (map shape cs)
unfolding shape
shape-Max cs = fold-Max shape_step cs

pub shape-Clamp : (a b c : Calc) → shape (Clamp a b c) ≡ added_shape (added_shape (shape a) (shape b)) (shape c)
unfolding shape
shape-Clamp a b c = fold-Clamp shape_step a b c

pub ruleset shape_equations = (shape-Num, shape-Sum, shape-Product, shape-Negate, shape-Invert, shape-Min, shape-Max, shape-Clamp)
