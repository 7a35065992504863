-- A calculation is simplified alike in two contexts where its numbers are, and percentages stand for the same.
use Rattle.std.specs.Prelude.{Bool, true, ◌&&◌, map}
use Rattle.std.proofs.Common.{◌≡◌, refl, ap}
use Rattle.cv_spec_ratio.specs.Ratio.{Ratio}
use Rattle.cv_spec_ratio.specs.Order.{lesser, greater}
use Rattle.cv_calc.specs.declared.unit.Unit as units
use Rattle.cv_calc.specs.declared.context.Context.{Context}
use Rattle.cv_calc.specs.declared.calc.Calc.{Calc}
use Rattle.cv_calc.specs.declared.calc.Calc.TheVariants as tree
use Rattle.cv_calc.specs.declared.calc.Calc.TheOpen.{Calc-F}
use Rattle.cv_calc.specs.declared.calc.Calc.TheOpen as layer
use Rattle.cv_simplify.specs.Counted.{Counted, counted, counted_step, counted_below, inside, is_in_range}
use Rattle.cv_simplify.specs.Simplified.{number_in, one_or, choice_row, compares_percent, clamped, simp, simp_step}
use Rattle.cv_calc_laws.specs.Units.{all_units}
use Rattle.cv_calc_laws.proofs.Folding.{StepsAgree, folds_alike}

-- numbers of the units that pass are alike
pub record NumbersAgree (test : units.Unit → Bool) (x y : Context) : Type 0 where
  pub number : (v : Ratio) (u : units.Unit) → test u ≡ true → number_in x v u ≡ number_in y v u
  pub basis : x.basis ≡ y.basis

module _ (test : units.Unit → Bool) (x y : Context) (agree : NumbersAgree test x y) where
  steps_alike : StepsAgree test (simp_step x) (simp_step y)
  steps_alike = record {
    num = agree.number;
    sum = λ cs. refl;
    product = λ cs. refl;
    negate = λ c. refl;
    invert = λ c. refl;
    min = λ cs. ap (λ b. one_or tree.Min (choice_row (compares_percent b) lesser cs)) agree.basis;
    max = λ cs. ap (λ b. one_or tree.Max (choice_row (compares_percent b) greater cs)) agree.basis;
    clamp = λ l m h. ap (λ b. clamped (compares_percent b) l m h) agree.basis;
  }

  -- a step that counts, where the simplified forms are the same
  abbrev counted_as : Calc-F Counted → Calc → Counted
  counted_as l c = record { simple = c; in_range = counted_below l && inside c }

  counts_alike : StepsAgree test (counted_step x) (counted_step y)
  counts_alike = record {
    num = λ v u h. ap (counted_as (layer.Num v u)) (agree.number v u h);
    sum = λ ps. refl;
    product = λ ps. refl;
    negate = λ p. refl;
    invert = λ p. refl;
    min = λ ps. ap (counted_as (layer.Min ps)) (steps_alike.min (map (λ (p : Counted). p.simple) ps));
    max = λ ps. ap (counted_as (layer.Max ps)) (steps_alike.max (map (λ (p : Counted). p.simple) ps));
    clamp = λ a b c. ap (counted_as (layer.Clamp a b c)) (steps_alike.clamp a.simple b.simple c.simple);
  }

  pub simple_alike : (c : Calc) → all_units test c ≡ true → simp x c ≡ simp y c
  unfolding simp
  simple_alike c h = folds_alike test (simp_step x) (simp_step y) steps_alike c h

  counted_alike : (c : Calc) → all_units test c ≡ true → counted x c ≡ counted y c
  unfolding counted
  counted_alike c h = folds_alike test (counted_step x) (counted_step y) counts_alike c h

  pub in_range_alike : (c : Calc) → all_units test c ≡ true → is_in_range x c ≡ is_in_range y c
  in_range_alike c h = ap (λ (p : Counted). p.in_range) (counted_alike c h)
