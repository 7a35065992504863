-- The figure of a calculation tells its value.
use Rattle.std.specs.Prelude.{Bool, true, false, List, [], ◌∷◌, map, fold, Option, Some, None, option_map, if◌then◌else◌}
use Rattle.std.proofs.Common.{◌≡◌, refl, ◌∙◌, ap, subst}
use Rattle.cv_spec_ratio.specs.Ratio.{Ratio, add, mul, neg, reciprocal, zero_ratio, one_ratio}
use Rattle.cv_spec_ratio.specs.Order.{lesser, greater}
use Rattle.cv_spec_ratio.proofs.Laws.{mul_one}
use Rattle.cv_frac.specs.Bounded.{in_bounds}
use Rattle.cv_calc.specs.declared.unit.Unit as units
use Rattle.cv_calc.specs.declared.unit.Unit.TheVariants as unit
use Rattle.cv_calc.specs.declared.calc.Calc.{Calc}
use Rattle.cv_calc.specs.declared.calc.Calc.TheVariants.{Num, Sum, Product, Negate, Invert, Min, Max, Clamp}
use Rattle.cv_calc.specs.declared.calc.Calc.TheOpen as layer
use Rattle.cv_calc.specs.Tree.{Each, by_cases, fold-Num, fold-Sum, fold-Product, fold-Negate, fold-Invert, fold-Min, fold-Max, fold-Clamp}
use Rattle.cv_calc.specs.Unit.{same_unit, same_unit-true}
use Rattle.cv_calc.specs.Value.{Meaning, unit_value, value, value_step, both, inverse_of, chosen_of}
use Rattle.cv_calc.specs.Numbers.{Figure, measured, undefined, inside, outside, figure_of, unit_figure, joined, added, multiplied, least, negated, inside_or, outside_or, inverted, chosen, figure, figure_step}
use Rattle.cv_calc.specs.Figures.{FiguresAreValues}
use Rattle.cv_calc.proofs.Chosen.{lesser_assoc, greater_assoc, fold_chosen, sum_from_left, product_from_left}

abbrev Tells : Figure → Option Ratio → Type 0
Tells measured o = Unit {0}
Tells undefined o = o ≡ None
Tells (inside r) o = o ≡ Some r
Tells (outside r) o = o ≡ Some r

bounded_tells : (r : Ratio) → Tells (figure_of r) (Some r)
bounded_tells r = go (in_bounds r)
  where
    go : (b : Bool) → Tells (if b then inside r else outside r) (Some r)
    go true = refl
    go false = refl

joined_tells : (give : Ratio → Figure) (f : Ratio → Ratio → Ratio) → ((r : Ratio) → Tells (give r) (Some r)) → (g h : Figure) (o p : Option Ratio) → Tells g o → Tells h p → Tells (joined give f g h) (both f o p)
joined_tells give f ok measured h o p d e = tt
joined_tells give f ok undefined measured o p d e = tt
joined_tells give f ok undefined undefined o p d e = rw d refl
joined_tells give f ok undefined (inside b) o p d e = rw d refl
joined_tells give f ok undefined (outside b) o p d e = rw d refl
joined_tells give f ok (inside a) measured o p d e = tt
joined_tells give f ok (inside a) undefined o p d e = rw (d, e) refl
joined_tells give f ok (inside a) (inside b) o p d e = rw (d, e) (ok (f a b))
joined_tells give f ok (inside a) (outside b) o p d e = rw (d, e) refl
joined_tells give f ok (outside a) measured o p d e = tt
joined_tells give f ok (outside a) undefined o p d e = rw (d, e) refl
joined_tells give f ok (outside a) (inside b) o p d e = rw (d, e) refl
joined_tells give f ok (outside a) (outside b) o p d e = rw (d, e) refl

negated_tells : (g : Figure) (o : Option Ratio) → Tells g o → Tells (negated g) (option_map neg o)
negated_tells measured o d = tt
negated_tells undefined o d = rw d refl
negated_tells (inside r) o d = rw d refl
negated_tells (outside r) o d = rw d refl

inside_tells : (o : Option Ratio) → Tells (inside_or o) o
inside_tells None = refl
inside_tells (Some r) = refl

outside_tells : (o : Option Ratio) → Tells (outside_or o) o
outside_tells None = refl
outside_tells (Some r) = refl

inverted_tells : (g : Figure) (o : Option Ratio) → Tells g o → Tells (inverted g) (inverse_of o)
inverted_tells measured o d = tt
inverted_tells undefined o d = rw d refl
inverted_tells (inside r) o d = rw d (inside_tells (reciprocal r))
inverted_tells (outside r) o d = rw d (outside_tells (reciprocal r))

module _ (m : Meaning) where
  abbrev IsTold : Calc → Type 0
  IsTold c = Tells (figure c) (value m c)

  figure-Num : (v : Ratio) (u : units.Unit) → figure (Num v u) ≡ figure_step (layer.Num v u)
  unfolding figure
  figure-Num v u = fold-Num figure_step v u

  value-Num : (v : Ratio) (u : units.Unit) → value m (Num v u) ≡ value_step m (layer.Num v u)
  unfolding value
  value-Num v u = fold-Num (value_step m) v u

  figure-Sum : (cs : List Calc) → figure (Sum cs) ≡ figure_step (layer.Sum (map figure cs))
  unfolding figure
  figure-Sum cs = fold-Sum figure_step cs

  value-Sum : (cs : List Calc) → value m (Sum cs) ≡ value_step m (layer.Sum (map (value m) cs))
  unfolding value
  value-Sum cs = fold-Sum (value_step m) cs

  figure-Product : (cs : List Calc) → figure (Product cs) ≡ figure_step (layer.Product (map figure cs))
  unfolding figure
  figure-Product cs = fold-Product figure_step cs

  value-Product : (cs : List Calc) → value m (Product cs) ≡ value_step m (layer.Product (map (value m) cs))
  unfolding value
  value-Product cs = fold-Product (value_step m) cs

  figure-Negate : (c : Calc) → figure (Negate c) ≡ figure_step (layer.Negate (figure c))
  unfolding figure
  figure-Negate c = fold-Negate figure_step c

  value-Negate : (c : Calc) → value m (Negate c) ≡ value_step m (layer.Negate (value m c))
  unfolding value
  value-Negate c = fold-Negate (value_step m) c

  figure-Invert : (c : Calc) → figure (Invert c) ≡ figure_step (layer.Invert (figure c))
  unfolding figure
  figure-Invert c = fold-Invert figure_step c

  value-Invert : (c : Calc) → value m (Invert c) ≡ value_step m (layer.Invert (value m c))
  unfolding value
  value-Invert c = fold-Invert (value_step m) c

  figure-Min : (cs : List Calc) → figure (Min cs) ≡ figure_step (layer.Min (map figure cs))
  unfolding figure
  figure-Min cs = fold-Min figure_step cs

  value-Min : (cs : List Calc) → value m (Min cs) ≡ value_step m (layer.Min (map (value m) cs))
  unfolding value
  value-Min cs = fold-Min (value_step m) cs

  figure-Max : (cs : List Calc) → figure (Max cs) ≡ figure_step (layer.Max (map figure cs))
  unfolding figure
  figure-Max cs = fold-Max figure_step cs

  value-Max : (cs : List Calc) → value m (Max cs) ≡ value_step m (layer.Max (map (value m) cs))
  unfolding value
  value-Max cs = fold-Max (value_step m) cs

  figure-Clamp : (a b c : Calc) → figure (Clamp a b c) ≡ figure_step (layer.Clamp (figure a) (figure b) (figure c))
  unfolding figure
  figure-Clamp a b c = fold-Clamp figure_step a b c

  value-Clamp : (a b c : Calc) → value m (Clamp a b c) ≡ value_step m (layer.Clamp (value m a) (value m b) (value m c))
  unfolding value
  value-Clamp a b c = fold-Clamp (value_step m) a b c

  told : (c : Calc) (g : Figure) (o : Option Ratio) → figure c ≡ g → value m c ≡ o → Tells g o → IsTold c
  told c g o e f h = rw (e, f) h

  unit_told : (v : Ratio) (u : units.Unit) → Tells (unit_figure v u) (Some (mul v (unit_value m u)))
  unit_told v u = go (same_unit u unit.Number) refl
    where
      go : (b : Bool) → same_unit u unit.Number ≡ b → Tells (if b then inside v else measured) (Some (mul v (unit_value m u)))
      go true e = ap (λ t. Some (mul v (unit_value m t))) (same_unit-true u unit.Number e) ∙ ap Some (mul_one v)
      go false e = tt

  row_told : (give : Ratio → Figure) (f : Ratio → Ratio → Ratio) → ((r : Ratio) → Tells (give r) (Some r)) → (g : Figure) (o : Option Ratio) (cs : List Calc) → Tells g o → Each IsTold cs → Tells (fold (joined give f) g (map figure cs)) (fold (both f) o (map (value m) cs))
  row_told give f ok g o [] d h = d
  row_told give f ok g o (c ∷ cs) d h = row_told give f ok (joined give f g (figure c)) (both f o (value m c)) cs (joined_tells give f ok g (figure c) o (value m c) d h.0) h.1

  chosen_told : (f : Ratio → Ratio → Ratio) → ((a b c : Ratio) → f (f a b) c ≡ f a (f b c)) → (cs : List Calc) → Each IsTold cs → Tells (chosen (joined inside f) (map figure cs)) (chosen_of f (map (value m) cs))
  chosen_told f assoc [] h = refl
  chosen_told f assoc (c ∷ cs) h =
      subst (λ o. Tells (fold (joined inside f) (figure c) (map figure cs)) o) (fold_chosen f assoc (value m c) (map (value m) cs))
      (row_told inside f (λ r. refl) (figure c) (value m c) cs h.0 h.1)

  all_told : (c : Calc) → IsTold c
  all_told = by_cases IsTold record {
    num = λ v u. told (Num v u) _ _ (figure-Num v u) (value-Num v u) (unit_told v u);
    sum = λ cs h. told (Sum cs) _ _ (figure-Sum cs) (value-Sum cs) (subst (λ o. Tells (fold added (inside zero_ratio) (map figure cs)) o) (sum_from_left (map (value m) cs)) (row_told figure_of add bounded_tells (inside zero_ratio) (Some zero_ratio) cs refl h));
    product = λ cs h. told (Product cs) _ _ (figure-Product cs) (value-Product cs) (subst (λ o. Tells (fold multiplied (inside one_ratio) (map figure cs)) o) (product_from_left (map (value m) cs)) (row_told figure_of mul bounded_tells (inside one_ratio) (Some one_ratio) cs refl h));
    negate = λ c h. told (Negate c) _ _ (figure-Negate c) (value-Negate c) (negated_tells (figure c) (value m c) h);
    invert = λ c h. told (Invert c) _ _ (figure-Invert c) (value-Invert c) (inverted_tells (figure c) (value m c) h);
    min = λ cs h. told (Min cs) _ _ (figure-Min cs) (value-Min cs) (chosen_told lesser lesser_assoc cs h);
    max = λ cs h. told (Max cs) _ _ (figure-Max cs) (value-Max cs) (chosen_told greater greater_assoc cs h);
    clamp = λ a b c h k l. told (Clamp a b c) _ _ (figure-Clamp a b c) (value-Clamp a b c)
        (joined_tells inside greater (λ r. refl) (figure a) (least (figure b) (figure c)) (value m a) (both lesser (value m b) (value m c)) h
        (joined_tells inside lesser (λ r. refl) (figure b) (figure c) (value m b) (value m c) k l));
  }

pub figures_are_values : FiguresAreValues
figures_are_values = record {
  inside_is = λ c r e m. subst (λ g. Tells g (value m c)) e (all_told m c);
  outside_is = λ c r e m. subst (λ g. Tells g (value m c)) e (all_told m c);
  undefined_is = λ c e m. subst (λ g. Tells g (value m c)) e (all_told m c);
}
