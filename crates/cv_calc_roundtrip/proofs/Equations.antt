-- The equations of what is counted of a calculation.
use Rattle.std.specs.Prelude.{true, ◌&&◌, List, [], ◌∷◌, ◌++◌, map}
use Rattle.std.proofs.Common.{◌≡◌, refl, sym, ◌∙◌, ap, ap₂}
use Rattle.cv_spec_ratio.specs.Ratio.{Ratio}
use Rattle.cv_frac.specs.Bounded.{in_bounds}
use Rattle.cv_calc.specs.declared.unit.Unit as units
use Rattle.cv_calc.specs.declared.context.Context.{Context}
use Rattle.cv_calc.specs.declared.calc.Calc.{Calc}
use Rattle.cv_calc.specs.declared.calc.Calc.TheVariants as tree
use Rattle.cv_calc.specs.declared.calc.Calc.TheOpen.{Num, Sum, Product, Negate, Invert, Min, Max, Clamp}
use Rattle.cv_simplify.specs.Simplified.{simp, simp_step}
use Rattle.cv_calc.specs.Tree.{Each, by_cases, fold-Num, fold-Sum, fold-Product, fold-Negate, fold-Invert, fold-Min, fold-Max, fold-Clamp}
use Rattle.cv_calc.specs.Value.{Meaning, value, value_step, product_of, chosen_of, both}
use Rattle.cv_spec_ratio.specs.Order.{lesser, greater}
use Rattle.cv_simplify.specs.Counted.{Counted, counted, counted_step, inside, inside_step, all_inside}
use Rattle.cv_calc_roundtrip.proofs.Digits.{and_true, both_true}

module _ (y : Context) where
  pub counted-Num : (v : Ratio) (u : units.Unit) → counted y (tree.Num v u) ≡ counted_step y (Num v u)
  unfolding counted
  counted-Num v u = fold-Num (counted_step y) v u

  pub counted-Sum : (cs : List Calc) → counted y (tree.Sum cs) ≡ counted_step y (Sum (map (counted y) cs))
  unfolding counted
  counted-Sum cs = fold-Sum (counted_step y) cs

  pub counted-Product : (cs : List Calc) → counted y (tree.Product cs) ≡ counted_step y (Product (map (counted y) cs))
  unfolding counted
  counted-Product cs = fold-Product (counted_step y) cs

  pub counted-Negate : (c : Calc) → counted y (tree.Negate c) ≡ counted_step y (Negate (counted y c))
  unfolding counted
  counted-Negate c = fold-Negate (counted_step y) c

  pub counted-Invert : (c : Calc) → counted y (tree.Invert c) ≡ counted_step y (Invert (counted y c))
  unfolding counted
  counted-Invert c = fold-Invert (counted_step y) c

  pub counted-Min : (cs : List Calc) → counted y (tree.Min cs) ≡ counted_step y (Min (map (counted y) cs))
  unfolding counted
  counted-Min cs = fold-Min (counted_step y) cs

  pub counted-Max : (cs : List Calc) → counted y (tree.Max cs) ≡ counted_step y (Max (map (counted y) cs))
  unfolding counted
  counted-Max cs = fold-Max (counted_step y) cs

  pub counted-Clamp : (a b c : Calc) → counted y (tree.Clamp a b c) ≡ counted_step y (Clamp (counted y a) (counted y b) (counted y c))
  unfolding counted
  counted-Clamp a b c = fold-Clamp (counted_step y) a b c

-- what is counted beside the simplified form is that form
module _ (y : Context) where
  abbrev IsSimple : Calc → Type 0
  IsSimple c = (counted y c).simple ≡ simp y c

  all_simple : (cs : List Calc) → Each IsSimple cs → map (λ (k : Counted). k.simple) (map (counted y) cs) ≡ map (simp y) cs
  all_simple [] h = refl
  all_simple (c ∷ cs) h = ap₂ (λ (d : Calc) (ds : List Calc). d ∷ ds) h.0 (all_simple cs h.1)

  pub counted_simple : (c : Calc) → (counted y c).simple ≡ simp y c
  unfolding simp
  counted_simple = by_cases IsSimple (record {
    num = λ v u. ap (λ (k : Counted). k.simple) (counted-Num y v u) ∙ sym (fold-Num (simp_step y) v u);
    sum = λ cs h. ap (λ (k : Counted). k.simple) (counted-Sum y cs) ∙ ap (λ ds. simp_step y (Sum ds)) (all_simple cs h) ∙ sym (fold-Sum (simp_step y) cs);
    product = λ cs h. ap (λ (k : Counted). k.simple) (counted-Product y cs) ∙ ap (λ ds. simp_step y (Product ds)) (all_simple cs h) ∙ sym (fold-Product (simp_step y) cs);
    negate = λ c h. ap (λ (k : Counted). k.simple) (counted-Negate y c) ∙ ap (λ d. simp_step y (Negate d)) h ∙ sym (fold-Negate (simp_step y) c);
    invert = λ c h. ap (λ (k : Counted). k.simple) (counted-Invert y c) ∙ ap (λ d. simp_step y (Invert d)) h ∙ sym (fold-Invert (simp_step y) c);
    min = λ cs h. ap (λ (k : Counted). k.simple) (counted-Min y cs) ∙ ap (λ ds. simp_step y (Min ds)) (all_simple cs h) ∙ sym (fold-Min (simp_step y) cs);
    max = λ cs h. ap (λ (k : Counted). k.simple) (counted-Max y cs) ∙ ap (λ ds. simp_step y (Max ds)) (all_simple cs h) ∙ sym (fold-Max (simp_step y) cs);
    clamp = λ a b c h k l. ap (λ (n : Counted). n.simple) (counted-Clamp y a b c)
        ∙ ap (λ d. simp_step y (Clamp d (counted y b).simple (counted y c).simple)) h
        ∙ ap (λ d. simp_step y (Clamp (simp y a) d (counted y c).simple)) k
        ∙ ap (λ d. simp_step y (Clamp (simp y a) (simp y b) d)) l
        ∙ sym (fold-Clamp (simp_step y) a b c);
  })

pub inside-Num : (v : Ratio) (u : units.Unit) → inside (tree.Num v u) ≡ in_bounds v
unfolding inside
inside-Num v u = fold-Num inside_step v u

pub inside-Sum : (cs : List Calc) → inside (tree.Sum cs) ≡ all_inside cs
unfolding inside
inside-Sum cs = fold-Sum inside_step cs

pub inside-Product : (cs : List Calc) → inside (tree.Product cs) ≡ all_inside cs
unfolding inside
inside-Product cs = fold-Product inside_step cs

pub inside-Negate : (c : Calc) → inside (tree.Negate c) ≡ inside c
unfolding inside
inside-Negate c = fold-Negate inside_step c

pub inside-Min : (cs : List Calc) → inside (tree.Min cs) ≡ all_inside cs
unfolding inside
inside-Min cs = fold-Min inside_step cs

pub inside-Max : (cs : List Calc) → inside (tree.Max cs) ≡ all_inside cs
unfolding inside
inside-Max cs = fold-Max inside_step cs

pub inside-Clamp : (a b c : Calc) → inside (tree.Clamp a b c) ≡ (inside a && inside b && inside c)
unfolding inside
inside-Clamp a b c = fold-Clamp inside_step a b c

pub inside_append : (xs ys : List Calc) → all_inside xs ≡ true → all_inside ys ≡ true → all_inside (xs ++ ys) ≡ true
inside_append [] ys h k = k
inside_append (x ∷ xs) ys h k = let p = and_true (inside x) (all_inside xs) h in both_true (inside x) (all_inside (xs ++ ys)) p.0 (inside_append xs ys p.1 k)

module _ (m : Meaning) where
  pub value-Product : (cs : List Calc) → value m (tree.Product cs) ≡ product_of (map (value m) cs)
  unfolding value
  value-Product cs = fold-Product (value_step m) cs

  pub value-Min : (cs : List Calc) → value m (tree.Min cs) ≡ chosen_of lesser (map (value m) cs)
  unfolding value
  value-Min cs = fold-Min (value_step m) cs

  pub value-Max : (cs : List Calc) → value m (tree.Max cs) ≡ chosen_of greater (map (value m) cs)
  unfolding value
  value-Max cs = fold-Max (value_step m) cs

  pub value-Clamp : (a b c : Calc) → value m (tree.Clamp a b c) ≡ both greater (value m a) (both lesser (value m b) (value m c))
  unfolding value
  value-Clamp a b c = fold-Clamp (value_step m) a b c
