-- What is made step by step is the simplified form exactly where the calculation is in range.
use Rattle.std.specs.Prelude.{Bool, true, false, ◌&&◌, List, [], ◌∷◌, fold, map, Option, Some, None, option_map, if◌then◌else◌}
use Rattle.std.specs.Option.{option_and_then}
use Rattle.std.proofs.Common.{◌≡◌, refl, sym, ◌∙◌, ap, ap₂}
use Rattle.cv_spec_ratio.specs.Ratio.{Ratio, mul}
use Rattle.cv_spec_ratio.specs.Order.{lesser, greater}
use Rattle.cv_frac.specs.Bounded.{in_bounds}
use Rattle.cv_calc.specs.Factor.{canonical, factor, hundredth, sizes_of}
use Rattle.cv_calc.specs.declared.unit.Unit as units
use Rattle.cv_calc.specs.declared.unit.Unit.TheVariants.{Percent, Px}
use Rattle.cv_calc.specs.declared.context.Basis.{Basis}
use Rattle.cv_calc.specs.declared.context.Basis.TheVariants.{Plain, Length, Of}
use Rattle.cv_calc.specs.declared.context.Context.{Context}
use Rattle.cv_calc.specs.declared.calc.Calc.{Calc}
use Rattle.cv_calc.specs.declared.calc.Calc.TheVariants as tree
use Rattle.cv_calc.specs.declared.calc.Calc.TheOpen.{Calc-F}
use Rattle.cv_calc.specs.declared.calc.Calc.TheViews.{out-Calc, roll-Calc, roll-out-Calc}
use Rattle.cv_calc.specs.declared.calc.Calc.TheFolds.{fold-roll-Calc, map-Calc}
use Rattle.cv_calc.specs.Tree.{Each, by_cases, fold-Num, fold-Sum, fold-Product, fold-Negate, fold-Invert, fold-Min, fold-Max, fold-Clamp}
use Rattle.cv_simplify.specs.declared.joining.Joining.{Joining}
use Rattle.cv_simplify.specs.declared.joining.Joining.TheVariants as joining
use Rattle.cv_simplify.specs.declared.factors.Factors.{Factors}
use Rattle.cv_simplify.specs.declared.factors.Factors.TheVariants.{Plain}
use Rattle.cv_simplify.specs.Counted.{inside, all_inside, Counted, counted, counted_step, counted_below, simple_of, is_in_range, children_in_range, prefixes_inside}
use Rattle.cv_simplify.specs.Simplified.{percent_in, number_in, negated, inverted, one_or, with_terms_of, sum_row, summed, factors_of, with_factors_of, product_as, multiplied, compares_percent, may_compare, choice_row, clamped, simp, simp_step}
use Rattle.cv_simplify.specs.Checked.{only_if, within, number_within, percent_within, with_simple, with_term, further, with_factor, with_child, shown, is_shown, clamped_within, checked}
use Rattle.cv_simplify.proofs.Folds.{stays}
use Rattle.cv_simplify.proofs.Steps.{checked-Num, checked-Sum, checked-Product, checked-Negate, checked-Invert, checked-Min, checked-Max, checked-Clamp}
use Rattle.cv_simplify.proofs.Settled.{simp_settled}
use Rattle.cv_simplify.proofs.InRange.{inside-Num, inside-Min, inside-Max, and_true, both_true, option_only_if, further_row, term_checked}
use Rattle.cv_simplify.proofs.SumRange.{child_checked, rows_inside, inside_summed, sum_prefixes, last_inside}
use Rattle.cv_simplify.proofs.ProductRange.{row_of, IsGood, child_row, shown_is, is_shown_if, products_inside, product_prefixes}
use Rattle.cv_simplify.proofs.Bounds.{inside_negated, inside_inverted, inside_clamped, lesser_in, greater_in, chosen_row}

module _ (x : Context) where
  abbrev in_range : Calc → Bool
  in_range c = is_in_range x c

  abbrev all_ranges : List Calc → Bool
  all_ranges cs = children_in_range (map (counted x) cs)

  -- ---- what is counted

  counted-roll : (l : Calc-F Calc) → counted x (roll-Calc l) ≡ counted_step x (map-Calc Calc Counted (counted x) l)
  unfolding counted
  counted-roll l = fold-roll-Calc Counted (counted_step x) l

  step_inside : (y : Calc-F Counted) → (counted_step x y).in_range ≡ true → inside (counted_step x y).simple ≡ true
  step_inside y h = (and_true (counted_below y) (inside (simp_step x (simple_of y))) h).1

  -- what is in range has its simplified form within bounds
  range_inside : (c : Calc) → in_range c ≡ true → inside (counted x c).simple ≡ true
  range_inside c h =
      let is : counted x c ≡ counted_step x (map-Calc Calc Counted (counted x) (out-Calc c)) = ap (counted x) (sym (roll-out-Calc c)) ∙ counted-roll (out-Calc c) in
      ap (λ (p : Counted). inside p.simple) is ∙ step_inside (map-Calc Calc Counted (counted x) (out-Calc c)) (sym (ap (λ (p : Counted). p.in_range) is) ∙ h)

  record IsChecked (c : Calc) : Type 0 where
    simple : (counted x c).simple ≡ simp x c
    made : checked x c ≡ only_if (in_range c) (simp x c)

  simple_inside : (c : Calc) → IsChecked c → in_range c ≡ true → inside (simp x c) ≡ true
  simple_inside c h r = sym (ap inside h.simple) ∙ range_inside c r

  simples : (cs : List Calc) → Each IsChecked cs → map (λ (p : Counted). p.simple) (map (counted x) cs) ≡ map (simp x) cs
  simples [] h = refl
  simples (c ∷ cs) h = ap₂ (λ d ds. d ∷ ds) h.0.simple (simples cs h.1)

  -- ---- tests

  absorbs : (a b c : Bool) → (a ≡ true → b ≡ true → c ≡ true) → ((a && b) && c) ≡ (a && b)
  absorbs true true c h = h refl refl
  absorbs true false c h = refl
  absorbs false b c h = refl

  absorbs_one : (a c : Bool) → (a ≡ true → c ≡ true) → (a && c) ≡ a
  absorbs_one true c h = h refl
  absorbs_one false c h = refl

  all_simple_inside : (cs : List Calc) → Each IsChecked cs → all_ranges cs ≡ true → all_inside (map (simp x) cs) ≡ true
  all_simple_inside [] h r = refl
  all_simple_inside (c ∷ cs) h r =
      let parts = and_true (in_range c) (all_ranges cs) r in
      both_true (inside (simp x c)) _ (simple_inside c h.0 parts.0) (all_simple_inside cs h.1 parts.1)

  -- ---- a sum

  sum_steps : (row cs : List Calc) → Each IsChecked cs → all_inside row ≡ true →
      fold (further (with_simple joining.Sum)) (Some row) (map (checked x) cs) ≡ only_if (all_ranges cs && rows_inside row (map (simp x) cs)) (fold with_terms_of row (map (simp x) cs))
  sum_steps row [] h k = refl
  sum_steps row (c ∷ cs) h k =
      ap (λ o. fold (further (with_simple joining.Sum)) (further (with_simple joining.Sum) (Some row) o) (map (checked x) cs)) h.0.made
      ∙ go (in_range c) refl (λ is. sum_steps (with_terms_of row (simp x c)) cs h.1 is)
    where
      next : List Calc
      next = with_terms_of row (simp x c)

      last : List Calc
      last = fold with_terms_of next (map (simp x) cs)

      nothing : (b : Bool) → fold (further (with_simple joining.Sum)) None (map (checked x) cs) ≡ only_if (b && false) last
      nothing true = stays (further (with_simple joining.Sum)) None (λ a. refl) (map (checked x) cs)
      nothing false = stays (further (with_simple joining.Sum)) None (λ a. refl) (map (checked x) cs)

      then_on : (b : Bool) → all_inside next ≡ b →
          (all_inside next ≡ true → fold (further (with_simple joining.Sum)) (Some next) (map (checked x) cs) ≡ only_if (all_ranges cs && rows_inside next (map (simp x) cs)) last) →
          fold (further (with_simple joining.Sum)) (only_if b next) (map (checked x) cs) ≡ only_if (all_ranges cs && (b && rows_inside next (map (simp x) cs))) last
      then_on true is ih = ih is
      then_on false is ih = nothing (all_ranges cs)

      go : (r : Bool) → in_range c ≡ r →
          (all_inside next ≡ true → fold (further (with_simple joining.Sum)) (Some next) (map (checked x) cs) ≡ only_if (all_ranges cs && rows_inside next (map (simp x) cs)) last) →
          fold (further (with_simple joining.Sum)) (further (with_simple joining.Sum) (Some row) (only_if r (simp x c))) (map (checked x) cs)
          ≡ only_if ((r && all_ranges cs) && (all_inside next && rows_inside next (map (simp x) cs))) last
      go false is ih = stays (further (with_simple joining.Sum)) None (λ a. refl) (map (checked x) cs)
      go true is ih =
          ap (λ o. fold (further (with_simple joining.Sum)) o (map (checked x) cs)) (child_checked row (simp x c) k (simple_inside c h.0 is) (simp_settled x c))
          ∙ then_on (all_inside next) refl ih

  sum_range : (cs : List Calc) → Each IsChecked cs → in_range (tree.Sum cs) ≡ (all_ranges cs && rows_inside [] (map (simp x) cs))
  unfolding counted
  sum_range cs h =
      ap (λ (p : Counted). p.in_range) (fold-Sum (counted_step x) cs)
      ∙ ap (λ ds. (all_ranges cs && prefixes_inside summed ds) && inside (summed ds)) (simples cs h)
      ∙ ap₂ (λ a b. (all_ranges cs && a) && b) (sum_prefixes (map (simp x) cs)) (inside_summed (map (simp x) cs))
      ∙ absorbs (all_ranges cs) (rows_inside [] (map (simp x) cs)) (all_inside (sum_row (map (simp x) cs))) (λ _ r. last_inside [] (map (simp x) cs) refl r)

  sum_checked : (cs : List Calc) → Each IsChecked cs → IsChecked (tree.Sum cs)
  unfolding simp counted
  sum_checked cs h = record {
    simple = ap (λ (p : Counted). p.simple) (fold-Sum (counted_step x) cs) ∙ ap summed (simples cs h) ∙ sym (fold-Sum (simp_step x) cs);
    made = checked-Sum x cs ∙ ap (option_map (one_or tree.Sum)) (sum_steps [] cs h refl)
        ∙ option_only_if (one_or tree.Sum) _ _
        ∙ ap₂ only_if (sym (sum_range cs h)) (sym (fold-Sum (simp_step x) cs));
  }

  -- ---- the least and the greatest

  module _ (how : Joining) (plain : (row : List Calc) (c : Calc) → with_simple how row c ≡ with_term how row c)
      (keeps : (row : List Calc) (d : Calc) → all_inside row ≡ true → inside d ≡ true → all_inside (further_row how row d) ≡ true) where
    rows_chosen : (row ds : List Calc) → all_inside row ≡ true → all_inside ds ≡ true → all_inside (fold (further_row how) row ds) ≡ true
    rows_chosen row [] h k = h
    rows_chosen row (d ∷ ds) h k =
        let parts = and_true (inside d) (all_inside ds) k in
        rows_chosen (further_row how row d) ds (keeps row d h parts.0) parts.1

    chosen_steps : (row cs : List Calc) → Each IsChecked cs → all_inside row ≡ true →
        fold (further (with_simple how)) (Some row) (map (checked x) cs) ≡ only_if (all_ranges cs) (fold (further_row how) row (map (simp x) cs))
    chosen_steps row [] h k = refl
    chosen_steps row (c ∷ cs) h k =
        ap (λ o. fold (further (with_simple how)) (further (with_simple how) (Some row) o) (map (checked x) cs)) h.0.made
        ∙ go (in_range c) refl (λ is. chosen_steps (further_row how row (simp x c)) cs h.1 is)
      where
        next : List Calc
        next = further_row how row (simp x c)

        go : (r : Bool) → in_range c ≡ r →
            (all_inside next ≡ true → fold (further (with_simple how)) (Some next) (map (checked x) cs) ≡ only_if (all_ranges cs) (fold (further_row how) next (map (simp x) cs))) →
            fold (further (with_simple how)) (further (with_simple how) (Some row) (only_if r (simp x c))) (map (checked x) cs)
            ≡ only_if (r && all_ranges cs) (fold (further_row how) next (map (simp x) cs))
        go false is ih = stays (further (with_simple how)) None (λ a. refl) (map (checked x) cs)
        go true is ih =
            let kept = keeps row (simp x c) k (simple_inside c h.0 is) in
            ap (λ o. fold (further (with_simple how)) o (map (checked x) cs))
            (plain row (simp x c) ∙ term_checked how row (simp x c) k (simple_inside c h.0 is) ∙ ap (λ b. only_if b next) kept)
            ∙ ih kept

  inside_node : (node : List Calc → Calc) → ((cs : List Calc) → inside (node cs) ≡ all_inside cs) → (row : List Calc) → all_inside row ≡ true → inside (one_or node row) ≡ true
  inside_node node is [] h = is [] ∙ h
  inside_node node is (c ∷ []) h = (and_true (inside c) true h).0
  inside_node node is (c ∷ d ∷ cs) h = is (c ∷ d ∷ cs) ∙ h

  keeps_least : (row : List Calc) (d : Calc) → all_inside row ≡ true → inside d ≡ true → all_inside (further_row (joining.Least (compares_percent x.basis)) row d) ≡ true
  keeps_least row d h k = chosen_row (may_compare (compares_percent x.basis)) lesser lesser_in row d h k

  keeps_greatest : (row : List Calc) (d : Calc) → all_inside row ≡ true → inside d ≡ true → all_inside (further_row (joining.Greatest (compares_percent x.basis)) row d) ≡ true
  keeps_greatest row d h k = chosen_row (may_compare (compares_percent x.basis)) greater greater_in row d h k

  min_checked : (cs : List Calc) → Each IsChecked cs → IsChecked (tree.Min cs)
  unfolding simp counted
  min_checked cs h =
      let range : in_range (tree.Min cs) ≡ all_ranges cs =
      ap (λ (p : Counted). p.in_range) (fold-Min (counted_step x) cs)
      ∙ ap (λ ds. all_ranges cs && inside (one_or tree.Min (choice_row (compares_percent x.basis) lesser ds))) (simples cs h)
      ∙ absorbs_one (all_ranges cs) _ (λ r. inside_node tree.Min inside-Min _ (rows_chosen (joining.Least (compares_percent x.basis)) (λ row c. refl) keeps_least [] (map (simp x) cs) refl (all_simple_inside cs h r))) in
      record {
        simple = ap (λ (p : Counted). p.simple) (fold-Min (counted_step x) cs) ∙ ap (λ ds. one_or tree.Min (choice_row (compares_percent x.basis) lesser ds)) (simples cs h) ∙ sym (fold-Min (simp_step x) cs);
        made = checked-Min x cs ∙ ap (option_map (one_or tree.Min)) (chosen_steps (joining.Least (compares_percent x.basis)) (λ row c. refl) keeps_least [] cs h refl)
            ∙ option_only_if (one_or tree.Min) _ _
            ∙ ap₂ only_if (sym range) (sym (fold-Min (simp_step x) cs));
      }

  max_checked : (cs : List Calc) → Each IsChecked cs → IsChecked (tree.Max cs)
  unfolding simp counted
  max_checked cs h =
      let range : in_range (tree.Max cs) ≡ all_ranges cs =
      ap (λ (p : Counted). p.in_range) (fold-Max (counted_step x) cs)
      ∙ ap (λ ds. all_ranges cs && inside (one_or tree.Max (choice_row (compares_percent x.basis) greater ds))) (simples cs h)
      ∙ absorbs_one (all_ranges cs) _ (λ r. inside_node tree.Max inside-Max _ (rows_chosen (joining.Greatest (compares_percent x.basis)) (λ row c. refl) keeps_greatest [] (map (simp x) cs) refl (all_simple_inside cs h r))) in
      record {
        simple = ap (λ (p : Counted). p.simple) (fold-Max (counted_step x) cs) ∙ ap (λ ds. one_or tree.Max (choice_row (compares_percent x.basis) greater ds)) (simples cs h) ∙ sym (fold-Max (simp_step x) cs);
        made = checked-Max x cs ∙ ap (option_map (one_or tree.Max)) (chosen_steps (joining.Greatest (compares_percent x.basis)) (λ row c. refl) keeps_greatest [] cs h refl)
            ∙ option_only_if (one_or tree.Max) _ _
            ∙ ap₂ only_if (sym range) (sym (fold-Max (simp_step x) cs));
      }

  -- ---- a product

  product_steps : (fs : Factors) (cs : List Calc) → Each IsChecked cs → IsGood fs →
      option_and_then shown (fold (further with_child) (Some fs) (map (checked x) cs))
      ≡ only_if ((all_ranges cs && products_inside (row_of fs) (map (simp x) cs)) && inside (product_as (fold with_factors_of (row_of fs) (map (simp x) cs)))) (product_as (fold with_factors_of (row_of fs) (map (simp x) cs)))
  product_steps fs [] h good = shown_is fs good
  product_steps fs (c ∷ cs) h good =
      ap (λ o. option_and_then shown (fold (further with_child) (further with_child (Some fs) o) (map (checked x) cs))) h.0.made
      ∙ go (in_range c) refl (λ is. product_steps next cs h.1 (child_row fs (simp x c) (simple_inside c h.0 is) good).1)
    where
      next : Factors
      next = fold with_factor fs (factors_of (simp x c))

      row : List Calc
      row = with_factors_of (row_of fs) (simp x c)

      last : List Calc → Calc
      last r = product_as (fold with_factors_of r (map (simp x) cs))

      claim : List Calc → Option Calc
      claim r = only_if ((all_ranges cs && products_inside r (map (simp x) cs)) && inside (last r)) (last r)

      none : option_and_then shown (fold (further with_child) None (map (checked x) cs)) ≡ None
      none = ap (option_and_then shown) (stays (further with_child) None (λ a. refl) (map (checked x) cs))

      nothing : (a : Bool) → option_and_then shown (fold (further with_child) None (map (checked x) cs)) ≡ only_if ((a && false) && inside (last row)) (last row)
      nothing true = none
      nothing false = none

      then_on : (b : Bool) → option_and_then shown (fold (further with_child) (Some next) (map (checked x) cs)) ≡ claim row →
          option_and_then shown (fold (further with_child) (only_if b next) (map (checked x) cs)) ≡ only_if ((all_ranges cs && (b && products_inside row (map (simp x) cs))) && inside (last row)) (last row)
      then_on true ih = ih
      then_on false ih = nothing (all_ranges cs)

      go : (r : Bool) → in_range c ≡ r →
          (in_range c ≡ true → option_and_then shown (fold (further with_child) (Some next) (map (checked x) cs)) ≡ claim (row_of next)) →
          option_and_then shown (fold (further with_child) (further with_child (Some fs) (only_if r (simp x c))) (map (checked x) cs))
          ≡ only_if (((r && all_ranges cs) && (inside (product_as row) && products_inside row (map (simp x) cs))) && inside (last row)) (last row)
      go false is ih = none
      go true is ih =
          let child = child_row fs (simp x c) (simple_inside c h.0 is) good in
          let shows : is_shown (shown next) ≡ inside (product_as row) =
          ap is_shown (shown_is next child.1) ∙ is_shown_if _ _ ∙ ap (λ r. inside (product_as r)) child.0 in
          ap (λ b. option_and_then shown (fold (further with_child) (only_if b next) (map (checked x) cs))) shows
          ∙ then_on (inside (product_as row)) (ih is ∙ ap claim child.0)

  product_range : (cs : List Calc) → Each IsChecked cs →
      in_range (tree.Product cs) ≡ ((all_ranges cs && products_inside [] (map (simp x) cs)) && inside (multiplied (map (simp x) cs)))
  unfolding counted
  product_range cs h =
      ap (λ (p : Counted). p.in_range) (fold-Product (counted_step x) cs)
      ∙ ap (λ ds. (all_ranges cs && prefixes_inside multiplied ds) && inside (multiplied ds)) (simples cs h)
      ∙ ap (λ a. (all_ranges cs && a) && inside (multiplied (map (simp x) cs))) (product_prefixes (map (simp x) cs))

  product_checked : (cs : List Calc) → Each IsChecked cs → IsChecked (tree.Product cs)
  unfolding simp counted
  product_checked cs h = record {
    simple = ap (λ (p : Counted). p.simple) (fold-Product (counted_step x) cs) ∙ ap multiplied (simples cs h) ∙ sym (fold-Product (simp_step x) cs);
    made = checked-Product x cs ∙ product_steps (Plain []) cs h (tt, refl)
        ∙ ap₂ only_if (sym (product_range cs h)) (sym (fold-Product (simp_step x) cs));
  }

  -- ---- the other nodes

  negate_checked : (c : Calc) → IsChecked c → IsChecked (tree.Negate c)
  unfolding simp counted
  negate_checked c h =
      let range : in_range (tree.Negate c) ≡ in_range c =
      ap (λ (p : Counted). p.in_range) (fold-Negate (counted_step x) c)
      ∙ absorbs_one (in_range c) _ (λ r. inside_negated (counted x c).simple (range_inside c r)) in
      record {
        simple = ap (λ (p : Counted). p.simple) (fold-Negate (counted_step x) c) ∙ ap negated h.simple ∙ sym (fold-Negate (simp_step x) c);
        made = checked-Negate x c ∙ ap (option_map negated) h.made ∙ option_only_if negated (in_range c) (simp x c)
            ∙ ap₂ only_if (sym range) (sym (fold-Negate (simp_step x) c));
      }

  invert_checked : (c : Calc) → IsChecked c → IsChecked (tree.Invert c)
  unfolding simp counted
  invert_checked c h =
      let range : in_range (tree.Invert c) ≡ in_range c =
      ap (λ (p : Counted). p.in_range) (fold-Invert (counted_step x) c)
      ∙ absorbs_one (in_range c) _ (λ r. inside_inverted (counted x c).simple (range_inside c r)) in
      record {
        simple = ap (λ (p : Counted). p.simple) (fold-Invert (counted_step x) c) ∙ ap inverted h.simple ∙ sym (fold-Invert (simp_step x) c);
        made = checked-Invert x c ∙ ap (option_map inverted) h.made ∙ option_only_if inverted (in_range c) (simp x c)
            ∙ ap₂ only_if (sym range) (sym (fold-Invert (simp_step x) c));
      }

  all_three : (p : Bool) (a b c : Bool) (k l m : Calc) → clamped_within p (only_if a k) (only_if b l) (only_if c m) ≡ only_if (a && b && c) (clamped p k l m)
  all_three p true true true k l m = refl
  all_three p true true false k l m = refl
  all_three p true false c k l m = refl
  all_three p false b c k l m = refl

  clamp_checked : (a b c : Calc) → IsChecked a → IsChecked b → IsChecked c → IsChecked (tree.Clamp a b c)
  unfolding simp counted
  clamp_checked a b c h k l =
      let simple : clamped (compares_percent x.basis) (counted x a).simple (counted x b).simple (counted x c).simple ≡ clamped (compares_percent x.basis) (simp x a) (simp x b) (simp x c) =
      ap₂ (λ s t. clamped (compares_percent x.basis) s t (counted x c).simple) h.simple k.simple ∙ ap (clamped (compares_percent x.basis) (simp x a) (simp x b)) l.simple in
      let range : in_range (tree.Clamp a b c) ≡ (in_range a && in_range b && in_range c) =
      ap (λ (p : Counted). p.in_range) (fold-Clamp (counted_step x) a b c)
      ∙ absorbs_one (in_range a && in_range b && in_range c) _ (λ r.
      let first = and_true (in_range a && in_range b) (in_range c) r in
      let second = and_true (in_range a) (in_range b) first.0 in
      inside_clamped (compares_percent x.basis) _ _ _ (range_inside a second.0) (range_inside b second.1) (range_inside c first.1)) in
      record {
        simple = ap (λ (p : Counted). p.simple) (fold-Clamp (counted_step x) a b c) ∙ simple ∙ sym (fold-Clamp (simp_step x) a b c);
        made = checked-Clamp x a b c
            ∙ ap₂ (λ s t. clamped_within (compares_percent x.basis) s t (checked x c)) h.made k.made ∙ ap (clamped_within (compares_percent x.basis) (only_if (in_range a) (simp x a)) (only_if (in_range b) (simp x b))) l.made
            ∙ all_three (compares_percent x.basis) (in_range a) (in_range b) (in_range c) (simp x a) (simp x b) (simp x c)
            ∙ ap₂ only_if (sym range) (sym (fold-Clamp (simp_step x) a b c));
      }

  -- ---- a number

  number_made : (r : Ratio) (t : units.Unit) → option_map (λ s. tree.Num s t) (within r) ≡ only_if (inside (tree.Num r t)) (tree.Num r t)
  number_made r t = option_only_if (λ s. tree.Num s t) (in_bounds r) r ∙ ap (λ b. only_if b (tree.Num r t)) (sym (inside-Num r t))

  percent_made : (b : Basis) (v : Ratio) → in_bounds v ≡ true → percent_within b v ≡ only_if (inside (percent_in b v)) (percent_in b v)
  percent_made Plain v h = sym (ap (λ b. only_if b (tree.Num v Percent)) (inside-Num v Percent ∙ h))
  percent_made Length v h = sym (ap (λ b. only_if b (tree.Num v Percent)) (inside-Num v Percent ∙ h))
  percent_made (Of f) v h = number_made (mul v (mul f hundredth)) Px

  literal_made : (v : Ratio) (u : units.Unit) → in_bounds v ≡ true → number_within x v u ≡ only_if (inside (number_in x v u)) (number_in x v u)
  literal_made v Percent h = percent_made x.basis v h
  literal_made v u h = number_made (mul v (factor (sizes_of x) u)) (canonical u)

  num_checked : (v : Ratio) (u : units.Unit) → IsChecked (tree.Num v u)
  unfolding simp counted
  num_checked v u = record {
    simple = ap (λ (p : Counted). p.simple) (fold-Num (counted_step x) v u) ∙ sym (fold-Num (simp_step x) v u);
    made = checked-Num x v u ∙ go (in_bounds v) refl
        ∙ ap₂ only_if (sym (ap (λ (p : Counted). p.in_range) (fold-Num (counted_step x) v u))) (sym (fold-Num (simp_step x) v u));
  }
    where
      go : (b : Bool) → in_bounds v ≡ b → (if b then number_within x v u else None) ≡ only_if (b && inside (number_in x v u)) (number_in x v u)
      go true is = literal_made v u is
      go false is = refl

  -- ---- the whole

  every : (c : Calc) → IsChecked c
  every = by_cases IsChecked (record {
    num = num_checked;
    sum = sum_checked;
    product = product_checked;
    negate = negate_checked;
    invert = invert_checked;
    min = min_checked;
    max = max_checked;
    clamp = clamp_checked;
  })

  only_in_range : (c : Calc) → checked x c ≡ only_if (in_range c) (simp x c)
  only_in_range c = (every c).made

  both_ways : (b : Bool) (d s : Calc) → only_if b d ≡ Some s → (b ≡ true) × (s ≡ d)
  both_ways true d s h = (refl, cc)
  both_ways false d s h = cc

  neither : (b : Bool) (d : Calc) → only_if b d ≡ None → b ≡ false
  neither true d h = cc
  neither false d h = refl

  -- where there is a simplified form it is this one, and the calculation is in range; and else it isn't
  pub made_simple : (c s : Calc) → checked x c ≡ Some s → (in_range c ≡ true) × (s ≡ simp x c)
  made_simple c s h = both_ways (in_range c) (simp x c) s (sym (only_in_range c) ∙ h)

  pub made_none : (c : Calc) → checked x c ≡ None → in_range c ≡ false
  made_none c h = neither (in_range c) (simp x c) (sym (only_in_range c) ∙ h)
