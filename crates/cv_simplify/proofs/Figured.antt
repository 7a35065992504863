-- The figure of a calculation of numbers alone tells its simplified form, and whether each fraction that is counted is in bounds.
use Rattle.std.specs.Prelude.{Bool, true, false, ◌&&◌, List, [], ◌∷◌, map, Option, Some, None, option_map, if◌then◌else◌}
use Rattle.std.proofs.Common.{◌≡◌, refl, sym, ◌∙◌, ap, subst}
use Rattle.cv_spec_ratio.specs.Ratio.{Ratio}
use Rattle.cv_spec_ratio.proofs.Laws.{mul_one}
use Rattle.cv_frac.specs.Bounded.{in_bounds}
use Rattle.cv_calc.specs.declared.unit.NumType.{NumType}
use Rattle.cv_calc.specs.declared.unit.Unit as units
use Rattle.cv_calc.specs.declared.unit.Unit.TheVariants.{Number}
use Rattle.cv_calc.specs.declared.context.Context.{Context}
use Rattle.cv_calc.specs.declared.calc.Calc.{Calc}
use Rattle.cv_calc.specs.declared.calc.Calc.TheVariants.{Num, Sum, Product, Negate, Invert, Min, Max, Clamp}
use Rattle.cv_calc.specs.Numbers as numbers
use Rattle.cv_calc.specs.Numbers.{Figure, figure, figure_step, measured, undefined, figure_of, joined, unit_figure, chosen, inside_or, outside_or}
use Rattle.cv_calc.specs.Tree.{Each, by_cases, fold-Num, fold-Sum, fold-Product, fold-Negate, fold-Invert, fold-Min, fold-Max, fold-Clamp}
use Rattle.cv_calc.specs.Types.{type_of, type_step, added_next}
use Rattle.cv_calc.specs.Unit.{same_unit, same_unit-true}
use Rattle.cv_simplify.specs.Counted.{inside, all_inside, is_in_range}
use Rattle.cv_simplify.specs.Checked.{checked, within, literal_within, number_within}
use Rattle.cv_simplify.specs.Simplified.{compares_percent, simp}
use Rattle.cv_simplify.proofs.InRange.{and_true, inside-Num, inside-Sum, inside-Product, inside-Negate, inside-Invert, inside-Min, inside-Max, inside-Clamp}
use Rattle.cv_simplify.proofs.Ranges.{made_simple, made_none}
use Rattle.cv_simplify.proofs.Steps.{checked-Num, checked-Sum, checked-Product, checked-Negate, checked-Invert, checked-Min, checked-Max, checked-Clamp}
use Rattle.cv_simplify.proofs.TypedParts.{HasKind, Every, added_kinds, sum_kinds, no_sum, product_kinds, no_product, negated_kind}
use Rattle.cv_simplify.proofs.FigureSteps.{Tells, number, Told, within_in, sum_told, product_told, min_told, max_told, negated_told, inverted_told, clamp_told}

-- ---- a tree

module _ (x : Context) where
  abbrev IsTold : Calc → Type 0
  IsTold c = HasKind (type_of c) → inside c ≡ true → Tells number (figure c) (checked x c)

  from : (c : Calc) (g : Figure) (o : Option Calc) → figure c ≡ g → checked x c ≡ o → Tells number g o → Tells number (figure c) (checked x c)
  from c g o e f h = subst (λ d. Tells number d (checked x c)) (sym e) (subst (λ p. Tells number g p) (sym f) h)

  each_told : (cs : List Calc) → Each IsTold cs → Every HasKind (map type_of cs) → all_inside cs ≡ true → Told (map figure cs) (map (checked x) cs)
  each_told [] h k l = tt
  each_told (c ∷ cs) h k l = let (first, rest) = and_true (inside c) (all_inside cs) l in (h.0 k.0 first, each_told cs h.1 k.1 rest)

  number_told : (v : Ratio) (u : units.Unit) (b : Bool) → same_unit u Number ≡ b → in_bounds v ≡ true → Tells number (if b then numbers.inside v else measured) (literal_within x v u)
  number_told v u false is h = tt
  number_told v u true is h = (
    ap (literal_within x v) (same_unit-true u Number is) ∙ ap (λ b. if b then number_within x v Number else None) h
        ∙ ap (λ r. option_map (λ s. Num s Number) (within r)) (mul_one v) ∙ ap (option_map number) (within_in v h),
    h,
  )

  num_told : (v : Ratio) (u : units.Unit) → IsTold (Num v u)
  unfolding figure
  num_told v u h k = from (Num v u) _ _ (fold-Num figure_step v u) (checked-Num x v u) (number_told v u (same_unit u Number) refl (sym (inside-Num v u) ∙ k))

  sum_case : (cs : List Calc) → Each IsTold cs → IsTold (Sum cs)
  unfolding figure type_of
  sum_case [] h k l = absurd (no_sum (subst HasKind (fold-Sum type_step []) k))
  sum_case (c ∷ cs) h k l =
      from (Sum (c ∷ cs)) _ _ (fold-Sum figure_step (c ∷ cs)) (checked-Sum x (c ∷ cs))
      (sum_told (figure c) (map figure cs) (checked x c) (map (checked x) cs)
      (each_told (c ∷ cs) h (sum_kinds (map type_of (c ∷ cs)) (subst HasKind (fold-Sum type_step (c ∷ cs)) k)) (sym (inside-Sum (c ∷ cs)) ∙ l)))

  product_case : (cs : List Calc) → Each IsTold cs → IsTold (Product cs)
  unfolding figure type_of
  product_case [] h k l = absurd (no_product (subst HasKind (fold-Product type_step []) k))
  product_case (c ∷ cs) h k l =
      from (Product (c ∷ cs)) _ _ (fold-Product figure_step (c ∷ cs)) (checked-Product x (c ∷ cs))
      (product_told (figure c) (map figure cs) (checked x c) (map (checked x) cs)
      (each_told (c ∷ cs) h (product_kinds (map type_of (c ∷ cs)) (subst HasKind (fold-Product type_step (c ∷ cs)) k)) (sym (inside-Product (c ∷ cs)) ∙ l)))

  negate_case : (c : Calc) → IsTold c → IsTold (Negate c)
  unfolding figure type_of
  negate_case c h k l =
      from (Negate c) _ _ (fold-Negate figure_step c) (checked-Negate x c)
      (negated_told (figure c) (checked x c) (h (subst HasKind (fold-Negate type_step c) k) (sym (inside-Negate c) ∙ l)))

  invert_case : (c : Calc) → IsTold c → IsTold (Invert c)
  unfolding figure type_of
  invert_case c h k l =
      from (Invert c) _ _ (fold-Invert figure_step c) (checked-Invert x c)
      (inverted_told (figure c) (checked x c) (h (negated_kind (type_of c) (subst HasKind (fold-Invert type_step c) k)) (sym (inside-Invert c) ∙ l)))

  min_case : (cs : List Calc) → Each IsTold cs → IsTold (Min cs)
  unfolding figure type_of
  min_case cs h k l =
      from (Min cs) _ _ (fold-Min figure_step cs) (checked-Min x cs)
      (min_told (compares_percent x.basis) (map figure cs) (map (checked x) cs)
      (each_told cs h (sum_kinds (map type_of cs) (subst HasKind (fold-Min type_step cs) k)) (sym (inside-Min cs) ∙ l)))

  max_case : (cs : List Calc) → Each IsTold cs → IsTold (Max cs)
  unfolding figure type_of
  max_case cs h k l =
      from (Max cs) _ _ (fold-Max figure_step cs) (checked-Max x cs)
      (max_told (compares_percent x.basis) (map figure cs) (map (checked x) cs)
      (each_told cs h (sum_kinds (map type_of cs) (subst HasKind (fold-Max type_step cs) k)) (sym (inside-Max cs) ∙ l)))

  clamp_case : (a b c : Calc) → IsTold a → IsTold b → IsTold c → IsTold (Clamp a b c)
  unfolding figure type_of
  clamp_case a b c h i j k l =
      let kind : HasKind (added_next (added_next (type_of a) (type_of b)) (type_of c)) = subst HasKind (fold-Clamp type_step a b c) k in
      let (two, third) = added_kinds (added_next (type_of a) (type_of b)) (type_of c) kind in
      let (first, second) = added_kinds (type_of a) (type_of b) two in
      let (front, last) = and_true (inside a && inside b) (inside c) (sym (inside-Clamp a b c) ∙ l) in
      let (low, middle) = and_true (inside a) (inside b) front in
      from (Clamp a b c) _ _ (fold-Clamp figure_step a b c) (checked-Clamp x a b c)
      (clamp_told (compares_percent x.basis) (figure a) (figure b) (figure c) (checked x a) (checked x b) (checked x c) (h first low) (i second middle) (j third last))

  every_told : (c : Calc) → IsTold c
  every_told = by_cases IsTold record {
    num = num_told;
    sum = sum_case;
    product = product_case;
    negate = negate_case;
    invert = invert_case;
    min = min_case;
    max = max_case;
    clamp = clamp_case;
  }

  told_as : (c : Calc) (t : NumType) (g : Figure) → type_of c ≡ Some t → inside c ≡ true → figure c ≡ g → Tells number g (checked x c)
  told_as c t g e h f = subst (λ d. Tells number d (checked x c)) f (every_told c (t, e) h)

pub inside_range : (x : Context) (c : Calc) (t : NumType) (r : Ratio) → type_of c ≡ Some t → inside c ≡ true → figure c ≡ numbers.inside r → is_in_range x c ≡ true
inside_range x c t r e h f = (made_simple x c (number r) (told_as x c t (numbers.inside r) e h f).0).0

pub inside_value : (x : Context) (c : Calc) (t : NumType) (r : Ratio) → type_of c ≡ Some t → inside c ≡ true → figure c ≡ numbers.inside r → simp x c ≡ Num r Number
inside_value x c t r e h f = sym (made_simple x c (number r) (told_as x c t (numbers.inside r) e h f).0).1

pub outside_range : (x : Context) (c : Calc) (t : NumType) (r : Ratio) → type_of c ≡ Some t → inside c ≡ true → figure c ≡ numbers.outside r → is_in_range x c ≡ false
outside_range x c t r e h f = made_none x c (told_as x c t (numbers.outside r) e h f)
