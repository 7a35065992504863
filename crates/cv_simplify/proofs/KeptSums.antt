-- Simplification keeps the value of a sum and of a negative.
use Rattle.std.specs.Prelude.{Bool, true, false, ◌&&◌, if◌then◌else◌, List, [], ◌∷◌, Option, Some, None, option_map, map, fold}
use Rattle.std.proofs.Common.{◌≡◌, refl, sym, ◌∙◌, ap}
use Rattle.std.proofs.Math.Path.{ap₂}
use Rattle.cv_spec_ratio.specs.Ratio.{Ratio, add, mul, neg, zero_ratio}
use Rattle.cv_spec_ratio.proofs.Laws.{mul-add_right, neg-mul}
use Rattle.cv_calc.specs.declared.unit.Unit as units
use Rattle.cv_calc.specs.declared.calc.Calc.{Calc}
use Rattle.cv_calc.specs.declared.calc.Calc.TheVariants as tree
use Rattle.cv_calc.specs.declared.calc.Calc.TheOpen.{Calc-F, Num, Sum, Negate}
use Rattle.cv_calc.specs.declared.calc.Calc.TheViews.{out-Calc, roll-Calc, roll-out-Calc}
use Rattle.cv_calc.specs.Unit.{same_unit, same_unit-true}
use Rattle.cv_calc.specs.Value.{Meaning, unit_value, value, both, sum_of}
use Rattle.cv_calc.proofs.Values.{value-roll, value-Num, value-Sum, value-Negate, both_comm, both_assoc, both_zero, neg-neg_value}
use Rattle.cv_simplify.specs.Simplified.{negated, negated_as, joined_as, joined_by, join_first, with_child, any_unit, one_or, terms_as, terms_of, with_terms_of, sum_row, summed}

module _ (m : Meaning) where
  -- the value of a calculation that is opened
  value_of_layer : (d : Calc) (l : Calc-F Calc) → roll-Calc l ≡ d → value m (roll-Calc l) ≡ value m d
  value_of_layer d l e = ap (value m) e

  -- ---- a sign

  negated_as_kept : (d : Calc) (l : Calc-F Calc) → roll-Calc l ≡ d → value m (negated_as d l) ≡ option_map neg (value m d)
  negated_as_kept d (Num v u) e = value-Num m (neg v) u ∙ ap Some (neg-mul v (unit_value m u)) ∙ ap (option_map neg) (sym (value-roll m (Num v u)) ∙ ap (value m) e)
  negated_as_kept d (Negate c) e = sym (neg-neg_value (value m c)) ∙ ap (option_map neg) (sym (value-roll m (Negate c)) ∙ ap (value m) e)
  negated_as_kept d _ e = value-Negate m d

  pub negated_kept : (d : Calc) → value m (negated d) ≡ option_map neg (value m d)
  negated_kept d = negated_as_kept d (out-Calc d) (roll-out-Calc d)

  -- ---- a sum

  abbrev total : List Calc → Option Ratio
  total cs = sum_of (map (value m) cs)

  -- a joined number has the sum of the two values
  same_unit_kept : (e : Calc) (v w : Ratio) (u t : units.Unit) (b : Bool) → same_unit u t ≡ b → (if b && true then Some (tree.Num (add v w) u) else None) ≡ Some e →
      value m e ≡ both add (Some (mul v (unit_value m u))) (Some (mul w (unit_value m t)))
  same_unit_kept e v w u t false is h = cc
  same_unit_kept e v w u t true is h =
      let made : tree.Num (add v w) u ≡ e = cc in
      ap (value m) (sym made) ∙ value-Num m (add v w) u ∙ ap Some (mul-add_right v w (unit_value m u))
      ∙ ap (λ s. both add (Some (mul v (unit_value m u))) (Some (mul w (unit_value m s)))) (same_unit-true u t is)

  joined_as_kept : (c d e : Calc) (k l : Calc-F Calc) → roll-Calc k ≡ c → roll-Calc l ≡ d → joined_as any_unit add k l ≡ Some e → value m e ≡ both add (value m c) (value m d)
  joined_as_kept c d e (Num v u) (Num w t) p q h =
      same_unit_kept e v w u t (same_unit u t) refl h
      ∙ ap₂ (both add) (sym (value-roll m (Num v u)) ∙ ap (value m) p) (sym (value-roll m (Num w t)) ∙ ap (value m) q)
  joined_as_kept c d e (Num v u) _ p q h = cc
  joined_as_kept c d e _ _ p q h = cc

  total-join_first : (c d : Calc) (cs more : List Calc) (o : Option Calc) → joined_by any_unit add c d ≡ o → total more ≡ both add (total cs) (value m d) →
      total (join_first o c cs more) ≡ both add (total (c ∷ cs)) (value m d)
  total-join_first c d cs more (Some e) is ih =
      ap (λ o. both add o (total cs)) (joined_as_kept c d e (out-Calc c) (out-Calc d) (roll-out-Calc c) (roll-out-Calc d) is)
      ∙ both_assoc (value m c) (value m d) (total cs)
      ∙ ap (both add (value m c)) (both_comm (value m d) (total cs))
      ∙ sym (both_assoc (value m c) (total cs) (value m d))
  total-join_first c d cs more None is ih = ap (both add (value m c)) ih ∙ sym (both_assoc (value m c) (total cs) (value m d))

  total-with_child : (row : List Calc) (d : Calc) → total (with_child (joined_by any_unit add) row d) ≡ both add (total row) (value m d)
  total-with_child [] d = both_comm (value m d) (Some zero_ratio)
  total-with_child (c ∷ cs) d = total-join_first c d cs _ (joined_by any_unit add c d) refl (total-with_child cs d)

  total-fold : (row ts : List Calc) → total (fold (with_child (joined_by any_unit add)) row ts) ≡ both add (total row) (total ts)
  total-fold row [] = sym (both_zero (total row))
  total-fold row (t ∷ ts) = total-fold (with_child (joined_by any_unit add) row t) ts ∙ ap (λ o. both add o (total ts)) (total-with_child row t) ∙ both_assoc (total row) (value m t) (total ts)

  total-terms_as : (c : Calc) (l : Calc-F Calc) → roll-Calc l ≡ c → total (terms_as c l) ≡ value m c
  total-terms_as c (Sum ds) e = sym (value-roll m (Sum ds)) ∙ ap (value m) e
  total-terms_as c _ e = both_zero (value m c)

  total-rows : (row cs : List Calc) → total (fold with_terms_of row cs) ≡ both add (total row) (total cs)
  total-rows row [] = sym (both_zero (total row))
  total-rows row (c ∷ cs) =
      total-rows (with_terms_of row c) cs
      ∙ ap (λ o. both add o (total cs)) (total-fold row (terms_of c) ∙ ap (both add (total row)) (total-terms_as c (out-Calc c) (roll-out-Calc c)))
      ∙ both_assoc (total row) (value m c) (total cs)

  value-one_or : (cs : List Calc) → value m (one_or tree.Sum cs) ≡ total cs
  value-one_or [] = value-Sum m []
  value-one_or (c ∷ []) = sym (both_zero (value m c))
  value-one_or (c ∷ d ∷ cs) = value-Sum m (c ∷ d ∷ cs)

  pub summed_kept : (cs : List Calc) → value m (summed cs) ≡ total cs
  summed_kept cs = value-one_or (sum_row cs) ∙ total-rows [] cs ∙ both_comm (Some zero_ratio) (total cs) ∙ both_zero (total cs)
