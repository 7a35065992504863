-- Simplification keeps the value of a product.
use Rattle.std.specs.Prelude.{Bool, true, false, ◌&&◌, if◌then◌else◌, List, [], ◌∷◌, Option, Some, None, option_map, map, fold}
use Rattle.std.proofs.Common.{◌≡◌, refl, sym, ◌∙◌, ap}
use Rattle.std.proofs.Math.Path.{ap₂}
use Rattle.cv_spec_ratio.specs.Ratio.{Ratio, add, mul, zero_ratio, one_ratio}
use Rattle.cv_spec_ratio.proofs.Laws.{mul-add_right, mul-assoc, mul_comm_ratio, mul_one}
use Rattle.cv_calc.specs.declared.unit.Unit as units
use Rattle.cv_calc.specs.declared.unit.Unit.TheVariants.{Number}
use Rattle.cv_calc.specs.declared.calc.Calc.{Calc}
use Rattle.cv_calc.specs.declared.calc.Calc.TheVariants as tree
use Rattle.cv_calc.specs.declared.calc.Calc.TheOpen.{Calc-F, Num, Sum, Product}
use Rattle.cv_calc.specs.declared.calc.Calc.TheViews.{out-Calc, roll-Calc, roll-out-Calc}
use Rattle.cv_calc.specs.Tree.{fold-Product}
use Rattle.cv_calc.specs.Unit.{same_unit, same_unit-true}
use Rattle.cv_calc.specs.Value.{Meaning, unit_value, value, value_step, both, sum_of, product_of}
use Rattle.cv_calc.proofs.Values.{value-roll, value-Num, value-Sum}
use Rattle.cv_simplify.specs.Simplified.{joined_as, joined_by, join_first, with_child, is_number, factors_as, factors_of, with_factors_of, product_row, number_of, scaled_term, both_terms, scaled_terms, scaled_as, scaled, scaled_pair, or_else, product_as, multiplied}
use Rattle.cv_simplify.proofs.ProductRange.{number_is}
use Rattle.cv_simplify.proofs.Sizes.{times_nothing}

module _ (m : Meaning) where
  times_comm : (o p : Option Ratio) → both mul o p ≡ both mul p o
  times_comm None None = refl
  times_comm None (Some b) = refl
  times_comm (Some a) None = refl
  times_comm (Some a) (Some b) = ap Some (mul_comm_ratio a b)

  times_assoc : (o p q : Option Ratio) → both mul (both mul o p) q ≡ both mul o (both mul p q)
  times_assoc None p q = refl
  times_assoc (Some a) None q = refl
  times_assoc (Some a) (Some b) None = refl
  times_assoc (Some a) (Some b) (Some c) = ap Some (mul-assoc a b c)

  times_one : (o : Option Ratio) → both mul o (Some one_ratio) ≡ o
  times_one None = refl
  times_one (Some a) = ap Some (mul_one a)

  abbrev times : List Calc → Option Ratio
  times cs = product_of (map (value m) cs)

  number_value : (v : Ratio) → value m (tree.Num v Number) ≡ Some v
  number_value v = value-Num m v Number ∙ ap Some (mul_one v)

  times_joined : (c d e : Calc) (k l : Calc-F Calc) → roll-Calc k ≡ c → roll-Calc l ≡ d → joined_as is_number mul k l ≡ Some e → value m e ≡ both mul (value m c) (value m d)
  times_joined c d e (Num v u) (Num w t) p q is = go (same_unit u t) (is_number u) refl refl is
    where
      plain : (r : Ratio) (s : units.Unit) (b : Calc) → Number ≡ s → roll-Calc (Num r s) ≡ b → value m b ≡ Some r
      plain r s b same p = sym (ap (value m) p) ∙ value-roll m (Num r s) ∙ ap Some (ap (λ t. mul r (unit_value m t)) (sym same) ∙ mul_one r)

      go : (a b : Bool) → same_unit u t ≡ a → is_number u ≡ b → (if a && b then Some (tree.Num (mul v w) u) else None) ≡ Some e → value m e ≡ both mul (value m c) (value m d)
      go true true same number is =
          let made : tree.Num (mul v w) u ≡ e = cc in
          let first = same_unit-true Number u number in
          ap (value m) (sym made) ∙ ap (λ s. value m (tree.Num (mul v w) s)) (sym first) ∙ number_value (mul v w)
          ∙ sym (ap₂ (both mul) (plain v u c first p) (plain w t d (first ∙ same_unit-true u t same) q))
      go true false same number is = cc
      go false b same number is = cc
  times_joined c d e (Num v u) _ p q is = cc
  times_joined c d e _ _ p q is = cc

  times-join_first : (c d : Calc) (cs more : List Calc) (o : Option Calc) → joined_by is_number mul c d ≡ o → times more ≡ both mul (times cs) (value m d) →
      times (join_first o c cs more) ≡ both mul (times (c ∷ cs)) (value m d)
  times-join_first c d cs more (Some e) is ih =
      ap (λ o. both mul o (times cs)) (times_joined c d e (out-Calc c) (out-Calc d) (roll-out-Calc c) (roll-out-Calc d) is)
      ∙ times_assoc (value m c) (value m d) (times cs)
      ∙ ap (both mul (value m c)) (times_comm (value m d) (times cs))
      ∙ sym (times_assoc (value m c) (times cs) (value m d))
  times-join_first c d cs more None is ih = ap (both mul (value m c)) ih ∙ sym (times_assoc (value m c) (times cs) (value m d))

  times-with_child : (row : List Calc) (d : Calc) → times (with_child (joined_by is_number mul) row d) ≡ both mul (times row) (value m d)
  times-with_child [] d = times_comm (value m d) (Some one_ratio)
  times-with_child (c ∷ cs) d = times-join_first c d cs _ (joined_by is_number mul c d) refl (times-with_child cs d)

  times-fold : (row ts : List Calc) → times (fold (with_child (joined_by is_number mul)) row ts) ≡ both mul (times row) (times ts)
  times-fold row [] = sym (times_one (times row))
  times-fold row (t ∷ ts) = times-fold (with_child (joined_by is_number mul) row t) ts ∙ ap (λ o. both mul o (times ts)) (times-with_child row t) ∙ times_assoc (times row) (value m t) (times ts)

  pub value-Product : (cs : List Calc) → value m (tree.Product cs) ≡ times cs
  unfolding value
  value-Product cs = fold-Product (value_step m) cs

  times-factors : (c : Calc) (l : Calc-F Calc) → roll-Calc l ≡ c → times (factors_as c l) ≡ value m c
  times-factors c (Product ds) e = sym (value-roll m (Product ds)) ∙ ap (value m) e
  times-factors c _ e = times_one (value m c)

  times-rows : (row cs : List Calc) → times (fold with_factors_of row cs) ≡ both mul (times row) (times cs)
  times-rows row [] = sym (times_one (times row))
  times-rows row (c ∷ cs) =
      times-rows (with_factors_of row c) cs
      ∙ ap (λ o. both mul o (times cs)) (times-fold row (factors_of c) ∙ ap (both mul (times row)) (times-factors c (out-Calc c) (roll-out-Calc c)))
      ∙ times_assoc (times row) (value m c) (times cs)

  -- a number times each term
  spread : (v : Ratio) (o p : Option Ratio) → both mul (Some v) (both add o p) ≡ both add (both mul (Some v) o) (both mul (Some v) p)
  spread v None p = refl
  spread v (Some a) None = refl
  spread v (Some a) (Some b) = ap Some (mul_comm_ratio v (add a b) ∙ mul-add_right a b v ∙ ap₂ add (mul_comm_ratio a v) (mul_comm_ratio b v))

  term_value : (v : Ratio) (c e : Calc) (l : Calc-F Calc) → roll-Calc l ≡ c → scaled_term v l ≡ Some e → value m e ≡ both mul (Some v) (value m c)
  term_value v c e (Num w u) p is =
      let made : tree.Num (mul v w) u ≡ e = cc in
      ap (value m) (sym made) ∙ value-Num m (mul v w) u ∙ ap Some (mul-assoc v w (unit_value m u))
      ∙ sym (ap (both mul (Some v)) (sym (ap (value m) p) ∙ value-roll m (Num w u)))
  term_value v c e _ p is = cc

  no_terms : (v : Ratio) → Some zero_ratio ≡ both mul (Some v) (Some zero_ratio)
  unfolding zero_ratio
  no_terms v = ap Some (sym (times_nothing v))

  terms_value : (v : Ratio) (cs es : List Calc) → scaled_terms v cs ≡ Some es → sum_of (map (value m) es) ≡ both mul (Some v) (sum_of (map (value m) cs))
  terms_value v [] es is = let made : [] ≡ es = cc in ap (λ ds. sum_of (map (value m) ds)) (sym made) ∙ no_terms v
  terms_value v (c ∷ cs) es is = go (scaled_term v (out-Calc c)) refl (scaled_terms v cs) refl (λ fs are. terms_value v cs fs are) is
    where
      go : (o : Option Calc) → scaled_term v (out-Calc c) ≡ o → (p : Option (List Calc)) → scaled_terms v cs ≡ p →
          ((fs : List Calc) → scaled_terms v cs ≡ Some fs → sum_of (map (value m) fs) ≡ both mul (Some v) (sum_of (map (value m) cs))) →
          both_terms o p ≡ Some es → sum_of (map (value m) es) ≡ both mul (Some v) (both add (value m c) (sum_of (map (value m) cs)))
      go None term p are ih is = cc
      go (Some e) term None are ih is = cc
      go (Some e) term (Some fs) are ih is =
          let made : e ∷ fs ≡ es = cc in
          ap (λ ds. sum_of (map (value m) ds)) (sym made)
          ∙ ap₂ (both add) (term_value v c e (out-Calc c) (roll-out-Calc c) term) (ih fs are)
          ∙ sym (spread v (value m c) (sum_of (map (value m) cs)))

  scaled_value_as : (v : Ratio) (d e : Calc) (l : Calc-F Calc) → roll-Calc l ≡ d → scaled_as v l ≡ Some e → value m e ≡ both mul (Some v) (value m d)
  scaled_value_as v d e (Num w u) p is = term_value v d e (Num w u) p is
  scaled_value_as v d e (Sum cs) p is = go (scaled_terms v cs) refl is
    where
      go : (o : Option (List Calc)) → scaled_terms v cs ≡ o → option_map tree.Sum o ≡ Some e → value m e ≡ both mul (Some v) (value m d)
      go None are is = cc
      go (Some es) are is =
          let made : tree.Sum es ≡ e = cc in
          ap (value m) (sym made) ∙ value-Sum m es ∙ terms_value v cs es are ∙ sym (ap (both mul (Some v)) (sym (ap (value m) p) ∙ value-roll m (Sum cs)))
  scaled_value_as v d e _ p is = cc

  scaled_value : (v : Ratio) (d e : Calc) → scaled v d ≡ Some e → value m e ≡ both mul (Some v) (value m d)
  scaled_value v d e is = scaled_value_as v d e (out-Calc d) (roll-out-Calc d) is

  pair_value : (c d : Calc) (o p : Option Ratio) → number_of c ≡ o → number_of d ≡ p → value m (or_else (scaled_pair o p c d) (tree.Product (c ∷ d ∷ []))) ≡ times (c ∷ d ∷ [])
  pair_value c d o p first second = go o p first second (scaled_pair o p c d) refl
    where
      made : (o p : Option Ratio) → number_of c ≡ o → number_of d ≡ p → (e : Calc) → scaled_pair o p c d ≡ Some e → value m e ≡ times (c ∷ d ∷ [])
      made (Some v) p first second e is =
          scaled_value v d e is ∙ ap₂ (both mul) (sym (ap (value m) (number_is c v first) ∙ number_value v)) (sym (times_one (value m d)))
      made None (Some v) first second e is =
          scaled_value v c e is ∙ times_comm (Some v) (value m c)
          ∙ ap (both mul (value m c)) (sym (ap (value m) (number_is d v second) ∙ number_value v) ∙ sym (times_one (value m d)))
      made None None first second e is = cc

      go : (o p : Option Ratio) → number_of c ≡ o → number_of d ≡ p → (q : Option Calc) → scaled_pair o p c d ≡ q → value m (or_else q (tree.Product (c ∷ d ∷ []))) ≡ times (c ∷ d ∷ [])
      go o p first second (Some e) is = made o p first second e is
      go o p first second None is = value-Product (c ∷ d ∷ [])

  product_value : (row : List Calc) → value m (product_as row) ≡ times row
  product_value [] = value-Product []
  product_value (c ∷ []) = sym (times_one (value m c))
  product_value (c ∷ d ∷ []) = pair_value c d (number_of c) (number_of d) refl refl
  product_value (c ∷ d ∷ e ∷ cs) = value-Product (c ∷ d ∷ e ∷ cs)

  pub multiplied_kept : (cs : List Calc) → value m (multiplied cs) ≡ times cs
  multiplied_kept cs = product_value (product_row cs) ∙ times-rows [] cs ∙ times_comm (Some one_ratio) (times cs) ∙ times_one (times cs)
