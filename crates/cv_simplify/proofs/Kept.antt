-- Simplification keeps the value.
use Rattle.std.specs.Prelude.{Bool, true, false, ◌&&◌, if◌then◌else◌, List, [], ◌∷◌, Option, Some, None, map}
use Rattle.std.proofs.Common.{◌≡◌, refl, sym, ◌∙◌, ap}
use Rattle.std.proofs.Math.Path.{ap₂}
use Rattle.cv_spec_ratio.specs.Ratio.{Ratio, add, mul, neg, reciprocal, one_ratio}
use Rattle.cv_spec_ratio.specs.Order.{lesser, greater}
use Rattle.cv_spec_ratio.proofs.Laws.{mul_one}
use Rattle.cv_spec_ratio.proofs.Reciprocal.{reciprocal_twice}
use Rattle.cv_calc.specs.declared.unit.Unit as units
use Rattle.cv_calc.specs.declared.unit.Unit.TheVariants.{Number, Percent, Px}
use Rattle.cv_calc.specs.declared.context.Basis.{Basis}
use Rattle.cv_calc.specs.declared.context.Basis.TheVariants.{Plain, Length, Of}
use Rattle.cv_calc.specs.declared.context.Context.{Context}
use Rattle.cv_calc.specs.declared.calc.Calc.{Calc}
use Rattle.cv_calc.specs.declared.calc.Calc.TheVariants as tree
use Rattle.cv_calc.specs.declared.calc.Calc.TheOpen.{Calc-F, Num, Invert}
use Rattle.cv_calc.specs.declared.calc.Calc.TheViews.{out-Calc, roll-Calc, roll-out-Calc}
use Rattle.cv_calc.specs.Factor.{canonical, factor, hundredth, sizes_of}
use Rattle.cv_calc.specs.Tree.{Each, by_cases, fold-Num, fold-Sum, fold-Product, fold-Negate, fold-Invert, fold-Min, fold-Max, fold-Clamp}
use Rattle.cv_calc.specs.Unit.{same_unit, same_unit-true}
use Rattle.cv_calc.specs.Value.{Meaning, unit_value, value, value_step, both, sum_of, product_of, chosen_of, inverse_of}
use Rattle.cv_calc.proofs.Values.{value-roll, value-Num, value-Sum, value-Negate, value-Invert, Covers, covers_same, covers_trans, covers_both, covers_map}
use Rattle.cv_simplify.specs.Simplified.{percent_in, number_in, inverse_or, inverted_as, compares_percent, may_compare, number_clamped_as, number_clamped, clamped_as, simp, simp_step}
use Rattle.cv_simplify.specs.Agrees.{Agrees, AgreesPercent, KeepsValue}
use Rattle.cv_simplify.specs.Canonical.{is_canonical, holds_canonical}
use Rattle.cv_simplify.proofs.Canonical.{all_hold, canonical-roll, simp_canonical}
use Rattle.cv_simplify.proofs.InRange.{both_true}
use Rattle.cv_simplify.proofs.Least.{lesser_comm, lesser_assoc, greater_comm, greater_assoc}
use Rattle.cv_simplify.proofs.KeptSums.{negated_kept, summed_kept}
use Rattle.cv_simplify.proofs.KeptChoices.{compared_one, chosen_kept, one_or_chosen}
use Rattle.cv_simplify.proofs.KeptProducts.{value-Product, multiplied_kept}

-- ---- a number

module _ (m : Meaning) (x : Context) (ag : Agrees m x) where
  number_kept_as : (v : Ratio) (u t : units.Unit) → unit_value m t ≡ one_ratio → unit_value m u ≡ factor m.sizes u →
      value m (tree.Num (mul v (factor (sizes_of x) u)) t) ≡ Some (mul v (unit_value m u))
  number_kept_as v u t one is =
      value-Num m (mul v (factor (sizes_of x) u)) t
      ∙ ap Some (ap (mul (mul v (factor (sizes_of x) u))) one
      ∙ mul_one (mul v (factor (sizes_of x) u))
      ∙ ap (mul v) (ap (λ s. factor s u) (sym ag.sizes) ∙ sym is))

  percent_kept : (v : Ratio) (b : Basis) → AgreesPercent b m.percent → value m (percent_in b v) ≡ Some (mul v m.percent)
  percent_kept v Plain h = value-Num m v Percent
  percent_kept v Length h = value-Num m v Percent
  percent_kept v (Of f) h = value-Num m (mul v (mul f hundredth)) Px ∙ ap Some (mul_one (mul v (mul f hundredth)) ∙ ap (mul v) (sym h))

  pub number_kept : (v : Ratio) (u : units.Unit) → value m (number_in x v u) ≡ Some (mul v (unit_value m u))
  number_kept v Percent = percent_kept v x.basis ag.percent
  number_kept v u = number_kept_as v u (canonical u) refl refl

  -- ---- the whole

  abbrev IsKept : Calc → Type 0
  IsKept c = Covers (value m c) (value m (simp x c))

  total_covers : (cs : List Calc) → Each IsKept cs → Covers (sum_of (map (value m) cs)) (sum_of (map (value m) (map (simp x) cs)))
  total_covers [] h = covers_same _ _ refl
  total_covers (c ∷ cs) h = covers_both add _ _ _ _ h.0 (total_covers cs h.1)

  sum_kept : (cs : List Calc) → Each IsKept cs → IsKept (tree.Sum cs)
  unfolding simp
  sum_kept cs h =
      covers_trans _ _ _ (covers_same _ _ (value-Sum m cs))
      (covers_trans _ _ _ (total_covers cs h) (covers_same _ _ (sym (ap (value m) (fold-Sum (simp_step x) cs) ∙ summed_kept m (map (simp x) cs)))))

  negate_kept : (c : Calc) → IsKept c → IsKept (tree.Negate c)
  unfolding simp
  negate_kept c h =
      covers_trans _ _ _ (covers_same _ _ (value-Negate m c))
      (covers_trans _ _ _ (covers_map neg _ _ h) (covers_same _ _ (sym (ap (value m) (fold-Negate (simp_step x) c) ∙ negated_kept m (simp x c)))))

  num_kept : (v : Ratio) (u : units.Unit) → IsKept (tree.Num v u)
  unfolding simp
  num_kept v u = covers_same _ _ (value-Num m v u ∙ sym (ap (value m) (fold-Num (simp_step x) v u) ∙ number_kept v u))

-- ---- an inverse

module _ (m : Meaning) where
  -- the inverse of a number without a unit
  inverse_or_kept : (d : Calc) (v : Ratio) (o : Option Ratio) → reciprocal v ≡ o → value m d ≡ Some v → value m (inverse_or d o) ≡ inverse_of (value m d)
  inverse_or_kept d v (Some r) is e = value-Num m r Number ∙ ap Some (mul_one r) ∙ sym is ∙ ap inverse_of (sym e)
  inverse_or_kept d v None is e = value-Invert m d

  inverse_twice : (o : Option Ratio) → Covers (inverse_of (inverse_of o)) o
  inverse_twice None = record { same = λ r h. cc }
  inverse_twice (Some a) = record { same = λ r h. go (reciprocal a) refl r h }
    where
      go : (o : Option Ratio) → reciprocal a ≡ o → (r : Ratio) → inverse_of o ≡ Some r → Some a ≡ Some r
      go None is r h = cc
      go (Some b) is r h = sym (reciprocal_twice a b is) ∙ h

  inverted_as_kept : (d : Calc) (l : Calc-F Calc) → roll-Calc l ≡ d → Covers (inverse_of (value m d)) (value m (inverted_as d l))
  inverted_as_kept d (Num v Number) e =
      covers_same _ _ (sym (inverse_or_kept d v (reciprocal v) refl (ap (value m) (sym e) ∙ value-roll m (Num v Number) ∙ ap Some (mul_one v))))
  inverted_as_kept d (Invert c) e =
      covers_trans _ _ _ (covers_same _ _ (ap inverse_of (ap (value m) (sym e) ∙ value-roll m (Invert c)))) (inverse_twice (value m c))
  inverted_as_kept d _ e = covers_same _ _ (sym (value-Invert m d))

  covers_inverse : (o o' : Option Ratio) → Covers o o' → Covers (inverse_of o) (inverse_of o')
  covers_inverse None o' h = record { same = λ r e. cc }
  covers_inverse (Some a) o' h = record { same = λ r e. rw (h.same a refl) e }

module _ (m : Meaning) (x : Context) (ag : Agrees m x) where
  invert_kept : (c : Calc) → IsKept m x ag c → IsKept m x ag (tree.Invert c)
  unfolding simp
  invert_kept c h =
      covers_trans _ _ _ (covers_same _ _ (value-Invert m c))
      (covers_trans _ _ _ (covers_inverse m _ _ h)
      (covers_trans _ _ _ (inverted_as_kept m (simp x c) (out-Calc (simp x c)) (roll-out-Calc (simp x c)))
      (covers_same _ _ (sym (ap (value m) (fold-Invert (simp_step x) c))))))

-- ---- the least and the greatest

module _ (m : Meaning) where
  value-Min : (cs : List Calc) → value m (tree.Min cs) ≡ chosen_of lesser (map (value m) cs)
  unfolding value
  value-Min cs = fold-Min (value_step m) cs

  value-Max : (cs : List Calc) → value m (tree.Max cs) ≡ chosen_of greater (map (value m) cs)
  unfolding value
  value-Max cs = fold-Max (value_step m) cs

  value-Clamp : (a b c : Calc) → value m (tree.Clamp a b c) ≡ both greater (value m a) (both lesser (value m b) (value m c))
  unfolding value
  value-Clamp a b c = fold-Clamp (value_step m) a b c

-- ---- the whole

module _ (m : Meaning) (x : Context) (ag : Agrees m x) where
  products_cover : (cs : List Calc) → Each (IsKept m x ag) cs → Covers (product_of (map (value m) cs)) (product_of (map (value m) (map (simp x) cs)))
  products_cover [] h = covers_same _ _ refl
  products_cover (c ∷ cs) h = covers_both mul _ _ _ _ h.0 (products_cover cs h.1)

  chosen_cover : (f : Ratio → Ratio → Ratio) (cs : List Calc) → Each (IsKept m x ag) cs → Covers (chosen_of f (map (value m) cs)) (chosen_of f (map (value m) (map (simp x) cs)))
  chosen_cover f [] h = covers_same _ _ refl
  chosen_cover f (c ∷ []) h = h.0
  chosen_cover f (c ∷ d ∷ cs) h = covers_both f _ _ _ _ h.0 (chosen_cover f (d ∷ cs) h.1)

  all_simple : (cs : List Calc) → all_hold (map (simp x) cs) ≡ true
  all_simple [] = refl
  all_simple (c ∷ cs) = both_true (holds_canonical (simp x c)) _ (simp_canonical x c) (all_simple cs)

  product_kept : (cs : List Calc) → Each (IsKept m x ag) cs → IsKept m x ag (tree.Product cs)
  unfolding simp
  product_kept cs h =
      covers_trans _ _ _ (covers_same _ _ (value-Product m cs))
      (covers_trans _ _ _ (products_cover cs h) (covers_same _ _ (sym (ap (value m) (fold-Product (simp_step x) cs) ∙ multiplied_kept m (map (simp x) cs)))))

  min_kept : (cs : List Calc) → Each (IsKept m x ag) cs → IsKept m x ag (tree.Min cs)
  unfolding simp
  min_kept cs h =
      covers_trans _ _ _ (covers_same _ _ (value-Min m cs))
      (covers_trans _ _ _ (chosen_cover lesser cs h) (covers_same _ _ (sym (ap (value m) (fold-Min (simp_step x) cs)
      ∙ one_or_chosen m lesser lesser_comm lesser_assoc (may_compare (compares_percent x.basis)) (compared_one m x ag) tree.Min (value-Min m) _
      ∙ chosen_kept m lesser lesser_comm lesser_assoc (may_compare (compares_percent x.basis)) (compared_one m x ag) (map (simp x) cs) (all_simple cs)))))

  max_kept : (cs : List Calc) → Each (IsKept m x ag) cs → IsKept m x ag (tree.Max cs)
  unfolding simp
  max_kept cs h =
      covers_trans _ _ _ (covers_same _ _ (value-Max m cs))
      (covers_trans _ _ _ (chosen_cover greater cs h) (covers_same _ _ (sym (ap (value m) (fold-Max (simp_step x) cs)
      ∙ one_or_chosen m greater greater_comm greater_assoc (may_compare (compares_percent x.basis)) (compared_one m x ag) tree.Max (value-Max m) _
      ∙ chosen_kept m greater greater_comm greater_assoc (may_compare (compares_percent x.basis)) (compared_one m x ag) (map (simp x) cs) (all_simple cs)))))

  -- a number within limits
  limits_value : (a b c : Calc) (k l n : Calc-F Calc) → roll-Calc k ≡ a → roll-Calc l ≡ b → roll-Calc n ≡ c → holds_canonical a ≡ true → (r : Ratio × units.Unit) →
      number_clamped_as (compares_percent x.basis) k l n ≡ Some r → value m (tree.Num r.0 r.1) ≡ both greater (value m a) (both lesser (value m b) (value m c))
  limits_value a b c (Num v u) (Num w t) (Num z s) p q o h r is = go (same_unit u t) (same_unit u s) (may_compare (compares_percent x.basis) u) refl refl refl is
    where
      canonical_u : is_canonical u ≡ true
      canonical_u = sym (canonical-roll (Num v u)) ∙ ap holds_canonical p ∙ h

      plain : (y : Ratio) (e : units.Unit) (d : Calc) → unit_value m e ≡ one_ratio → roll-Calc (Num y e) ≡ d → value m d ≡ Some y
      plain y e d one p = sym (ap (value m) p) ∙ value-roll m (Num y e) ∙ ap Some (ap (mul y) one ∙ mul_one y)

      go : (i j g : Bool) → same_unit u t ≡ i → same_unit u s ≡ j → may_compare (compares_percent x.basis) u ≡ g →
          (if i && j && g then Some (greater v (lesser w z), u) else None) ≡ Some r → value m (tree.Num r.0 r.1) ≡ both greater (value m a) (both lesser (value m b) (value m c))
      go true true true first second allowed is =
          let made : (greater v (lesser w z), u) ≡ r = cc in
          let one = compared_one m x ag u canonical_u allowed in
          ap (λ (y : Ratio × units.Unit). value m (tree.Num y.0 y.1)) (sym made) ∙ value-Num m (greater v (lesser w z)) u ∙ ap Some (ap (mul (greater v (lesser w z))) one ∙ mul_one _)
          ∙ sym (ap₂ (both greater) (plain v u a one p)
          (ap₂ (both lesser) (plain w t b (ap (unit_value m) (sym (same_unit-true u t first)) ∙ one) q) (plain z s c (ap (unit_value m) (sym (same_unit-true u s second)) ∙ one) o)))
      go true true false first second allowed is = cc
      go true false g first second allowed is = cc
      go false j g first second allowed is = cc
  limits_value a b c (Num v u) (Num w t) _ p q o h r is = cc
  limits_value a b c (Num v u) _ n p q o h r is = cc
  limits_value a b c _ l n p q o h r is = cc

  clamped_kept : (a b c : Calc) (o : Option (Ratio × units.Unit)) → number_clamped (compares_percent x.basis) a b c ≡ o → holds_canonical a ≡ true →
      value m (clamped_as o a b c) ≡ both greater (value m a) (both lesser (value m b) (value m c))
  clamped_kept a b c (Some r) is h = limits_value a b c (out-Calc a) (out-Calc b) (out-Calc c) (roll-out-Calc a) (roll-out-Calc b) (roll-out-Calc c) h r is
  clamped_kept a b c None is h = value-Clamp m a b c

  clamp_kept : (a b c : Calc) → IsKept m x ag a → IsKept m x ag b → IsKept m x ag c → IsKept m x ag (tree.Clamp a b c)
  unfolding simp
  clamp_kept a b c h k l =
      covers_trans _ _ _ (covers_same _ _ (value-Clamp m a b c))
      (covers_trans _ _ _ (covers_both greater _ _ _ _ h (covers_both lesser _ _ _ _ k l))
      (covers_same _ _ (sym (ap (value m) (fold-Clamp (simp_step x) a b c) ∙ clamped_kept (simp x a) (simp x b) (simp x c) _ refl (simp_canonical x a)))))

  every_kept : (c : Calc) → IsKept m x ag c
  every_kept = by_cases (IsKept m x ag) (record {
    num = num_kept m x ag;
    sum = sum_kept m x ag;
    product = product_kept;
    negate = negate_kept m x ag;
    invert = invert_kept m x ag;
    min = min_kept;
    max = max_kept;
    clamp = clamp_kept;
  })

-- the value is kept in each meaning of the context in which there is one
pub simp_kept : (x : Context) (c : Calc) → KeepsValue x c (simp x c)
simp_kept x c = λ m ag r h. (every_kept m x ag c).same r h
