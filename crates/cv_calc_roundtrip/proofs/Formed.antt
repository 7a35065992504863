-- What is read as a linear calculation of lengths and percentages simplifies to a form, where a percentage is a part of a length that
-- isn't known.
use Rattle.std.specs.Prelude.{Bool, true, false, ◌&&◌, List, [], ◌∷◌, map, fold, Some, None, if◌then◌else◌}
use Rattle.std.specs.Option.{option_and_then}
use Rattle.std.proofs.Common.{inl, inr, ◌≡◌, refl, sym, ◌∙◌, ap, subst}
use Rattle.cv_spec_ratio.specs.Ratio.{Ratio, mul, neg}
use Rattle.cv_spec_ratio.specs.Order.{lesser, greater}
use Rattle.cv_calc.specs.declared.unit.NumType.{NumType}
use Rattle.cv_calc.specs.declared.unit.Unit as units
use Rattle.cv_calc.specs.declared.unit.Unit.TheVariants.{Number, Percent, Deg, Grad, Turn, S, Ms, Hz, Khz, Dppx, X, Dpi, Dpcm, Fr}
use Rattle.cv_calc.specs.declared.context.Basis.{Basis}
use Rattle.cv_calc.specs.declared.context.Basis.TheVariants.{Length}
use Rattle.cv_calc.specs.declared.context.Context.{Context}
use Rattle.cv_calc.specs.declared.calc.Calc.{Calc}
use Rattle.cv_calc.specs.declared.calc.Calc.TheOpen as layer
use Rattle.cv_calc.specs.declared.calc.Calc.TheOpen.{Calc-F}
use Rattle.cv_calc.specs.declared.calc.Calc.TheViews.{out-Calc}
use Rattle.cv_calc.specs.declared.calc.Calc.TheVariants.{Num, Sum, Product, Negate, Invert, Min, Max, Clamp}
use Rattle.cv_calc.specs.Factor.{factor, sizes_of}
use Rattle.cv_calc.specs.Linear.{shape, added_shape, sum_shape, product_shape, inverted_shape, is_plain}
use Rattle.cv_calc.specs.Tree.{Each, by_cases, out-Num, fold-Num, fold-Sum, fold-Product, fold-Negate, fold-Min, fold-Max, fold-Clamp}
use Rattle.cv_calc.specs.Types.{unit_type, negated}
use Rattle.cv_calc.specs.Unit.{same_unit}
use Rattle.cv_calc.specs.Value.{Meaning, value, both}
use Rattle.cv_calc.proofs.Shapes.{shape-Num, shape-Sum, shape-Product, shape-Negate, shape-Invert, shape-Min, shape-Max, shape-Clamp}
use Rattle.cv_calc.proofs.Values.{value-Sum, value-Negate}
use Rattle.cv_simplify.specs.Agrees.{Agrees}
use Rattle.cv_simplify.specs.Simplified as simplified
use Rattle.cv_simplify.specs.Simplified.{percent_in, number_in, compares_percent, simp, simp_step}
use Rattle.cv_calc_laws.specs.Single.{is_length_percentage}
use Rattle.cv_calc_laws.proofs.Lists.{Every, AllButOne, none_some, some_same, false_true, and_both}
use Rattle.cv_calc_laws.proofs.UnitTypes.{plain_is}
use Rattle.cv_calc_laws.proofs.Factors.{Shape, plain}
use Rattle.cv_calc_laws.proofs.Rows.{IsNum}
use Rattle.cv_calc_laws.proofs.Defined.{HasValue, value-Product, value-Min, value-Max, value-Clamp, both_have, sum_has, product_has, chosen_has, negative_has}
use Rattle.cv_calc_laws.proofs.MixedFactors.{IsPlainKind, IsOf, ProductParts}
use Rattle.cv_calc_laws.proofs.OneNumber.{every_calc, may_number}
use Rattle.cv_calc_laws.proofs.TypedTrees.{IsLength, sum_typed, product_typed, all_typed, clamp_lengths}
use Rattle.cv_calc_laws.proofs.Valued.{Fits, terms_fit, sum_fits, product_fits}
use Rattle.cv_calc_roundtrip.proofs.Digits.{and_true}
use Rattle.cv_calc_roundtrip.proofs.FormRows.{form_measure, choice_of, chosen_form}
use Rattle.cv_calc_roundtrip.proofs.Forms.{IsForm, measure, sum, product, turned, least, greatest, limited, IsTerm, plus, minus, AreTerms, no_terms, terms, AreForms, no_forms, forms}
use Rattle.cv_calc_roundtrip.proofs.Heads.{head, head_as, head-Sum, head-Product, head-Min, head-Max, head-Clamp}
use Rattle.cv_calc_roundtrip.proofs.Limits.{compared, clampable}
use Rattle.cv_calc_roundtrip.proofs.Negatives.{px, percent, may_be_taken, negated_as_stays}
use Rattle.cv_calc_roundtrip.proofs.ProductForms.{multiplied_form}
use Rattle.cv_calc_roundtrip.proofs.ReadShapes.{Stand, anywhere, stand, all_values, all_terms, all_factors, are_terms, are_factors, stand-Num, stand-Sum, stand-Product, stand-Negate, stand-Min, stand-Max, stand-Clamp}
use Rattle.cv_calc_roundtrip.proofs.SumForms.{summed_form}

-- ---- the nodes

number_form : (x : Context) (v : Ratio) (u : units.Unit) → x.basis ≡ Length → is_length_percentage (unit_type u) ≡ true → IsForm (number_in x v u)
number_form x v Percent b h = subst (λ (c : Basis). IsForm (percent_in c v)) (sym b) (measure v percent)
number_form x v Number b h = absurd (false_true h)
number_form x v Deg b h = absurd (false_true h)
number_form x v Grad b h = absurd (false_true h)
number_form x v Turn b h = absurd (false_true h)
number_form x v S b h = absurd (false_true h)
number_form x v Ms b h = absurd (false_true h)
number_form x v Hz b h = absurd (false_true h)
number_form x v Khz b h = absurd (false_true h)
number_form x v Dppx b h = absurd (false_true h)
number_form x v X b h = absurd (false_true h)
number_form x v Dpi b h = absurd (false_true h)
number_form x v Dpcm b h = absurd (false_true h)
number_form x v Fr b h = absurd (false_true h)
number_form x v u b h = measure (mul v (factor (sizes_of x) u)) px

negated_minus : (c : Calc) → IsForm c → may_be_taken (head c) ≡ true → IsTerm (simplified.negated c)
negated_minus c f h = subst IsTerm (sym (negated_as_stays c (out-Calc c) h)) (minus f h)

negated_term : {c : Calc} → IsForm c → IsTerm (simplified.negated c)
negated_term (measure {u} v m) = subst IsTerm (sym (ap (simplified.negated_as (Num v u)) (out-Num v u))) (plus (measure (neg v) m))
negated_term (sum {cs} t r) = negated_minus (Sum cs) (sum t r) (ap may_be_taken (head-Sum cs))
negated_term (product n {x} t f) = negated_minus (Product (Num n Number ∷ x ∷ [])) (product n t f) (ap may_be_taken (head-Product (Num n Number ∷ x ∷ [])))
negated_term (turned n {x} t f) = negated_minus (Product (x ∷ Num n Number ∷ [])) (turned n t f) (ap may_be_taken (head-Product (x ∷ Num n Number ∷ [])))
negated_term (least {c} {d} {cs} f a) = negated_minus (Min (c ∷ d ∷ cs)) (least f a) (ap may_be_taken (head-Min (c ∷ d ∷ cs)))
negated_term (greatest {c} {d} {cs} f a) = negated_minus (Max (c ∷ d ∷ cs)) (greatest f a) (ap may_be_taken (head-Max (c ∷ d ∷ cs)))
negated_term (limited {a} {b} {c} f g i j) = negated_minus (Clamp a b c) (limited f g i j) (ap may_be_taken (head-Clamp a b c))

-- three numbers of one unit give one, or what is within limits stays
clamp_as : (a b c : Calc) → IsForm a → IsForm b → IsForm c → (k l n : Calc-F Calc) → head a ≡ head_as k → clampable (head_as k) (head_as l) (head_as n) ≡ clampable (head a) (head b) (head c) →
    IsForm (simplified.clamped_as (simplified.number_clamped_as false k l n) a b c)
clamp_as a b c f g i (layer.Num v u) (layer.Num w t) (layer.Num z s) e same = go (same_unit u t && same_unit u s && compared u) same
  where
    go : (p : Bool) → p ≡ clampable (head a) (head b) (head c) → IsForm (simplified.clamped_as (if p then Some (greater v (lesser w z), u) else None) a b c)
    go true h = measure (greater v (lesser w z)) (form_measure f v u e)
    go false h = limited f g i (sym h)
clamp_as a b c f g i (layer.Num v u) (layer.Num w t) _ e same = limited f g i (sym same)
clamp_as a b c f g i (layer.Num v u) _ n e same = limited f g i (sym same)
clamp_as a b c f g i _ l n e same = limited f g i (sym same)

clamp_form : (a b c : Calc) → IsForm a → IsForm b → IsForm c → IsForm (simplified.clamped false a b c)
clamp_form a b c f g i = clamp_as a b c f g i (out-Calc a) (out-Calc b) (out-Calc c) refl refl

-- a plain number is no length
no_length : (w : NumType) → w ≡ plain → is_length_percentage w ≡ true → ⊥
no_length w e h = false_true (ap is_length_percentage (sym e) ∙ h)

-- ---- the tree

module _ (m : Meaning) (x : Context) (ag : Agrees m x) (basis : x.basis ≡ Length) where
  record Placed (c : Calc) : Type 0 where
    value : (stand c).value ≡ true → IsForm (simp x c)
    term : (stand c).term ≡ true → IsTerm (simp x c)
    factor : (stand c).factor ≡ true → IsForm (simp x c)

  abbrev IsFormed : Calc → Type 0
  IsFormed c = IsLength (shape c) → (shape c).fits ≡ true → HasValue (value m c) → Placed c

  by_form : (c : Calc) (b : Bool) → stand c ≡ anywhere b → (b ≡ true → IsForm (simp x c)) → Placed c
  by_form c b e f = record {
    value = λ h. f (sym (ap (λ (s : Stand). s.value) e) ∙ h);
    term = λ h. plus (f (sym (ap (λ (s : Stand). s.term) e) ∙ h));
    factor = λ h. f (sym (ap (λ (s : Stand). s.factor) e) ∙ h);
  }

  plain_single : (c : Calc) → IsPlainKind (shape c) → Fits (shape c) → HasValue (value m c) → IsNum Number (simp x c)
  plain_single c k l has = every_calc m x ag c Number (may_number (compares_percent x.basis)) (k, l.1) has

  plains_single : (cs : List Calc) → Every IsPlainKind (map shape cs) → Every Fits (map shape cs) → Every HasValue (map (value m) cs) → Every (IsNum Number) (map (simp x) cs)
  plains_single [] k l has = tt
  plains_single (c ∷ cs) k l has = (plain_single c k.0 l.0 has.0, plains_single cs k.1 l.1 has.1)

  -- children at their places
  terms_formed : (cs : List Calc) → Each IsFormed cs → Every IsLength (map shape cs) → Every Fits (map shape cs) → Every HasValue (map (value m) cs) → all_terms (map stand cs) ≡ true → AreTerms (map (simp x) cs)
  terms_formed [] h k l has s = no_terms
  terms_formed (c ∷ cs) h k l has s =
      let p = and_true (stand c).term (all_terms (map stand cs)) s in
      terms ((h.0 k.0 l.0.1 has.0).term p.0) (terms_formed cs h.1 k.1 l.1 has.1 p.1)

  forms_formed : (cs : List Calc) → Each IsFormed cs → Every IsLength (map shape cs) → Every Fits (map shape cs) → Every HasValue (map (value m) cs) → all_values (map stand cs) ≡ true → AreForms (map (simp x) cs)
  forms_formed [] h k l has s = no_forms
  forms_formed (c ∷ cs) h k l has s =
      let p = and_true (stand c).value (all_values (map stand cs)) s in
      forms ((h.0 k.0 l.0.1 has.0).value p.0) (forms_formed cs h.1 k.1 l.1 has.1 p.1)

  factors_formed : (w : NumType) → is_length_percentage w ≡ true → (cs : List Calc) → Each IsFormed cs → AllButOne IsPlainKind (IsOf w) (map shape cs) → Every Fits (map shape cs) → Every HasValue (map (value m) cs) →
      all_factors (map stand cs) ≡ true → AllButOne (IsNum Number) IsForm (map (simp x) cs)
  factors_formed w len [] h k l has s = absurd k
  factors_formed w len (c ∷ cs) h (inl k) l has s = inl (plain_single c k.0 l.0 has.0, factors_formed w len cs h.1 k.1 l.1 has.1 (and_true (stand c).factor (all_factors (map stand cs)) s).1)
  factors_formed w len (c ∷ cs) h (inr k) l has s = inr ((h.0 (w, k.0, len) l.0.1 has.0).factor (and_true (stand c).factor (all_factors (map stand cs)) s).0, plains_single cs k.1 l.1 has.1)

  first_formed : (w : NumType) → is_length_percentage w ≡ true → (cs : List Calc) → Each IsFormed cs → AllButOne IsPlainKind (IsOf w) (map shape cs) → Every Fits (map shape cs) → Every HasValue (map (value m) cs) →
      are_factors (map stand cs) ≡ true → AllButOne (IsNum Number) IsForm (map (simp x) cs)
  first_formed w len [] h k l has s = absurd k
  first_formed w len (c ∷ cs) h (inl k) l has s = inl (plain_single c k.0 l.0 has.0, factors_formed w len cs h.1 k.1 l.1 has.1 (and_true (stand c).value (all_factors (map stand cs)) s).1)
  first_formed w len (c ∷ cs) h (inr k) l has s = inr ((h.0 (w, k.0, len) l.0.1 has.0).value (and_true (stand c).value (all_factors (map stand cs)) s).0, plains_single cs k.1 l.1 has.1)

  num_formed : (v : Ratio) (u : units.Unit) → IsFormed (Num v u)
  unfolding simp
  num_formed v u k l has =
      let same : k.0 ≡ unit_type u = some_same k.0 (unit_type u) (sym k.1 ∙ ap (λ (s : Shape). s.kind) (shape-Num v u)) in
      by_form (Num v u) true (stand-Num v u) (λ s. subst IsForm (sym (fold-Num (simp_step x) v u)) (number_form x v u basis (ap is_length_percentage (sym same) ∙ k.2)))

  -- the lengths of children that are added or compared
  parts : (cs : List Calc) → IsLength (sum_shape (map shape cs)) → (sum_shape (map shape cs)).fits ≡ true → Every Fits (map shape cs) × Every IsLength (map shape cs)
  parts cs k l =
      let fits : Fits (sum_shape (map shape cs)) = ((k.0, k.1), l) in
      let inner : Every Fits (map shape cs) = sum_fits (map shape cs) fits in
      (inner, (sum_typed (map shape cs) (all_typed cs inner) fits).1 k)

  no_children : IsLength (sum_shape []) → ⊥
  unfolding sum_shape
  no_children k = none_some k.0 k.1

  sum_formed : (cs : List Calc) → Each IsFormed cs → IsFormed (Sum cs)
  unfolding simp
  sum_formed [] h k l has = absurd (no_children (subst IsLength (shape-Sum []) k))
  sum_formed (c ∷ cs) h k l has =
      let (fits, lengths) = parts (c ∷ cs) (subst IsLength (shape-Sum (c ∷ cs)) k) (subst (λ (s : Shape). s.fits ≡ true) (shape-Sum (c ∷ cs)) l) in
      let have = sum_has (map (value m) (c ∷ cs)) has.0 (sym (value-Sum m (c ∷ cs)) ∙ has.1) in
      by_form (Sum (c ∷ cs)) (are_terms (map stand (c ∷ cs))) (stand-Sum (c ∷ cs)) (λ s.
      let p = and_true (stand c).value (all_terms (map stand cs)) s in
      subst IsForm (sym (fold-Sum (simp_step x) (c ∷ cs)))
      (summed_form (simp x c) (map (simp x) cs) ((h.0 lengths.0 fits.0.1 have.0).value p.0) (terms_formed cs h.1 lengths.1 fits.1 have.1 p.1)))

  min_formed : (cs : List Calc) → Each IsFormed cs → IsFormed (Min cs)
  unfolding simp
  min_formed [] h k l has = absurd (no_children (subst IsLength (shape-Min []) k))
  min_formed (c ∷ cs) h k l has =
      let (fits, lengths) = parts (c ∷ cs) (subst IsLength (shape-Min (c ∷ cs)) k) (subst (λ (s : Shape). s.fits ≡ true) (shape-Min (c ∷ cs)) l) in
      let have = chosen_has lesser (map (value m) (c ∷ cs)) has.0 (sym (value-Min m (c ∷ cs)) ∙ has.1) in
      by_form (Min (c ∷ cs)) (all_values (map stand (c ∷ cs))) (stand-Min (c ∷ cs)) (λ s.
      subst IsForm (sym (fold-Min (simp_step x) (c ∷ cs) ∙ ap (λ (b : Basis). simplified.one_or Min (simplified.choice_row (compares_percent b) lesser (map (simp x) (c ∷ cs)))) basis))
      (chosen_form Min (λ a b ds fs e. least fs e) (simplified.choice_row false lesser (map (simp x) (c ∷ cs))) (choice_of lesser (simp x c) (map (simp x) cs) (forms_formed (c ∷ cs) h lengths fits have s))))

  max_formed : (cs : List Calc) → Each IsFormed cs → IsFormed (Max cs)
  unfolding simp
  max_formed [] h k l has = absurd (no_children (subst IsLength (shape-Max []) k))
  max_formed (c ∷ cs) h k l has =
      let (fits, lengths) = parts (c ∷ cs) (subst IsLength (shape-Max (c ∷ cs)) k) (subst (λ (s : Shape). s.fits ≡ true) (shape-Max (c ∷ cs)) l) in
      let have = chosen_has greater (map (value m) (c ∷ cs)) has.0 (sym (value-Max m (c ∷ cs)) ∙ has.1) in
      by_form (Max (c ∷ cs)) (all_values (map stand (c ∷ cs))) (stand-Max (c ∷ cs)) (λ s.
      subst IsForm (sym (fold-Max (simp_step x) (c ∷ cs) ∙ ap (λ (b : Basis). simplified.one_or Max (simplified.choice_row (compares_percent b) greater (map (simp x) (c ∷ cs)))) basis))
      (chosen_form Max (λ a b ds fs e. greatest fs e) (simplified.choice_row false greater (map (simp x) (c ∷ cs))) (choice_of greater (simp x c) (map (simp x) cs) (forms_formed (c ∷ cs) h lengths fits have s))))

  product_formed : (cs : List Calc) → Each IsFormed cs → IsFormed (Product cs)
  unfolding simp
  product_formed cs h k l has =
      let (w, kind, len) = subst IsLength (shape-Product cs) k in
      let fits : (product_shape (map shape cs)).fits ≡ true = subst (λ (s : Shape). s.fits ≡ true) (shape-Product cs) l in
      let inner : Every Fits (map shape cs) = product_fits (map shape cs) ((w, kind), fits) in
      let have : Every HasValue (map (value m) cs) = product_has (map (value m) cs) has.0 (sym (value-Product m cs) ∙ has.1) in
      by_form (Product cs) (are_factors (map stand cs)) (stand-Product cs) (λ s.
      subst IsForm (sym (fold-Product (simp_step x) cs)) (go w len inner have s (product_typed w (map shape cs) (all_typed cs inner) kind fits)))
    where
      go : (w : NumType) → is_length_percentage w ≡ true → Every Fits (map shape cs) → Every HasValue (map (value m) cs) → are_factors (map stand cs) ≡ true → ProductParts w (map shape cs) → IsForm (simp_step x (layer.Product (map (simp x) cs)))
      go w len inner have s (inl p) = absurd (no_length w p.0 len)
      go w len inner have s (inr p) = multiplied_form (map (simp x) cs) (first_formed w len cs h p inner have s)

  negate_formed : (c : Calc) → IsFormed c → IsFormed (Negate c)
  unfolding simp
  negate_formed c h k l has =
      let inner : Placed c = h (subst IsLength (shape-Negate c) k) (subst (λ (s : Shape). s.fits ≡ true) (shape-Negate c) l) (negative_has (value m c) has.0 (sym (value-Negate m c) ∙ has.1)) in
      record {
        value = λ s. absurd (false_true (sym (ap (λ (t : Stand). t.value) (stand-Negate c)) ∙ s));
        term = λ s. subst IsTerm (sym (fold-Negate (simp_step x) c)) (negated_term (inner.value (sym (ap (λ (t : Stand). t.term) (stand-Negate c)) ∙ s)));
        factor = λ s. absurd (false_true (sym (ap (λ (t : Stand). t.factor) (stand-Negate c)) ∙ s));
      }

  invert_formed : (c : Calc) → IsFormed c → IsFormed (Invert c)
  invert_formed c h k l has =
      let (w, kind, len) = subst IsLength (shape-Invert c) k in
      let fits : (inverted_shape (shape c)).fits ≡ true = subst (λ (s : Shape). s.fits ≡ true) (shape-Invert c) l in
      let (front, numbers) = and_both ((shape c).fits && is_plain (shape c).kind) (shape c).numbers fits in
      let (inner, is) = and_both (shape c).fits (is_plain (shape c).kind) front in
      absurd (no_length w (sym (some_same plain w (ap (option_and_then negated) (sym (plain_is (shape c).kind is)) ∙ kind))) len)

  clamp_formed : (a b c : Calc) → IsFormed a → IsFormed b → IsFormed c → IsFormed (Clamp a b c)
  unfolding simp
  clamp_formed a b c h k l len fit has =
      let whole : IsLength (fold added_shape (shape a) (shape b ∷ shape c ∷ [])) = subst IsLength (shape-Clamp a b c) len in
      let fits : Fits (fold added_shape (shape a) (shape b ∷ shape c ∷ [])) = ((whole.0, whole.1), subst (λ (s : Shape). s.fits ≡ true) (shape-Clamp a b c) fit) in
      let (start, rest) = terms_fit (shape a) (shape b ∷ shape c ∷ []) fits in
      let (low, middle, high) = clamp_lengths a b c fits whole in
      let (first, others) = both_have greater (value m a) (both lesser (value m b) (value m c)) has.0 (sym (value-Clamp m a b c) ∙ has.1) in
      let (second, third) = both_have lesser (value m b) (value m c) others.0 others.1 in
      by_form (Clamp a b c) ((stand a).value && ((stand b).value && (stand c).value)) (stand-Clamp a b c) (λ s.
      let p = and_true (stand a).value ((stand b).value && (stand c).value) s in
      let q = and_true (stand b).value (stand c).value p.1 in
      subst IsForm (sym (fold-Clamp (simp_step x) a b c ∙ ap (λ (d : Basis). simplified.clamped (compares_percent d) (simp x a) (simp x b) (simp x c)) basis))
      (clamp_form (simp x a) (simp x b) (simp x c) ((h low start.1 first).value p.0) ((k middle rest.0.1 second).value q.0) ((l high rest.1.0.1 third).value q.1)))

  every_formed : (c : Calc) → IsFormed c
  every_formed = by_cases IsFormed record {
    num = num_formed;
    sum = sum_formed;
    product = product_formed;
    negate = negate_formed;
    invert = invert_formed;
    min = min_formed;
    max = max_formed;
    clamp = clamp_formed;
  }

  pub formed : (c : Calc) → IsLength (shape c) → (shape c).fits ≡ true → HasValue (value m c) → (stand c).value ≡ true → IsForm (simp x c)
  formed c k l has s = (every_formed c k l has).value s
