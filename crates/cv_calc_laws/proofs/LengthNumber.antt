-- A linear length-percentage simplifies to one number of px, where percentages are parts of a known length.
use Rattle.std.specs.Prelude.{true, ◌&&◌, List, [], ◌∷◌, map, fold}
use Rattle.std.specs.Option.{option_and_then}
use Rattle.std.proofs.Common.{inl, inr, ◌≡◌, refl, sym, ◌∙◌, ap, subst}
use Rattle.cv_spec_ratio.specs.Ratio.{Ratio, mul, one_ratio}
use Rattle.cv_spec_ratio.specs.Order.{lesser, greater}
use Rattle.cv_spec_ratio.proofs.Laws.{mul_one}
use Rattle.cv_calc.specs.declared.unit.NumType.{NumType}
use Rattle.cv_calc.specs.declared.unit.Unit as units
use Rattle.cv_calc.specs.declared.unit.Unit.TheVariants.{Number, Percent, Px, Deg, Grad, Turn, S, Ms, Hz, Khz, Dppx, X, Dpi, Dpcm, Fr}
use Rattle.cv_calc.specs.declared.context.Basis.TheVariants.{Of}
use Rattle.cv_calc.specs.declared.context.Context.{Context}
use Rattle.cv_calc.specs.declared.calc.Calc.{Calc}
use Rattle.cv_calc.specs.declared.calc.Calc.TheOpen as layer
use Rattle.cv_calc.specs.declared.calc.Calc.TheVariants.{Num, Sum, Product, Negate, Invert, Min, Max, Clamp}
use Rattle.cv_calc.specs.Factor.{factor, hundredth, sizes_of}
use Rattle.cv_calc.specs.Linear.{shape, added_shape, sum_shape, product_shape, inverted_shape, is_plain, is_linear, has_type}
use Rattle.cv_calc.specs.Tree.{Each, by_cases, fold-Num, fold-Sum, fold-Product, fold-Negate, fold-Min, fold-Max, fold-Clamp}
use Rattle.cv_calc.specs.Types.{unit_type, negated}
use Rattle.cv_calc.specs.Value.{Meaning, value, both}
use Rattle.cv_calc.proofs.FoundTypes.{kind_is_type}
use Rattle.cv_calc.proofs.Shapes.{shape-Num, shape-Sum, shape-Product, shape-Negate, shape-Invert, shape-Min, shape-Max, shape-Clamp}
use Rattle.cv_calc.proofs.Values.{value-Num, value-Sum, value-Negate}
use Rattle.cv_simplify.specs.Agrees.{Agrees}
use Rattle.cv_simplify.specs.Simplified.{percent_in, number_in, compares_percent, simp, simp_step}
use Rattle.cv_simplify.proofs.Kept.{simp_kept}
use Rattle.cv_calc_laws.specs.Single.{is_length_percentage, LengthsSimplifyToValue, AnswersAreLengths}
use Rattle.cv_calc_laws.proofs.Lists.{Every, AllButOne, none_some, some_same, false_true, and_both}
use Rattle.cv_calc_laws.proofs.UnitTypes.{plain_is}
use Rattle.cv_calc_laws.proofs.Factors.{Shape, plain}
use Rattle.cv_calc_laws.proofs.Rows.{IsNum, summed_one, chosen_one, clamped_one, negated_one}
use Rattle.cv_calc_laws.proofs.ProductRows.{multiplied_mixed}
use Rattle.cv_calc_laws.proofs.Defined.{HasValue, value-Product, value-Min, value-Max, value-Clamp, both_have, sum_has, product_has, chosen_has, negative_has}
use Rattle.cv_calc_laws.proofs.MixedFactors.{IsPlainKind, IsOf, ProductParts}
use Rattle.cv_calc_laws.proofs.OneNumber.{every_calc, may_number, stands}
use Rattle.cv_calc_laws.proofs.AnsweredNumbers.{answers_have_values, meaning_of, meaning_agrees}
use Rattle.cv_calc_laws.proofs.TypedTrees.{IsLength, sum_typed, product_typed, all_typed, clamp_lengths}
use Rattle.cv_calc_laws.proofs.Valued.{Fits, terms_fit, sum_fits, product_fits}

length_single : (x : Context) (f v : Ratio) (u : units.Unit) → x.basis ≡ Of f → is_length_percentage (unit_type u) ≡ true → IsNum Px (number_in x v u)
length_single x f v Percent b h = (mul v (mul f hundredth), ap (λ c. percent_in c v) b)
length_single x f v Number b h = absurd (false_true h)
length_single x f v Deg b h = absurd (false_true h)
length_single x f v Grad b h = absurd (false_true h)
length_single x f v Turn b h = absurd (false_true h)
length_single x f v S b h = absurd (false_true h)
length_single x f v Ms b h = absurd (false_true h)
length_single x f v Hz b h = absurd (false_true h)
length_single x f v Khz b h = absurd (false_true h)
length_single x f v Dppx b h = absurd (false_true h)
length_single x f v X b h = absurd (false_true h)
length_single x f v Dpi b h = absurd (false_true h)
length_single x f v Dpcm b h = absurd (false_true h)
length_single x f v Fr b h = absurd (false_true h)
length_single x f v u b h = (mul v (factor (sizes_of x) u), refl)

-- a plain number is no length
no_length : (w : NumType) → w ≡ plain → is_length_percentage w ≡ true → ⊥
no_length w e h = false_true (ap is_length_percentage (sym e) ∙ h)

module _ (m : Meaning) (x : Context) (ag : Agrees m x) (f : Ratio) (part : x.basis ≡ Of f) where
  -- it simplifies to a number of px
  abbrev IsSingle : Calc → Type 0
  IsSingle c = IsLength (shape c) → (shape c).fits ≡ true → HasValue (value m c) → IsNum Px (simp x c)

  every_single : (cs : List Calc) → Each IsSingle cs → Every IsLength (map shape cs) → Every Fits (map shape cs) → Every HasValue (map (value m) cs) → Every (IsNum Px) (map (simp x) cs)
  every_single [] h k l has = tt
  every_single (c ∷ cs) h k l has = (h.0 k.0 l.0.1 has.0, every_single cs h.1 k.1 l.1 has.1)

  plain_single : (c : Calc) → IsPlainKind (shape c) → Fits (shape c) → HasValue (value m c) → IsNum Number (simp x c)
  plain_single c k l has = every_calc m x ag c Number (may_number (compares_percent x.basis)) (k, l.1) has

  plains_single : (cs : List Calc) → Every IsPlainKind (map shape cs) → Every Fits (map shape cs) → Every HasValue (map (value m) cs) → Every (IsNum Number) (map (simp x) cs)
  plains_single [] k l has = tt
  plains_single (c ∷ cs) k l has = (plain_single c k.0 l.0 has.0, plains_single cs k.1 l.1 has.1)

  all_but_single : (w : NumType) → is_length_percentage w ≡ true → (cs : List Calc) → Each IsSingle cs → AllButOne IsPlainKind (IsOf w) (map shape cs) → Every Fits (map shape cs) → Every HasValue (map (value m) cs) → AllButOne (IsNum Number) (IsNum Px) (map (simp x) cs)
  all_but_single w len [] h k l has = absurd k
  all_but_single w len (c ∷ cs) h (inl k) l has = inl (plain_single c k.0 l.0 has.0, all_but_single w len cs h.1 k.1 l.1 has.1)
  all_but_single w len (c ∷ cs) h (inr k) l has = inr (h.0 (w, k.0, len) l.0.1 has.0, plains_single cs k.1 l.1 has.1)

  num_single : (v : Ratio) (u : units.Unit) → IsSingle (Num v u)
  unfolding simp
  num_single v u k l has =
      let same : k.0 ≡ unit_type u = some_same k.0 (unit_type u) (sym k.1 ∙ ap (λ (s : Shape). s.kind) (shape-Num v u)) in
      subst (IsNum Px) (sym (fold-Num (simp_step x) v u)) (length_single x f v u part (ap is_length_percentage (sym same) ∙ k.2))

  -- the terms of a sum
  terms_single : (cs : List Calc) → Each IsSingle cs → IsLength (sum_shape (map shape cs)) → (sum_shape (map shape cs)).fits ≡ true → Every HasValue (map (value m) cs) → Every (IsNum Px) (map (simp x) cs)
  terms_single cs h k l has =
      let fits : Fits (sum_shape (map shape cs)) = ((k.0, k.1), l) in
      let parts : Every Fits (map shape cs) = sum_fits (map shape cs) fits in
      every_single cs h ((sum_typed (map shape cs) (all_typed cs parts) fits).1 k) parts has

  no_terms : IsLength (sum_shape []) → ⊥
  unfolding sum_shape
  no_terms k = none_some k.0 k.1

  sum_single : (cs : List Calc) → Each IsSingle cs → IsSingle (Sum cs)
  unfolding simp
  sum_single [] h k l has = absurd (no_terms (subst IsLength (shape-Sum []) k))
  sum_single (c ∷ cs) h k l has =
      subst (IsNum Px) (sym (fold-Sum (simp_step x) (c ∷ cs)))
      (summed_one Px (simp x c) (map (simp x) cs)
      (terms_single (c ∷ cs) h (subst IsLength (shape-Sum (c ∷ cs)) k) (subst (λ (s : Shape). s.fits ≡ true) (shape-Sum (c ∷ cs)) l) (sum_has (map (value m) (c ∷ cs)) has.0 (sym (value-Sum m (c ∷ cs)) ∙ has.1))))

  min_single : (cs : List Calc) → Each IsSingle cs → IsSingle (Min cs)
  unfolding simp
  min_single [] h k l has = absurd (no_terms (subst IsLength (shape-Min []) k))
  min_single (c ∷ cs) h k l has =
      subst (IsNum Px) (sym (fold-Min (simp_step x) (c ∷ cs)))
      (chosen_one Px (compares_percent x.basis) lesser Min (stands (compares_percent x.basis)) (simp x c) (map (simp x) cs)
      (terms_single (c ∷ cs) h (subst IsLength (shape-Min (c ∷ cs)) k) (subst (λ (s : Shape). s.fits ≡ true) (shape-Min (c ∷ cs)) l) (chosen_has lesser (map (value m) (c ∷ cs)) has.0 (sym (value-Min m (c ∷ cs)) ∙ has.1))))

  max_single : (cs : List Calc) → Each IsSingle cs → IsSingle (Max cs)
  unfolding simp
  max_single [] h k l has = absurd (no_terms (subst IsLength (shape-Max []) k))
  max_single (c ∷ cs) h k l has =
      subst (IsNum Px) (sym (fold-Max (simp_step x) (c ∷ cs)))
      (chosen_one Px (compares_percent x.basis) greater Max (stands (compares_percent x.basis)) (simp x c) (map (simp x) cs)
      (terms_single (c ∷ cs) h (subst IsLength (shape-Max (c ∷ cs)) k) (subst (λ (s : Shape). s.fits ≡ true) (shape-Max (c ∷ cs)) l) (chosen_has greater (map (value m) (c ∷ cs)) has.0 (sym (value-Max m (c ∷ cs)) ∙ has.1))))

  product_single : (cs : List Calc) → Each IsSingle cs → IsSingle (Product cs)
  unfolding simp
  product_single cs h k l has =
      let (w, kind, len) = subst IsLength (shape-Product cs) k in
      let fits : (product_shape (map shape cs)).fits ≡ true = subst (λ (s : Shape). s.fits ≡ true) (shape-Product cs) l in
      let parts : Every Fits (map shape cs) = product_fits (map shape cs) ((w, kind), fits) in
      let have : Every HasValue (map (value m) cs) = product_has (map (value m) cs) has.0 (sym (value-Product m cs) ∙ has.1) in
      subst (IsNum Px) (sym (fold-Product (simp_step x) cs)) (go w len parts have (product_typed w (map shape cs) (all_typed cs parts) kind fits))
    where
      go : (w : NumType) → is_length_percentage w ≡ true → Every Fits (map shape cs) → Every HasValue (map (value m) cs) → ProductParts w (map shape cs) → IsNum Px (simp_step x (layer.Product (map (simp x) cs)))
      go w len parts have (inl p) = absurd (no_length w p.0 len)
      go w len parts have (inr p) = multiplied_mixed Px refl (map (simp x) cs) (all_but_single w len cs h p parts have)

  negate_single : (c : Calc) → IsSingle c → IsSingle (Negate c)
  unfolding simp
  negate_single c h k l has =
      subst (IsNum Px) (sym (fold-Negate (simp_step x) c))
      (negated_one Px (simp x c) (h (subst IsLength (shape-Negate c) k) (subst (λ (s : Shape). s.fits ≡ true) (shape-Negate c) l) (negative_has (value m c) has.0 (sym (value-Negate m c) ∙ has.1))))

  invert_single : (c : Calc) → IsSingle c → IsSingle (Invert c)
  invert_single c h k l has =
      let (w, kind, len) = subst IsLength (shape-Invert c) k in
      let fits : (inverted_shape (shape c)).fits ≡ true = subst (λ (s : Shape). s.fits ≡ true) (shape-Invert c) l in
      let (front, numbers) = and_both ((shape c).fits && is_plain (shape c).kind) (shape c).numbers fits in
      let (inner, is) = and_both (shape c).fits (is_plain (shape c).kind) front in
      absurd (no_length w (sym (some_same plain w (ap (option_and_then negated) (sym (plain_is (shape c).kind is)) ∙ kind))) len)

  clamp_single : (a b c : Calc) → IsSingle a → IsSingle b → IsSingle c → IsSingle (Clamp a b c)
  unfolding simp
  clamp_single a b c h k l len fit has =
      let whole : IsLength (fold added_shape (shape a) (shape b ∷ shape c ∷ [])) = subst IsLength (shape-Clamp a b c) len in
      let fits : Fits (fold added_shape (shape a) (shape b ∷ shape c ∷ [])) = ((whole.0, whole.1), subst (λ (s : Shape). s.fits ≡ true) (shape-Clamp a b c) fit) in
      let (start, rest) = terms_fit (shape a) (shape b ∷ shape c ∷ []) fits in
      let (low, middle, high) = clamp_lengths a b c fits whole in
      let (first, others) = both_have greater (value m a) (both lesser (value m b) (value m c)) has.0 (sym (value-Clamp m a b c) ∙ has.1) in
      let (second, third) = both_have lesser (value m b) (value m c) others.0 others.1 in
      subst (IsNum Px) (sym (fold-Clamp (simp_step x) a b c))
      (clamped_one Px (compares_percent x.basis) (stands (compares_percent x.basis)) (simp x a) (simp x b) (simp x c) (h low start.1 first) (k middle rest.0.1 second) (l high rest.1.0.1 third))

  every_length : (c : Calc) → IsSingle c
  every_length = by_cases IsSingle record {
    num = num_single;
    sum = sum_single;
    product = product_single;
    negate = negate_single;
    invert = invert_single;
    min = min_single;
    max = max_single;
    clamp = clamp_single;
  }

-- ---- the laws

pub lengths_simplify_to_value : LengthsSimplifyToValue
unfolding is_linear
lengths_simplify_to_value x c h m ag r has =
    let (typed, fits) = and_both (has_type (shape c).kind) (shape c).fits h.linear in
    let (v, is) = every_length m x ag h.whole h.part c (h.kind, kind_is_type c ∙ h.typed, h.taken) fits (r, has) in
    let same : v ≡ r = sym (mul_one v) ∙ some_same (mul v one_ratio) r (sym (value-Num m v Px) ∙ ap (value m) (sym is) ∙ simp_kept x c m ag r has) in
    is ∙ ap (λ w. Num w Px) same

pub answers_are_lengths : AnswersAreLengths
answers_are_lengths x tokens c e h =
    let (r, is) = answers_have_values tokens c e h.linear (meaning_of x) in
    (r, lengths_simplify_to_value x c h (meaning_of x) (meaning_agrees x) r is)
