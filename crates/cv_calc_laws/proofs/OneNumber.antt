-- A linear calculation of the type of a unit simplifies to one number, which is its value.
use Rattle.std.specs.Prelude.{Bool, true, false, ◌&&◌, not, List, [], ◌∷◌, map, Some, if◌then◌else◌}
use Rattle.std.specs.Option.{option_and_then}
use Rattle.std.proofs.Common.{inl, inr, ◌≡◌, refl, sym, ◌∙◌, ap, subst}
use Rattle.cv_spec_ratio.specs.Ratio.{Ratio, mul, one_ratio, reciprocal}
use Rattle.cv_spec_ratio.specs.Order.{lesser, greater}
use Rattle.cv_spec_ratio.proofs.Laws.{mul_one}
use Rattle.cv_calc.specs.declared.unit.Unit as units
use Rattle.cv_calc.specs.declared.unit.Unit.TheVariants.{Number, Percent}
use Rattle.cv_calc.specs.declared.context.Basis.{Basis}
use Rattle.cv_calc.specs.declared.context.Basis.TheVariants.{Plain, Length, Of}
use Rattle.cv_calc.specs.declared.context.Context.{Context}
use Rattle.cv_calc.specs.declared.calc.Calc.{Calc}
use Rattle.cv_calc.specs.declared.calc.Calc.TheOpen as layer
use Rattle.cv_calc.specs.declared.calc.Calc.TheVariants.{Num, Sum, Product, Negate, Invert, Min, Max, Clamp}
use Rattle.cv_calc.specs.Factor.{canonical, factor, sizes_of}
use Rattle.cv_calc.specs.Linear.{shape, sum_shape, product_shape, inverted_shape, is_plain, is_linear, has_type}
use Rattle.cv_calc.specs.Tree.{Each, by_cases, fold-Num, fold-Sum, fold-Product, fold-Negate, fold-Invert, fold-Min, fold-Max, fold-Clamp}
use Rattle.cv_calc.specs.Types.{unit_type, negated, product_type}
use Rattle.cv_calc.specs.Unit.{same_unit}
use Rattle.cv_calc.specs.Value.{Meaning, unit_value, value, both}
use Rattle.cv_calc.proofs.FoundTypes.{kind_is_type}
use Rattle.cv_calc.proofs.Shapes.{shape-Num, shape-Sum, shape-Product, shape-Negate, shape-Invert, shape-Min, shape-Max, shape-Clamp}
use Rattle.cv_calc.proofs.Values.{value-Num, value-Sum, value-Negate, value-Invert}
use Rattle.cv_simplify.specs.Agrees.{Agrees, AgreesPercent}
use Rattle.cv_simplify.specs.Simplified.{percent_in, number_in, compares_percent, may_compare, simp, simp_step}
use Rattle.cv_simplify.proofs.Kept.{simp_kept}
use Rattle.cv_calc_laws.specs.Single.{SimplifiesToValue}
use Rattle.cv_calc_laws.proofs.Lists.{Every, AllButOne, none_some, some_same, false_true, and_both}
use Rattle.cv_calc_laws.proofs.UnitTypes.{same_canonical, unit_hint, plain_is, plain_unit}
use Rattle.cv_calc_laws.proofs.Factors.{Shape, IsPart, plain, terms_are, sum_parts, FactorsAre, product_parts}
use Rattle.cv_calc_laws.proofs.Rows.{IsNum, summed_one, chosen_one, clamped_one, negated_one, inverted_one}
use Rattle.cv_calc_laws.proofs.ProductRows.{multiplied_numbers, multiplied_mixed}
use Rattle.cv_calc_laws.proofs.Defined.{HasValue, value-Product, value-Min, value-Max, value-Clamp, both_have, sum_has, product_has, chosen_has, negative_has, inverse_has}

percent_single : (v : Ratio) (b : Basis) (k : units.Unit) → may_compare (compares_percent b) k ≡ true → Percent ≡ k → IsNum k (percent_in b v)
percent_single v Plain k ok e = (v, ap (Num v) e)
percent_single v Length k ok e = absurd (false_true (ap (λ t. not (same_unit t Percent)) e ∙ ok))
percent_single v (Of f) k ok e = absurd (false_true (ap (λ t. not (same_unit t Percent)) e ∙ ok))

number_single : (x : Context) (v : Ratio) (u k : units.Unit) → may_compare (compares_percent x.basis) k ≡ true → canonical u ≡ k → IsNum k (number_in x v u)
number_single x v Percent k ok e = percent_single v x.basis k ok e
number_single x v u k ok e = (mul v (factor (sizes_of x) u), ap (Num (mul v (factor (sizes_of x) u))) e)

pub may_number : (b : Bool) → may_compare b (canonical Number) ≡ true
may_number true = refl
may_number false = refl

module _ (m : Meaning) (x : Context) (ag : Agrees m x) where
  -- it simplifies to a number of the unit of its type
  abbrev IsSingle : Calc → Type 0
  IsSingle c = (u : units.Unit) → may_compare (compares_percent x.basis) (canonical u) ≡ true → IsPart (unit_type u) (shape c) → HasValue (value m c) → IsNum (canonical u) (simp x c)

  every_single : (u : units.Unit) → may_compare (compares_percent x.basis) (canonical u) ≡ true → (cs : List Calc) → Each IsSingle cs → Every (IsPart (unit_type u)) (map shape cs) → Every HasValue (map (value m) cs) → Every (IsNum (canonical u)) (map (simp x) cs)
  every_single u ok [] h parts has = tt
  every_single u ok (c ∷ cs) h parts has = (h.0 u ok parts.0 has.0, every_single u ok cs h.1 parts.1 has.1)

  all_but_single : (u : units.Unit) → may_compare (compares_percent x.basis) (canonical u) ≡ true → (cs : List Calc) → Each IsSingle cs → AllButOne (IsPart plain) (IsPart (unit_type u)) (map shape cs) → Every HasValue (map (value m) cs) → AllButOne (IsNum Number) (IsNum (canonical u)) (map (simp x) cs)
  all_but_single u ok [] h parts has = absurd parts
  all_but_single u ok (c ∷ cs) h (inl parts) has = inl (h.0 Number (may_number (compares_percent x.basis)) parts.0 has.0, all_but_single u ok cs h.1 parts.1 has.1)
  all_but_single u ok (c ∷ cs) h (inr parts) has = inr (h.0 u ok parts.0 has.0, every_single Number (may_number (compares_percent x.basis)) cs h.1 parts.1 has.1)

  -- where it is a plain number, this is its value
  value_same : (c : Calc) (v w : Ratio) → value m c ≡ Some v → simp x c ≡ Num w Number → w ≡ v
  value_same c v w has is =
      sym (mul_one w) ∙ some_same (mul w one_ratio) v (sym (value-Num m w Number) ∙ ap (value m) (sym is) ∙ simp_kept x c m ag v has)

  num_single : (v : Ratio) (w : units.Unit) → IsSingle (Num v w)
  unfolding simp
  num_single v w u ok part has =
      let same : unit_type w ≡ unit_type u = some_same (unit_type w) (unit_type u) (ap (λ (s : Shape). s.kind) (sym (shape-Num v w)) ∙ part.0) in
      subst (IsNum (canonical u)) (sym (fold-Num (simp_step x) v w)) (number_single x v w (canonical u) ok (same_canonical w u same))

  no_sum : (u : units.Unit) → IsPart (unit_type u) (sum_shape []) → ⊥
  unfolding sum_shape
  no_sum u part = none_some (unit_type u) part.0

  sum_single : (cs : List Calc) → Each IsSingle cs → IsSingle (Sum cs)
  unfolding simp
  sum_single [] h u ok part has = absurd (no_sum u (subst (IsPart (unit_type u)) (shape-Sum []) part))
  sum_single (c ∷ cs) h u ok part has =
      let parts : Every (IsPart (unit_type u)) (map shape (c ∷ cs)) = sum_parts (unit_type u) (unit_hint u) (map shape (c ∷ cs)) (subst (IsPart (unit_type u)) (shape-Sum (c ∷ cs)) part) in
      let have : Every HasValue (map (value m) (c ∷ cs)) = sum_has (map (value m) (c ∷ cs)) has.0 (sym (value-Sum m (c ∷ cs)) ∙ has.1) in
      subst (IsNum (canonical u)) (sym (fold-Sum (simp_step x) (c ∷ cs))) (summed_one (canonical u) (simp x c) (map (simp x) cs) (every_single u ok (c ∷ cs) h parts have))

  min_single : (cs : List Calc) → Each IsSingle cs → IsSingle (Min cs)
  unfolding simp
  min_single [] h u ok part has = absurd (no_sum u (subst (IsPart (unit_type u)) (shape-Min []) part))
  min_single (c ∷ cs) h u ok part has =
      let parts : Every (IsPart (unit_type u)) (map shape (c ∷ cs)) = sum_parts (unit_type u) (unit_hint u) (map shape (c ∷ cs)) (subst (IsPart (unit_type u)) (shape-Min (c ∷ cs)) part) in
      let have : Every HasValue (map (value m) (c ∷ cs)) = chosen_has lesser (map (value m) (c ∷ cs)) has.0 (sym (value-Min m (c ∷ cs)) ∙ has.1) in
      subst (IsNum (canonical u)) (sym (fold-Min (simp_step x) (c ∷ cs)))
      (chosen_one (canonical u) (compares_percent x.basis) lesser Min ok (simp x c) (map (simp x) cs) (every_single u ok (c ∷ cs) h parts have))

  max_single : (cs : List Calc) → Each IsSingle cs → IsSingle (Max cs)
  unfolding simp
  max_single [] h u ok part has = absurd (no_sum u (subst (IsPart (unit_type u)) (shape-Max []) part))
  max_single (c ∷ cs) h u ok part has =
      let parts : Every (IsPart (unit_type u)) (map shape (c ∷ cs)) = sum_parts (unit_type u) (unit_hint u) (map shape (c ∷ cs)) (subst (IsPart (unit_type u)) (shape-Max (c ∷ cs)) part) in
      let have : Every HasValue (map (value m) (c ∷ cs)) = chosen_has greater (map (value m) (c ∷ cs)) has.0 (sym (value-Max m (c ∷ cs)) ∙ has.1) in
      subst (IsNum (canonical u)) (sym (fold-Max (simp_step x) (c ∷ cs)))
      (chosen_one (canonical u) (compares_percent x.basis) greater Max ok (simp x c) (map (simp x) cs) (every_single u ok (c ∷ cs) h parts have))

  no_product : (u : units.Unit) → IsPart (unit_type u) (product_shape []) → ⊥
  unfolding product_shape product_type
  no_product u part = none_some (unit_type u) part.0

  product_single : (cs : List Calc) → Each IsSingle cs → IsSingle (Product cs)
  unfolding simp
  product_single [] h u ok part has = absurd (no_product u (subst (IsPart (unit_type u)) (shape-Product []) part))
  product_single (c ∷ cs) h u ok part has =
      let have : Every HasValue (map (value m) (c ∷ cs)) = product_has (map (value m) (c ∷ cs)) has.0 (sym (value-Product m (c ∷ cs)) ∙ has.1) in
      subst (IsNum (canonical u)) (sym (fold-Product (simp_step x) (c ∷ cs)))
      (go have (product_parts (unit_type u) (unit_hint u) (map shape (c ∷ cs)) (subst (IsPart (unit_type u)) (shape-Product (c ∷ cs)) part)))
    where
      go : Every HasValue (map (value m) (c ∷ cs)) → FactorsAre (unit_type u) (map shape (c ∷ cs)) → IsNum (canonical u) (simp_step x (layer.Product (map (simp x) (c ∷ cs))))
      go have (inl parts) =
          subst (λ k. IsNum k (simp_step x (layer.Product (map (simp x) (c ∷ cs))))) (sym (same_canonical u Number parts.0))
          (multiplied_numbers (simp x c) (map (simp x) cs) (every_single Number (may_number (compares_percent x.basis)) (c ∷ cs) h parts.1 have))
      go have (inr parts) = multiplied_mixed (canonical u) (sym (plain_unit u) ∙ parts.0) (map (simp x) (c ∷ cs)) (all_but_single u ok (c ∷ cs) h parts.1 have)

  negate_single : (c : Calc) → IsSingle c → IsSingle (Negate c)
  unfolding simp
  negate_single c h u ok part has =
      subst (IsNum (canonical u)) (sym (fold-Negate (simp_step x) c))
      (negated_one (canonical u) (simp x c) (h u ok (subst (IsPart (unit_type u)) (shape-Negate c) part) (negative_has (value m c) has.0 (sym (value-Negate m c) ∙ has.1))))

  invert_single : (c : Calc) → IsSingle c → IsSingle (Invert c)
  unfolding simp
  invert_single c h u ok part has =
      let inverse : IsPart (unit_type u) (inverted_shape (shape c)) = subst (IsPart (unit_type u)) (shape-Invert c) part in
      let (front, numbers) = and_both ((shape c).fits && is_plain (shape c).kind) (shape c).numbers inverse.1 in
      let (fits, is) = and_both (shape c).fits (is_plain (shape c).kind) front in
      let kind : (shape c).kind ≡ Some plain = plain_is (shape c).kind is in
      let same : unit_type u ≡ plain = sym (some_same plain (unit_type u) (ap (option_and_then negated) (sym kind) ∙ inverse.0)) in
      let (v, value_is, gives) = inverse_has (value m c) has.0 (sym (value-Invert m c) ∙ has.1) in
      let (w, number) = h Number (may_number (compares_percent x.basis)) (kind, fits) (v, value_is) in
      subst (λ k. IsNum k (simp x (Invert c))) (sym (same_canonical u Number same))
      (subst (IsNum Number) (sym (fold-Invert (simp_step x) c)) (inverted_one (simp x c) w has.0 number (ap reciprocal (value_same c v w value_is number) ∙ gives)))

  clamp_single : (a b c : Calc) → IsSingle a → IsSingle b → IsSingle c → IsSingle (Clamp a b c)
  unfolding simp
  clamp_single a b c h k l u ok part has =
      let (start, rest) = terms_are (unit_type u) (unit_hint u) (shape a) (shape b ∷ shape c ∷ []) (subst (IsPart (unit_type u)) (shape-Clamp a b c) part) in
      let (first, others) = both_have greater (value m a) (both lesser (value m b) (value m c)) has.0 (sym (value-Clamp m a b c) ∙ has.1) in
      let (second, third) = both_have lesser (value m b) (value m c) others.0 others.1 in
      subst (IsNum (canonical u)) (sym (fold-Clamp (simp_step x) a b c))
      (clamped_one (canonical u) (compares_percent x.basis) ok (simp x a) (simp x b) (simp x c) (h u ok start first) (k u ok rest.0 second) (l u ok rest.1.0 third))

  pub every_calc : (c : Calc) → IsSingle c
  every_calc = by_cases IsSingle record {
    num = num_single;
    sum = sum_single;
    product = product_single;
    negate = negate_single;
    invert = invert_single;
    min = min_single;
    max = max_single;
    clamp = clamp_single;
  }

-- ---- the law

pub stands : (b : Bool) → (if b then true else true) ≡ true
stands true = refl
stands false = refl

may : (b : Basis) (u : units.Unit) → (u ≡ Percent → b ≡ Plain) → may_compare (compares_percent b) (canonical u) ≡ true
may b Percent h = ap (λ c. may_compare (compares_percent c) Percent) (h refl)
may b u h = stands (compares_percent b)

one_is_one : (m : Meaning) (x : Context) → Agrees m x → (u : units.Unit) → (u ≡ Percent → x.basis ≡ Plain) → unit_value m (canonical u) ≡ one_ratio
one_is_one m x ag Percent h = subst (λ b. AgreesPercent b m.percent) (h refl) ag.percent
one_is_one m x ag u h = refl

pub simplifies_to_value : SimplifiesToValue
unfolding is_linear
simplifies_to_value x u c h m ag r has =
    let (typed, fits) = and_both (has_type (shape c).kind) (shape c).fits h.linear in
    let (v, is) = every_calc m x ag c u (may x.basis u h.plain) (kind_is_type c ∙ h.kind, fits) (r, has) in
    let same : v ≡ r =
    sym (mul_one v) ∙ ap (mul v) (sym (one_is_one m x ag u h.plain))
    ∙ some_same (mul v (unit_value m (canonical u))) r (sym (value-Num m v (canonical u)) ∙ ap (value m) (sym is) ∙ simp_kept x c m ag r has) in
    is ∙ ap (λ w. Num w (canonical u)) same
