-- The values of negatives and reciprocals.
use Rattle.std.specs.Prelude.{Bool, true, false, Option, Some, None, option_map, Result, Ok, if◌then◌else◌}
use Rattle.std.proofs.Common.{◌≡◌, refl, sym, ◌∙◌, ap}
use Rattle.cv_spec_ratio.specs.Ratio.{Ratio, mul, neg, reciprocal, one_ratio}
use Rattle.cv_spec_ratio.proofs.Laws.{neg-neg, neg-mul, mul_one}
use Rattle.cv_spec_ratio.proofs.Reciprocal.{reciprocal_twice}
use Rattle.cv_calc.specs.declared.unit.Unit as units
use Rattle.cv_calc.specs.declared.unit.Unit.TheVariants as unit
use Rattle.cv_calc.specs.declared.calc.Calc.{Calc}
use Rattle.cv_calc.specs.declared.calc.Calc.TheVariants.{Num, Sum, Product, Negate, Invert, Min, Max, Clamp}
use Rattle.cv_calc.specs.Tree.{by_cases, out-Num, out-Sum, out-Product, out-Negate, out-Invert, out-Min, out-Max, out-Clamp}
use Rattle.cv_calc.specs.Unit.{same_unit, same_unit-true}
use Rattle.cv_calc.specs.Value.{Meaning, unit_value, value, inverse_of as inverse_value}
use Rattle.cv_om.specs.declared.error.OmErr.{OmErr}
use Rattle.cv_om.specs.Arithmetic.{negated_as, negated, inverse_number, inverse_as, inverse_of}
use Rattle.cv_om_laws.proofs.Values.{value-Num, value-Negate, value-Invert}

some_same : (x y : Ratio) → ◌≡◌ {A = Option Ratio} (Some x) (Some y) → x ≡ y
some_same x y e = cc

module _ (m : Meaning) where
  -- ---- negatives

  abbrev NegativeIs : Calc → Type 0
  NegativeIs a = (x : Ratio) → value m a ≡ Some x → value m (negated a) ≡ Some (neg x)

  as_negative : (a : Calc) → negated a ≡ Negate a → NegativeIs a
  as_negative a e x h = ap (value m) e ∙ value-Negate m a ∙ ap (option_map neg) h

  turned_back : (o : Option Ratio) (x : Ratio) → option_map neg o ≡ Some x → o ≡ Some (neg x)
  turned_back None x e = cc
  turned_back (Some y) x e = ap Some (sym (neg-neg y) ∙ ap neg (some_same (neg y) x e))

  pub negative_is : (a : Calc) → NegativeIs a
  unfolding negated
  negative_is = by_cases NegativeIs record {
    num = λ v u x h.
        let same = some_same (mul v (unit_value m u)) x (sym (value-Num m v u) ∙ h) in
        ap (λ y. value m (negated_as (Num v u) y)) (out-Num v u) ∙ value-Num m (neg v) u ∙ ap Some (neg-mul v (unit_value m u) ∙ ap neg same);
    sum = λ cs hs. as_negative (Sum cs) (ap (negated_as (Sum cs)) (out-Sum cs));
    product = λ cs hs. as_negative (Product cs) (ap (negated_as (Product cs)) (out-Product cs));
    negate = λ c k x h. ap (λ y. value m (negated_as (Negate c) y)) (out-Negate c) ∙ turned_back (value m c) x (sym (value-Negate m c) ∙ h);
    invert = λ c k. as_negative (Invert c) (ap (negated_as (Invert c)) (out-Invert c));
    min = λ cs hs. as_negative (Min cs) (ap (negated_as (Min cs)) (out-Min cs));
    max = λ cs hs. as_negative (Max cs) (ap (negated_as (Max cs)) (out-Max cs));
    clamp = λ l n h kl kn kh. as_negative (Clamp l n h) (ap (negated_as (Clamp l n h)) (out-Clamp l n h));
  }

  -- ---- reciprocals

  abbrev InverseIs : Calc → Type 0
  InverseIs a = (s : Calc) → inverse_of a ≡ Ok s → (x r : Ratio) → value m a ≡ Some x → reciprocal x ≡ Some r → value m s ≡ Some r

  as_inverse : (a : Calc) → inverse_of a ≡ Ok (Invert a) → InverseIs a
  as_inverse a e s f x r h k = let same : s ≡ Invert a = same_ok (sym f ∙ e) in ap (value m) same ∙ value-Invert m a ∙ ap inverse_value h ∙ k
    where
      same_ok : {b c : Calc} → ◌≡◌ {A = Result Calc OmErr} (Ok b) (Ok c) → b ≡ c
      same_ok e = cc

  inner_is : (o : Option Ratio) (x r : Ratio) → inverse_value o ≡ Some x → reciprocal x ≡ Some r → o ≡ Some r
  inner_is None x r e h = cc
  inner_is (Some y) x r e h = let back : reciprocal x ≡ Some y = reciprocal_twice y x e in sym back ∙ h

  number_is : (v x r : Ratio) (s : Calc) → inverse_number (reciprocal v) ≡ Ok s → mul v one_ratio ≡ x → reciprocal x ≡ Some r → value m s ≡ Some r
  number_is v x r s e h k = go (reciprocal v) (ap reciprocal (sym (mul_one v) ∙ h) ∙ k) e
    where
      go : (o : Option Ratio) → o ≡ Some r → inverse_number o ≡ Ok s → value m s ≡ Some r
      go None f e = cc
      go (Some w) f e = let same : s ≡ Num w unit.Number = cc in ap (value m) same ∙ value-Num m w unit.Number ∙ ap Some (mul_one w) ∙ f

  pub inverse_is : (a : Calc) → InverseIs a
  unfolding inverse_of
  inverse_is = by_cases InverseIs record {
    num = λ v u s e x r h k. num_is v u (same_unit u unit.Number) refl s (sym (ap (inverse_as (Num v u)) (out-Num v u)) ∙ e) x r (some_same (mul v (unit_value m u)) x (sym (value-Num m v u) ∙ h)) k;
    sum = λ cs hs. as_inverse (Sum cs) (ap (inverse_as (Sum cs)) (out-Sum cs));
    product = λ cs hs. as_inverse (Product cs) (ap (inverse_as (Product cs)) (out-Product cs));
    negate = λ c k. as_inverse (Negate c) (ap (inverse_as (Negate c)) (out-Negate c));
    invert = λ c k s e x r h j.
        let is : ◌≡◌ {A = Result Calc OmErr} (Ok c) (Ok s) = sym (ap (inverse_as (Invert c)) (out-Invert c)) ∙ e in
        let same : s ≡ c = cc in ap (value m) same ∙ inner_is (value m c) x r (sym (value-Invert m c) ∙ h) j;
    min = λ cs hs. as_inverse (Min cs) (ap (inverse_as (Min cs)) (out-Min cs));
    max = λ cs hs. as_inverse (Max cs) (ap (inverse_as (Max cs)) (out-Max cs));
    clamp = λ l n h kl kn kh. as_inverse (Clamp l n h) (ap (inverse_as (Clamp l n h)) (out-Clamp l n h));
  }
    where
      num_is : (v : Ratio) (u : units.Unit) (b : Bool) → same_unit u unit.Number ≡ b → (s : Calc) → (if b then inverse_number (reciprocal v) else Ok (Invert (Num v u))) ≡ Ok s →
          (x r : Ratio) → mul v (unit_value m u) ≡ x → reciprocal x ≡ Some r → value m s ≡ Some r
      num_is v u true is s e x r h k = number_is v x r s e (ap (λ t. mul v (unit_value m t)) (sym (same_unit-true u unit.Number is)) ∙ h) k
      num_is v u false is s e x r h k = let same : s ≡ Invert (Num v u) = cc in ap (value m) same ∙ value-Invert m (Num v u) ∙ ap inverse_value (value-Num m v u ∙ ap Some h) ∙ k
