-- Two functions on calculations that differ only at numbers, of which the units that stand there are none.
use Rattle.std.specs.Prelude.{Bool, true, ◌&&◌, List, [], ◌∷◌, map}
use Rattle.std.specs.List.{list_all}
use Rattle.std.proofs.Common.{◌≡◌, refl, sym, ◌∙◌, ap, ap₂}
use Rattle.cv_spec_ratio.specs.Ratio.{Ratio}
use Rattle.cv_calc.specs.declared.unit.Unit as units
use Rattle.cv_calc.specs.declared.calc.Calc.{Calc}
use Rattle.cv_calc.specs.declared.calc.Calc.TheVariants.{Num, Sum, Product, Negate, Invert, Min, Max, Clamp}
use Rattle.cv_calc.specs.declared.calc.Calc.TheOpen.{Calc-F}
use Rattle.cv_calc.specs.declared.calc.Calc.TheOpen as layer
use Rattle.cv_calc.specs.declared.calc.Calc.TheFolds.{fold-Calc}
use Rattle.cv_calc.specs.Tree.{Each, by_cases, fold-Num, fold-Sum, fold-Product, fold-Negate, fold-Invert, fold-Min, fold-Max, fold-Clamp}
use Rattle.cv_calc_laws.specs.Units.{units_step, all_units}
use Rattle.cv_calc_laws.proofs.Lists.{and_both}

module _ (test : units.Unit → Bool) where
  pub all-Num : (v : Ratio) (u : units.Unit) → all_units test (Num v u) ≡ test u
  unfolding all_units
  all-Num v u = fold-Num (units_step test) v u

  pub all-Sum : (cs : List Calc) → all_units test (Sum cs) ≡ list_all (λ b. b) (map (all_units test) cs)
  unfolding all_units
  all-Sum cs = fold-Sum (units_step test) cs

  pub all-Product : (cs : List Calc) → all_units test (Product cs) ≡ list_all (λ b. b) (map (all_units test) cs)
  unfolding all_units
  all-Product cs = fold-Product (units_step test) cs

  pub all-Negate : (c : Calc) → all_units test (Negate c) ≡ all_units test c
  unfolding all_units
  all-Negate c = fold-Negate (units_step test) c

  pub all-Invert : (c : Calc) → all_units test (Invert c) ≡ all_units test c
  unfolding all_units
  all-Invert c = fold-Invert (units_step test) c

  pub all-Min : (cs : List Calc) → all_units test (Min cs) ≡ list_all (λ b. b) (map (all_units test) cs)
  unfolding all_units
  all-Min cs = fold-Min (units_step test) cs

  pub all-Max : (cs : List Calc) → all_units test (Max cs) ≡ list_all (λ b. b) (map (all_units test) cs)
  unfolding all_units
  all-Max cs = fold-Max (units_step test) cs

  pub all-Clamp : (a b c : Calc) → all_units test (Clamp a b c) ≡ (all_units test a && all_units test b && all_units test c)
  unfolding all_units
  all-Clamp a b c = fold-Clamp (units_step test) a b c

-- what two steps have to give alike
pub record StepsAgree {A : Type 0} (test : units.Unit → Bool) (f g : Calc-F A → A) : Type 0 where
  pub num : (v : Ratio) (u : units.Unit) → test u ≡ true → f (layer.Num v u) ≡ g (layer.Num v u)
  pub sum : (ss : List A) → f (layer.Sum ss) ≡ g (layer.Sum ss)
  pub product : (ss : List A) → f (layer.Product ss) ≡ g (layer.Product ss)
  pub negate : (s : A) → f (layer.Negate s) ≡ g (layer.Negate s)
  pub invert : (s : A) → f (layer.Invert s) ≡ g (layer.Invert s)
  pub min : (ss : List A) → f (layer.Min ss) ≡ g (layer.Min ss)
  pub max : (ss : List A) → f (layer.Max ss) ≡ g (layer.Max ss)
  pub clamp : (a b c : A) → f (layer.Clamp a b c) ≡ g (layer.Clamp a b c)

module _ {A : Type 0} (test : units.Unit → Bool) (f g : Calc-F A → A) (agree : StepsAgree test f g) where
  abbrev IsAlike : Calc → Type 0
  IsAlike c = all_units test c ≡ true → fold-Calc A f c ≡ fold-Calc A g c

  each_alike : (cs : List Calc) → Each IsAlike cs → list_all (λ b. b) (map (all_units test) cs) ≡ true → map (fold-Calc A f) cs ≡ map (fold-Calc A g) cs
  each_alike [] h k = refl
  each_alike (c ∷ cs) h k =
      let (first, rest) = and_both (all_units test c) (list_all (λ b. b) (map (all_units test) cs)) k in
      ap₂ (λ s ss. s ∷ ss) (h.0 first) (each_alike cs h.1 rest)

  pub folds_alike : (c : Calc) → IsAlike c
  folds_alike = by_cases IsAlike record {
    num = λ v u k. fold-Num f v u ∙ agree.num v u (sym (all-Num test v u) ∙ k) ∙ sym (fold-Num g v u);
    sum = λ cs h k. fold-Sum f cs ∙ ap (λ ss. f (layer.Sum ss)) (each_alike cs h (sym (all-Sum test cs) ∙ k)) ∙ agree.sum _ ∙ sym (fold-Sum g cs);
    product = λ cs h k. fold-Product f cs ∙ ap (λ ss. f (layer.Product ss)) (each_alike cs h (sym (all-Product test cs) ∙ k)) ∙ agree.product _ ∙ sym (fold-Product g cs);
    negate = λ c h k. fold-Negate f c ∙ ap (λ s. f (layer.Negate s)) (h (sym (all-Negate test c) ∙ k)) ∙ agree.negate _ ∙ sym (fold-Negate g c);
    invert = λ c h k. fold-Invert f c ∙ ap (λ s. f (layer.Invert s)) (h (sym (all-Invert test c) ∙ k)) ∙ agree.invert _ ∙ sym (fold-Invert g c);
    min = λ cs h k. fold-Min f cs ∙ ap (λ ss. f (layer.Min ss)) (each_alike cs h (sym (all-Min test cs) ∙ k)) ∙ agree.min _ ∙ sym (fold-Min g cs);
    max = λ cs h k. fold-Max f cs ∙ ap (λ ss. f (layer.Max ss)) (each_alike cs h (sym (all-Max test cs) ∙ k)) ∙ agree.max _ ∙ sym (fold-Max g cs);
    clamp = λ a b c h k l q.
        let (front, third) = and_both (all_units test a && all_units test b) (all_units test c) (sym (all-Clamp test a b c) ∙ q) in
        let (first, second) = and_both (all_units test a) (all_units test b) front in
        fold-Clamp f a b c
        ∙ (λ i. f (layer.Clamp (h first i) (k second i) (l third i)))
        ∙ agree.clamp _ _ _ ∙ sym (fold-Clamp g a b c);
  }
