-- A linear calculation of the type of a unit holds units of this type and plain numbers alone.
use Rattle.std.specs.Prelude.{Bool, true, false, ◌&&◌, ◌||◌, List, [], ◌∷◌, map, Some}
use Rattle.std.specs.List.{list_all}
use Rattle.std.proofs.Common.{inl, inr, ◌≡◌, refl, sym, ◌∙◌, ap, subst}
use Rattle.cv_spec_ratio.specs.Ratio.{Ratio}
use Rattle.cv_calc.specs.declared.unit.Unit as units
use Rattle.cv_calc.specs.declared.unit.Unit.TheVariants.{Number}
use Rattle.cv_calc.specs.declared.calc.Calc.{Calc}
use Rattle.cv_calc.specs.declared.calc.Calc.TheVariants.{Num, Invert, Clamp}
use Rattle.cv_calc.specs.Factor.{canonical}
use Rattle.cv_calc.specs.Linear.{shape, sum_shape, product_shape, inverted_shape, is_plain, is_linear, has_type}
use Rattle.cv_calc.specs.Tree.{Each, by_cases, fold-Num}
use Rattle.cv_calc.specs.Types.{type_of, type_step, unit_type}
use Rattle.cv_calc.specs.Unit.{same_unit}
use Rattle.cv_calc.proofs.FoundTypes.{kind_is_type}
use Rattle.cv_calc.proofs.Shapes.{shape-Num, shape-Sum, shape-Product, shape-Negate, shape-Invert, shape-Min, shape-Max, shape-Clamp}
use Rattle.cv_calc_laws.specs.OfType.{HasTypeOf, is_of_type, UnitsAreOfType}
use Rattle.cv_calc_laws.specs.Units.{all_units}
use Rattle.cv_calc_laws.proofs.Factors.{Shape, IsPart, plain, terms_are, sum_parts, FactorsAre, product_parts}
use Rattle.cv_calc_laws.proofs.Folding.{all-Num, all-Sum, all-Product, all-Negate, all-Invert, all-Min, all-Max, all-Clamp}
use Rattle.cv_calc_laws.proofs.Lists.{Every, AllButOne, some_same, and_both, both_are}
use Rattle.cv_calc_laws.proofs.Named.{same_unit-refl}
use Rattle.cv_calc_laws.proofs.UnitTypes.{same_canonical, unit_hint, plain_is}

-- ---- a test that plain numbers pass

module _ (test : units.Unit → Bool) (numbers_pass : (t : units.Unit) → canonical t ≡ Number → test t ≡ true) where
  -- the units of one type pass
  abbrev Pass : units.Unit → Type 0
  Pass u = (t : units.Unit) → canonical t ≡ canonical u → test t ≡ true

  -- where the units of its type pass, so do those that it holds
  abbrev Holds : Calc → Type 0
  Holds c = (u : units.Unit) → Pass u → IsPart (unit_type u) (shape c) → all_units test c ≡ true

  abbrev all_of : List Calc → Bool
  all_of cs = list_all (λ b. b) (map (all_units test) cs)

  each_holds : (u : units.Unit) → Pass u → (cs : List Calc) → Each Holds cs → Every (IsPart (unit_type u)) (map shape cs) → all_of cs ≡ true
  each_holds u pass [] h parts = refl
  each_holds u pass (c ∷ cs) h parts = both_are (all_units test c) (all_of cs) (h.0 u pass parts.0) (each_holds u pass cs h.1 parts.1)

  but_one_holds : (u : units.Unit) → Pass u → (cs : List Calc) → Each Holds cs → AllButOne (IsPart plain) (IsPart (unit_type u)) (map shape cs) → all_of cs ≡ true
  but_one_holds u pass [] h parts = absurd parts
  but_one_holds u pass (c ∷ cs) h (inl parts) = both_are (all_units test c) (all_of cs) (h.0 Number numbers_pass parts.0) (but_one_holds u pass cs h.1 parts.1)
  but_one_holds u pass (c ∷ cs) h (inr parts) = both_are (all_units test c) (all_of cs) (h.0 u pass parts.0) (each_holds Number numbers_pass cs h.1 parts.1)

  sum_holds : (u : units.Unit) → Pass u → (cs : List Calc) → Each Holds cs → IsPart (unit_type u) (sum_shape (map shape cs)) → all_of cs ≡ true
  sum_holds u pass cs h part = each_holds u pass cs h (sum_parts (unit_type u) (unit_hint u) (map shape cs) part)

  product_holds : (u : units.Unit) → Pass u → (cs : List Calc) → Each Holds cs → IsPart (unit_type u) (product_shape (map shape cs)) → all_of cs ≡ true
  product_holds u pass cs h part = go (product_parts (unit_type u) (unit_hint u) (map shape cs) part)
    where
      go : FactorsAre (unit_type u) (map shape cs) → all_of cs ≡ true
      go (inl parts) = each_holds Number numbers_pass cs h parts.1
      go (inr parts) = but_one_holds u pass cs h parts.1

  num_holds : (v : Ratio) (t : units.Unit) → Holds (Num v t)
  num_holds v t u pass part =
      let same : unit_type t ≡ unit_type u = some_same (unit_type t) (unit_type u) (ap (λ (s : Shape). s.kind) (sym (shape-Num v t)) ∙ part.0) in
      all-Num test v t ∙ pass t (same_canonical t u same)

  invert_holds : (c : Calc) → Holds c → Holds (Invert c)
  invert_holds c h u pass part =
      let inverse : IsPart (unit_type u) (inverted_shape (shape c)) = subst (IsPart (unit_type u)) (shape-Invert c) part in
      let (front, numbers) = and_both ((shape c).fits && is_plain (shape c).kind) (shape c).numbers inverse.1 in
      let (fits, is) = and_both (shape c).fits (is_plain (shape c).kind) front in
      all-Invert test c ∙ h Number numbers_pass (plain_is (shape c).kind is, fits)

  clamp_holds : (a b c : Calc) → Holds a → Holds b → Holds c → Holds (Clamp a b c)
  clamp_holds a b c h k l u pass part =
      let (first, rest) = terms_are (unit_type u) (unit_hint u) (shape a) (shape b ∷ shape c ∷ []) (subst (IsPart (unit_type u)) (shape-Clamp a b c) part) in
      all-Clamp test a b c
      ∙ both_are (all_units test a && all_units test b) (all_units test c) (both_are (all_units test a) (all_units test b) (h u pass first) (k u pass rest.0)) (l u pass rest.1.0)

  pub every_holds : (c : Calc) → Holds c
  every_holds = by_cases Holds record {
    num = num_holds;
    sum = λ cs h u pass part. all-Sum test cs ∙ sum_holds u pass cs h (subst (IsPart (unit_type u)) (shape-Sum cs) part);
    product = λ cs h u pass part. all-Product test cs ∙ product_holds u pass cs h (subst (IsPart (unit_type u)) (shape-Product cs) part);
    negate = λ c h u pass part. all-Negate test c ∙ h u pass (subst (IsPart (unit_type u)) (shape-Negate c) part);
    invert = invert_holds;
    min = λ cs h u pass part. all-Min test cs ∙ sum_holds u pass cs h (subst (IsPart (unit_type u)) (shape-Min cs) part);
    max = λ cs h u pass part. all-Max test cs ∙ sum_holds u pass cs h (subst (IsPart (unit_type u)) (shape-Max cs) part);
    clamp = clamp_holds;
  }

-- ---- the units of a type

or_true : (b : Bool) → (b || true) ≡ true
or_true true = refl
or_true false = refl

number_is_of : (u t : units.Unit) → canonical t ≡ Number → is_of_type u t ≡ true
number_is_of u t e = ap (λ k. same_unit k (canonical u) || same_unit k Number) e ∙ or_true (same_unit Number (canonical u))

same_is_of : (u t : units.Unit) → canonical t ≡ canonical u → is_of_type u t ≡ true
same_is_of u t e =
    ap (λ k. same_unit k (canonical u) || same_unit k Number) e ∙ ap (λ b. b || same_unit (canonical u) Number) (same_unit-refl (canonical u))

of_tree : (u : units.Unit) (c : Calc) → HasTypeOf u c → all_units (is_of_type u) c ≡ true
unfolding is_linear
of_tree u c h =
    let (typed, fits) = and_both (has_type (shape c).kind) (shape c).fits h.linear in
    every_holds (is_of_type u) (number_is_of u) c u (same_is_of u) (kind_is_type c ∙ h.kind, fits)

number_is_linear : (v : Ratio) (u : units.Unit) → is_linear (Num v u) ≡ true
unfolding is_linear
number_is_linear v u = ap (λ (s : Shape). has_type s.kind && s.fits) (shape-Num v u)

number_type : (v : Ratio) (u : units.Unit) → type_of (Num v u) ≡ Some (unit_type u)
unfolding type_of
number_type v u = fold-Num type_step v u

pub units_are_of_type : UnitsAreOfType
units_are_of_type = record {
  of_number = λ v u. record { linear = number_is_linear v u; kind = number_type v u };
  of_tree = of_tree;
}
