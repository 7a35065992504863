-- What is made into a math function has a type.
use Rattle.std.specs.Prelude.{true, [], ◌∷◌}
use Rattle.std.proofs.Common.{◌≡◌, sym, ◌∙◌, ap}
use Rattle.cv_spec_ratio.specs.Ratio.{Ratio}
use Rattle.cv_calc.specs.declared.unit.Unit.{Unit}
use Rattle.cv_calc.specs.declared.calc.Calc.{Calc}
use Rattle.cv_calc.specs.declared.calc.Calc.TheVariants.{Num, Sum, Product, Negate, Invert, Min, Max, Clamp}
use Rattle.cv_calc.specs.Tree.{by_cases, fold-Num, fold-Sum, out-Num, out-Sum, out-Product, out-Negate, out-Invert, out-Min, out-Max, out-Clamp}
use Rattle.cv_calc.specs.Types.{type_of, type_step, sum_type}
use Rattle.cv_calc.specs.Linear.{has_type}
use Rattle.cv_reify.specs.Calculations.{items_as, with_items}

abbrev HasType : Calc → Type 0
HasType c = has_type (type_of c) ≡ true

number_alone : (v : Ratio) (u : Unit) → HasType (Sum (Num v u ∷ []))
unfolding type_of sum_type
number_alone v u = ap has_type (fold-Sum type_step (Num v u ∷ [])) ∙ ap has_type (fold-Num type_step v u)

abbrev Goal : Calc → Type 0
Goal c = HasType c → HasType (with_items c)

other : (c : Calc) → with_items c ≡ c → Goal c
other c same h = ap (λ b. has_type (type_of b)) same ∙ h

shown : (c : Calc) → Goal c
unfolding with_items
shown = by_cases Goal record {
  num = λ v u h. ap (λ y. has_type (type_of (items_as (Num v u) y))) (out-Num v u) ∙ number_alone v u;
  sum = λ cs hs. other (Sum cs) (ap (items_as (Sum cs)) (out-Sum cs));
  product = λ cs hs. other (Product cs) (ap (items_as (Product cs)) (out-Product cs));
  negate = λ c k. other (Negate c) (ap (items_as (Negate c)) (out-Negate c));
  invert = λ c k. other (Invert c) (ap (items_as (Invert c)) (out-Invert c));
  min = λ cs hs. other (Min cs) (ap (items_as (Min cs)) (out-Min cs));
  max = λ cs hs. other (Max cs) (ap (items_as (Max cs)) (out-Max cs));
  clamp = λ l m h kl km kh. other (Clamp l m h) (ap (items_as (Clamp l m h)) (out-Clamp l m h));
}

pub with_items_has_type : (c d : Calc) → d ≡ with_items c → has_type (type_of c) ≡ true → has_type (type_of d) ≡ true
with_items_has_type c d is h = ap (λ b. has_type (type_of b)) is ∙ shown c h
