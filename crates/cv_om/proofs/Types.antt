-- Numbers have types.
use Rattle.std.specs.Prelude.{Bool, true, false, Option, Some, None, Result, Ok, if◌then◌else◌}
use Rattle.std.proofs.Common.{◌≡◌, refl, sym, ◌∙◌, ap}
use Rattle.std.specs.Option.{option_and_then}
use Rattle.cv_spec_ratio.specs.Ratio.{Ratio, neg, reciprocal}
use Rattle.cv_calc.specs.declared.unit.Unit.{Unit}
use Rattle.cv_calc.specs.declared.unit.Unit.TheVariants as units
use Rattle.cv_calc.specs.declared.unit.NumType.{NumType}
use Rattle.cv_calc.specs.Unit.{same_unit}
use Rattle.cv_calc.specs.declared.calc.Calc.{Calc}
use Rattle.cv_calc.specs.declared.calc.Calc.TheVariants.{Num, Sum, Product, Negate, Invert, Min, Max, Clamp}
use Rattle.cv_calc.specs.Tree.{by_cases, fold-Num, fold-Negate, fold-Invert, out-Num, out-Sum, out-Product, out-Negate, out-Invert, out-Min, out-Max, out-Clamp}
use Rattle.cv_calc.specs.Types.{type_of, type_step, negated}
use Rattle.cv_calc.specs.Linear.{has_type}
use Rattle.cv_om.specs.Arithmetic.{negated as negative, negated_as, inverse_of, inverse_as, inverse_number}
use Rattle.cv_om.specs.declared.error.OmErr.{OmErr}
use Rattle.cv_om.proofs.Powers.{inverse_fits}

pub number_has_type : (v : Ratio) (u : Unit) → has_type (type_of (Num v u)) ≡ true
unfolding type_of
number_has_type v u = ap has_type (fold-Num type_step v u)

-- ---- negatives

type-Negate : (c : Calc) → type_of (Negate c) ≡ type_of c
unfolding type_of
type-Negate c = fold-Negate type_step c

type-Invert : (c : Calc) → type_of (Invert c) ≡ option_and_then negated (type_of c)
unfolding type_of
type-Invert c = fold-Invert type_step c

module _ where
  abbrev HasType : Calc → Type 0
  HasType c = has_type (type_of c) ≡ true

  abbrev Goal : Calc → Type 0
  Goal c = HasType c → HasType (negative c)

  other : (c : Calc) → negative c ≡ Negate c → Goal c
  other c e h = ap (λ b. has_type (type_of b)) e ∙ ap has_type (type-Negate c) ∙ h

  shown : (c : Calc) → Goal c
  unfolding negative
  shown = by_cases Goal record {
    num = λ v u h. ap (λ y. has_type (type_of (negated_as (Num v u) y))) (out-Num v u) ∙ number_has_type (neg v) u;
    sum = λ cs hs. other (Sum cs) (ap (negated_as (Sum cs)) (out-Sum cs));
    product = λ cs hs. other (Product cs) (ap (negated_as (Product cs)) (out-Product cs));
    negate = λ c k h. ap (λ y. has_type (type_of (negated_as (Negate c) y))) (out-Negate c) ∙ ap has_type (sym (type-Negate c)) ∙ h;
    invert = λ c k. other (Invert c) (ap (negated_as (Invert c)) (out-Invert c));
    min = λ cs hs. other (Min cs) (ap (negated_as (Min cs)) (out-Min cs));
    max = λ cs hs. other (Max cs) (ap (negated_as (Max cs)) (out-Max cs));
    clamp = λ l m h kl km kh. other (Clamp l m h) (ap (negated_as (Clamp l m h)) (out-Clamp l m h));
  }

pub negative_has_type : (c d : Calc) → d ≡ negative c → has_type (type_of c) ≡ true → has_type (type_of d) ≡ true
negative_has_type c d e h = ap (λ b. has_type (type_of b)) e ∙ shown c h

-- ---- reciprocals

-- what is inverted has a type
inner_type : (c : Calc) → HasType (Invert c) → HasType c
inner_type c h = go (type_of c) (ap has_type (sym (type-Invert c)) ∙ h)
  where
    go : (o : Option NumType) → has_type (option_and_then negated o) ≡ true → has_type o ≡ true
    go None h = h
    go (Some t) h = refl

outer_type : (c : Calc) → HasType c → HasType (Invert c)
outer_type c h = ap has_type (type-Invert c) ∙ inverse_fits c h

abbrev Inverse : Calc → Type 0
Inverse c = HasType c → (d : Calc) → inverse_of c ≡ Ok d → HasType d

inverted_is : (c d : Calc) → HasType c → inverse_of c ≡ Ok (Invert c) → inverse_of c ≡ Ok d → HasType d
inverted_is c d h e f =
    let same : Invert c ≡ d = ok_same (sym e ∙ f) in ap (λ b. has_type (type_of b)) (sym same) ∙ outer_type c h
  where
    ok_same : {a b : Calc} → ◌≡◌ {A = Result Calc OmErr} (Ok a) (Ok b) → a ≡ b
    ok_same e = cc

number_inverse : (o : Option Ratio) (d : Calc) → inverse_number o ≡ Ok d → HasType d
number_inverse None d e = cc
number_inverse (Some v) d e = let same : d ≡ Num v units.Number = cc in ap (λ b. has_type (type_of b)) same ∙ number_has_type v units.Number

unit_inverse : (b : Bool) (v : Ratio) (u : Unit) (d : Calc) → (if b then inverse_number (reciprocal v) else Ok (Invert (Num v u))) ≡ Ok d → HasType d
unit_inverse true v u d e = number_inverse (reciprocal v) d e
unit_inverse false v u d e = let same : d ≡ Invert (Num v u) = cc in ap (λ b. has_type (type_of b)) same ∙ outer_type (Num v u) (number_has_type v u)

all_inverses : (c : Calc) → Inverse c
unfolding inverse_of
all_inverses = by_cases Inverse record {
  num = λ v u h d e. unit_inverse (same_unit u units.Number) v u d (sym (ap (inverse_as (Num v u)) (out-Num v u)) ∙ e);
  sum = λ cs hs h d e. inverted_is (Sum cs) d h (ap (inverse_as (Sum cs)) (out-Sum cs)) e;
  product = λ cs hs h d e. inverted_is (Product cs) d h (ap (inverse_as (Product cs)) (out-Product cs)) e;
  negate = λ c k h d e. inverted_is (Negate c) d h (ap (inverse_as (Negate c)) (out-Negate c)) e;
  invert = λ c k h d e. let is : ◌≡◌ {A = Result Calc OmErr} (Ok c) (Ok d) = sym (ap (inverse_as (Invert c)) (out-Invert c)) ∙ e in let same : d ≡ c = cc in ap (λ b. has_type (type_of b)) same ∙ inner_type c h;
  min = λ cs hs h d e. inverted_is (Min cs) d h (ap (inverse_as (Min cs)) (out-Min cs)) e;
  max = λ cs hs h d e. inverted_is (Max cs) d h (ap (inverse_as (Max cs)) (out-Max cs)) e;
  clamp = λ l m r kl km kh h d e. inverted_is (Clamp l m r) d h (ap (inverse_as (Clamp l m r)) (out-Clamp l m r)) e;
}

pub inverse_has_type : (c d : Calc) → inverse_of c ≡ Ok d → has_type (type_of c) ≡ true → has_type (type_of d) ≡ true
inverse_has_type c d e h = all_inverses c h d e
