-- Where a calculation has a value, its parts have one.
use Rattle.std.specs.Prelude.{List, [], ◌∷◌, map, Option, Some, None, option_map}
use Rattle.std.proofs.Common.{◌≡◌, refl}
use Rattle.cv_spec_ratio.specs.Ratio.{Ratio, add, mul, neg, reciprocal}
use Rattle.cv_spec_ratio.specs.Order.{lesser, greater}
use Rattle.cv_calc.specs.declared.calc.Calc.{Calc}
use Rattle.cv_calc.specs.declared.calc.Calc.TheVariants.{Product, Min, Max, Clamp}
use Rattle.cv_calc.specs.Tree.{fold-Product, fold-Min, fold-Max, fold-Clamp}
use Rattle.cv_calc.specs.Value.{Meaning, value, value_step, both, sum_of, product_of, chosen_of, inverse_of}
use Rattle.cv_calc_laws.proofs.Lists.{Every, none_some}

abbrev pub HasValue : Option Ratio → Type 0
HasValue o = (r : Ratio) × (o ≡ Some r)

module _ (m : Meaning) where
  pub value-Product : (cs : List Calc) → value m (Product cs) ≡ product_of (map (value m) cs)
  unfolding value
  value-Product cs = fold-Product (value_step m) cs

  pub value-Min : (cs : List Calc) → value m (Min cs) ≡ chosen_of lesser (map (value m) cs)
  unfolding value
  value-Min cs = fold-Min (value_step m) cs

  pub value-Max : (cs : List Calc) → value m (Max cs) ≡ chosen_of greater (map (value m) cs)
  unfolding value
  value-Max cs = fold-Max (value_step m) cs

  pub value-Clamp : (a b c : Calc) → value m (Clamp a b c) ≡ both greater (value m a) (both lesser (value m b) (value m c))
  unfolding value
  value-Clamp a b c = fold-Clamp (value_step m) a b c

pub both_have : (f : Ratio → Ratio → Ratio) (o p : Option Ratio) (r : Ratio) → both f o p ≡ Some r → HasValue o × HasValue p
both_have f None p r e = absurd (none_some r e)
both_have f (Some a) None r e = absurd (none_some r e)
both_have f (Some a) (Some b) r e = ((a, refl), (b, refl))

pub sum_has : (os : List (Option Ratio)) (r : Ratio) → sum_of os ≡ Some r → Every HasValue os
sum_has [] r e = tt
sum_has (o ∷ os) r e = let (a, b) = both_have add o (sum_of os) r e in (a, sum_has os b.0 b.1)

pub product_has : (os : List (Option Ratio)) (r : Ratio) → product_of os ≡ Some r → Every HasValue os
product_has [] r e = tt
product_has (o ∷ os) r e = let (a, b) = both_have mul o (product_of os) r e in (a, product_has os b.0 b.1)

pub chosen_has : (f : Ratio → Ratio → Ratio) (os : List (Option Ratio)) (r : Ratio) → chosen_of f os ≡ Some r → Every HasValue os
chosen_has f [] r e = tt
chosen_has f (o ∷ []) r e = ((r, e), tt)
chosen_has f (o ∷ p ∷ os) r e = let (a, b) = both_have f o (chosen_of f (p ∷ os)) r e in (a, chosen_has f (p ∷ os) b.0 b.1)

pub negative_has : (o : Option Ratio) (r : Ratio) → option_map neg o ≡ Some r → HasValue o
negative_has None r e = absurd (none_some r e)
negative_has (Some a) r e = (a, refl)

-- what has an inverse has a value that has one
pub inverse_has : (o : Option Ratio) (r : Ratio) → inverse_of o ≡ Some r → (v : Ratio) × (o ≡ Some v) × (reciprocal v ≡ Some r)
inverse_has None r e = absurd (none_some r e)
inverse_has (Some v) r e = (v, refl, e)
