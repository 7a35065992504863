-- The values of calculations that are joined.
use Rattle.std.specs.Prelude.{Bool, true, false, List, [], ◌∷◌, ◌++◌, map, fold, Option, Some, None, Result, Ok, Err, if◌then◌else◌}
use Rattle.std.proofs.Common.{◌≡◌, refl, sym, ◌∙◌, ap, ap₂}
use Rattle.cv_spec_ratio.specs.Ratio.{Ratio, add, mul, zero_ratio, one_ratio}
use Rattle.cv_spec_ratio.specs.Order.{lesser, greater}
use Rattle.cv_spec_ratio.proofs.Laws.{add_zero, add_comm, mul-add_right, mul-assoc, mul_one, mul_comm_ratio}
use Rattle.cv_frac.specs.declared.error.FracErr.TheVariants as fraction
use Rattle.cv_frac.specs.Bounded.{in_bounds, bounded}
use Rattle.cv_calc.specs.declared.unit.Unit as units
use Rattle.cv_calc.specs.declared.unit.Unit.TheVariants as unit
use Rattle.cv_calc.specs.declared.calc.Calc.{Calc}
use Rattle.cv_calc.specs.declared.calc.Calc.TheVariants.{rolls-Num, rolls-Sum, rolls-Product, rolls-Min, rolls-Max}
use Rattle.cv_calc.specs.declared.calc.Calc.TheOpen.{Calc-F}
use Rattle.cv_calc.specs.declared.calc.Calc.TheOpen as layer
use Rattle.cv_calc.specs.declared.calc.Calc.TheViews.{out-Calc, roll-Calc, roll-out-Calc}
use Rattle.cv_calc.specs.Unit.{same_unit, same_unit-true}
use Rattle.cv_calc.specs.Value.{Meaning, unit_value, value, both, sum_of, product_of, chosen_of}
use Rattle.cv_calc.proofs.Chosen.{lesser_assoc, greater_assoc, fold_chosen, sum_from_left, product_from_left}
use Rattle.cv_om.specs.declared.error.OmErr.{OmErr}
use Rattle.cv_om.specs.declared.joining.Joining.{Joining}
use Rattle.cv_om.specs.declared.joining.Joining.TheVariants as joining
use Rattle.cv_om.specs.Refusal.{in_range}
use Rattle.cv_om.specs.Arithmetic.{terms_as, factors_as, least_as, greatest_as, unit_as, unit_of, number_as, number_of, one_unit, times_unit, items, node, unit_joined, number_joined}
use Rattle.cv_om_laws.specs.Valued.{HasPositiveUnits}
use Rattle.cv_om_laws.proofs.Scaled.{lesser_scaled, greater_scaled}
use Rattle.cv_om_laws.proofs.Values.{value-Num, value-Sum, value-Product, value-Min, value-Max}

-- ---- the operation on values

abbrev pub operation : Joining → Ratio → Ratio → Ratio
operation joining.Sum = add
operation joining.Product = mul
operation joining.Least = lesser
operation joining.Greatest = greater

abbrev pub join : Joining → List (Option Ratio) → Option Ratio
join joining.Sum = sum_of
join joining.Product = product_of
join joining.Least = chosen_of lesser
join joining.Greatest = chosen_of greater

-- what a least and a greatest need of units
abbrev pub Suits : Joining → Meaning → Type 0
Suits joining.Sum m = Unit {0}
Suits joining.Product m = Unit {0}
Suits joining.Least m = HasPositiveUnits m
Suits joining.Greatest m = HasPositiveUnits m

-- ---- from the left

sum_first : (o : Option Ratio) (ps : List (Option Ratio)) → fold (both add) o ps ≡ sum_of (o ∷ ps)
sum_first o ps = ap (λ p. fold (both add) p ps) (zero_first o) ∙ sum_from_left (o ∷ ps)
  where
    zero_first : (o : Option Ratio) → o ≡ both add (Some zero_ratio) o
    zero_first None = refl
    zero_first (Some a) = ap Some (sym (add_zero a) ∙ add_comm a zero_ratio)

product_first : (o : Option Ratio) (ps : List (Option Ratio)) → fold (both mul) o ps ≡ product_of (o ∷ ps)
product_first o ps = ap (λ p. fold (both mul) p ps) (one_first o) ∙ product_from_left (o ∷ ps)
  where
    one_first : (o : Option Ratio) → o ≡ both mul (Some one_ratio) o
    one_first None = refl
    one_first (Some a) = ap Some (sym (mul_one a) ∙ mul_comm_ratio a one_ratio)

pub from_left : (how : Joining) (o : Option Ratio) (ps : List (Option Ratio)) → fold (both (operation how)) o ps ≡ join how (o ∷ ps)
from_left joining.Sum o ps = sum_first o ps
from_left joining.Product o ps = product_first o ps
from_left joining.Least o ps = fold_chosen lesser lesser_assoc o ps
from_left joining.Greatest o ps = fold_chosen greater greater_assoc o ps

-- a value alone
join_one : (how : Joining) (o : Option Ratio) → join how (o ∷ []) ≡ o
join_one how o = sym (from_left how o [])

-- one value more
join_more : (how : Joining) (o : Option Ratio) (ps : List (Option Ratio)) (y : Option Ratio) → join how ((o ∷ ps) ++ y ∷ []) ≡ both (operation how) (join how (o ∷ ps)) y
join_more how o ps y = sym (from_left how o (ps ++ y ∷ [])) ∙ fold_more (both (operation how)) o ps ∙ ap (λ q. both (operation how) q y) (from_left how o ps)
  where
    fold_more : (f : Option Ratio → Option Ratio → Option Ratio) (o : Option Ratio) (ps : List (Option Ratio)) → fold f o (ps ++ y ∷ []) ≡ f (fold f o ps) y
    fold_more f o [] = refl
    fold_more f o (p ∷ ps) = fold_more f (f o p) ps

-- ---- a value behind those that have one together

zero_and : (y : Option Ratio) → both add (Some zero_ratio) y ≡ both add y (Some zero_ratio)
zero_and None = refl
zero_and (Some a) = ap Some (add_comm zero_ratio a)

one_and : (y : Option Ratio) → both mul (Some one_ratio) y ≡ both mul y (Some one_ratio)
one_and None = refl
one_and (Some a) = ap Some (mul_comm_ratio one_ratio a)

pub join_behind : (how : Joining) (ps : List (Option Ratio)) (x : Ratio) (y : Option Ratio) → join how ps ≡ Some x → join how (ps ++ y ∷ []) ≡ both (operation how) (Some x) y
join_behind joining.Sum [] x y e = sym (zero_and y) ∙ ap (λ q. both add q y) e
join_behind joining.Product [] x y e = sym (one_and y) ∙ ap (λ q. both mul q y) e
join_behind joining.Least [] x y e = cc
join_behind joining.Greatest [] x y e = cc
join_behind how (o ∷ ps) x y e = join_more how o ps y ∙ ap (λ q. both (operation how) q y) e

module _ (m : Meaning) where
  values : List Calc → List (Option Ratio)
  values cs = map (value m) cs

  pub node_value : (how : Joining) (cs : List Calc) → value m (node how cs) ≡ join how (map (value m) cs)
  node_value joining.Sum cs = value-Sum m cs
  node_value joining.Product cs = value-Product m cs
  node_value joining.Least cs = value-Min m cs
  node_value joining.Greatest cs = value-Max m cs

  -- ---- the items in front of the argument have the receiver's value together

  terms_value : (c : Calc) (y : Calc-F Calc) → roll-Calc y ≡ c → join joining.Sum (map (value m) (terms_as c y)) ≡ value m c
  terms_value c (layer.Sum cs) r = sym (value-Sum m cs) ∙ ap (value m) (sym (rolls-Sum cs) ∙ r)
  terms_value c y r = join_one joining.Sum (value m c)

  factors_value : (c : Calc) (y : Calc-F Calc) → roll-Calc y ≡ c → join joining.Product (map (value m) (factors_as c y)) ≡ value m c
  factors_value c (layer.Product cs) r = sym (value-Product m cs) ∙ ap (value m) (sym (rolls-Product cs) ∙ r)
  factors_value c y r = join_one joining.Product (value m c)

  least_value : (c : Calc) (y : Calc-F Calc) → roll-Calc y ≡ c → join joining.Least (map (value m) (least_as c y)) ≡ value m c
  least_value c (layer.Min cs) r = sym (value-Min m cs) ∙ ap (value m) (sym (rolls-Min cs) ∙ r)
  least_value c y r = join_one joining.Least (value m c)

  greatest_value : (c : Calc) (y : Calc-F Calc) → roll-Calc y ≡ c → join joining.Greatest (map (value m) (greatest_as c y)) ≡ value m c
  greatest_value c (layer.Max cs) r = sym (value-Max m cs) ∙ ap (value m) (sym (rolls-Max cs) ∙ r)
  greatest_value c y r = join_one joining.Greatest (value m c)

  pub items_value : (how : Joining) (c : Calc) → join how (map (value m) (items how c)) ≡ value m c
  items_value joining.Sum c = terms_value c (out-Calc c) (roll-out-Calc c)
  items_value joining.Product c = factors_value c (out-Calc c) (roll-out-Calc c)
  items_value joining.Least c = least_value c (out-Calc c) (roll-out-Calc c)
  items_value joining.Greatest c = greatest_value c (out-Calc c) (roll-out-Calc c)

  -- ---- single values that are joined

  pub single_is : (c : Calc) (u : units.Unit) → unit_of c ≡ Some u → value m c ≡ Some (mul (number_of c) (unit_value m u))
  single_is c u e = go (out-Calc c) (roll-out-Calc c) e
    where
      go : (y : Calc-F Calc) → roll-Calc y ≡ c → unit_as y ≡ Some u → value m c ≡ Some (mul (number_as y) (unit_value m u))
      go (layer.Num v t) r e = let same : t ≡ u = cc in ap (value m) (sym r ∙ rolls-Num v t) ∙ value-Num m v t ∙ ap (λ w. Some (mul v (unit_value m w))) same
      go y r e = cc

  bounded_same : (r v : Ratio) → in_range (bounded r) ≡ Ok v → r ≡ v
  bounded_same r v e = go (in_bounds r) e
    where
      go : (b : Bool) → in_range (if b then Ok r else Err fraction.Range) ≡ Ok v → r ≡ v
      go true e = cc
      go false e = cc

  one_same : (u t w : units.Unit) → one_unit (Some u) (Some t) ≡ Some w → (u ≡ t) × (u ≡ w)
  one_same u t w e = go (same_unit u t) refl e
    where
      go : (b : Bool) → same_unit u t ≡ b → (if b then Some u else None) ≡ Some w → (u ≡ t) × (u ≡ w)
      go true is e = (same_unit-true u t is, cc)
      go false is e = cc

  -- two single values together
  sum_step : (u t w : units.Unit) (v z r : Ratio) → one_unit (Some u) (Some t) ≡ Some w → in_range (bounded (add v z)) ≡ Ok r → add (mul v (unit_value m u)) (mul z (unit_value m t)) ≡ mul r (unit_value m w)
  sum_step u t w v z r e f =
      let parts = one_same u t w e in
      ap (λ s. add (mul v (unit_value m u)) (mul z (unit_value m s))) (sym parts.0) ∙ sym (mul-add_right v z (unit_value m u)) ∙ ap₂ (λ q s. mul q (unit_value m s)) (bounded_same (add v z) r f) parts.1

  times_step : (u t w : units.Unit) (v z r : Ratio) → times_unit (Some u) (Some t) ≡ Some w → in_range (bounded (mul v z)) ≡ Ok r → mul (mul v (unit_value m u)) (mul z (unit_value m t)) ≡ mul r (unit_value m w)
  times_step u t w v z r e f = first (same_unit u unit.Number) refl e
    where
      second : (b : Bool) → same_unit t unit.Number ≡ b → (if b then Some u else None) ≡ Some w → mul (mul v (unit_value m u)) (mul z (unit_value m t)) ≡ mul r (unit_value m w)
      second true is e =
          let same : u ≡ w = cc in
          ap (λ s. mul (mul v (unit_value m u)) (mul z (unit_value m s))) (same_unit-true t unit.Number is) ∙ ap (mul (mul v (unit_value m u))) (mul_one z)
          ∙ mul-assoc v (unit_value m u) z ∙ ap (mul v) (mul_comm_ratio (unit_value m u) z) ∙ sym (mul-assoc v z (unit_value m u)) ∙ ap₂ (λ q s. mul q (unit_value m s)) (bounded_same (mul v z) r f) same
      second false is e = cc

      first : (b : Bool) → same_unit u unit.Number ≡ b → (if b then Some t else if same_unit t unit.Number then Some u else None) ≡ Some w → mul (mul v (unit_value m u)) (mul z (unit_value m t)) ≡ mul r (unit_value m w)
      first true is e =
          let same : t ≡ w = cc in
          ap (λ s. mul (mul v (unit_value m s)) (mul z (unit_value m t))) (same_unit-true u unit.Number is) ∙ ap (λ q. mul q (mul z (unit_value m t))) (mul_one v)
          ∙ sym (mul-assoc v z (unit_value m t)) ∙ ap₂ (λ q s. mul q (unit_value m s)) (bounded_same (mul v z) r f) same
      first false is e = second (same_unit t unit.Number) refl e

  least_step : HasPositiveUnits m → (u t w : units.Unit) (v z r : Ratio) → one_unit (Some u) (Some t) ≡ Some w → ◌≡◌ {A = Result Ratio OmErr} (Ok (lesser v z)) (Ok r) → lesser (mul v (unit_value m u)) (mul z (unit_value m t)) ≡ mul r (unit_value m w)
  least_step h u t w v z r e f =
      let parts = one_same u t w e in
      let same : lesser v z ≡ r = ok_same (lesser v z) r f in
      ap (λ s. lesser (mul v (unit_value m u)) (mul z (unit_value m s))) (sym parts.0) ∙ lesser_scaled v z (unit_value m u) (h u) ∙ ap₂ (λ q s. mul q (unit_value m s)) same parts.1
    where
      ok_same : (a b : Ratio) → ◌≡◌ {A = Result Ratio OmErr} (Ok a) (Ok b) → a ≡ b
      ok_same a b e = cc

  greatest_step : HasPositiveUnits m → (u t w : units.Unit) (v z r : Ratio) → one_unit (Some u) (Some t) ≡ Some w → ◌≡◌ {A = Result Ratio OmErr} (Ok (greater v z)) (Ok r) → greater (mul v (unit_value m u)) (mul z (unit_value m t)) ≡ mul r (unit_value m w)
  greatest_step h u t w v z r e f =
      let parts = one_same u t w e in
      let same : greater v z ≡ r = ok_same (greater v z) r f in
      ap (λ s. greater (mul v (unit_value m u)) (mul z (unit_value m s))) (sym parts.0) ∙ greater_scaled v z (unit_value m u) (h u) ∙ ap₂ (λ q s. mul q (unit_value m s)) same parts.1
    where
      ok_same : (a b : Ratio) → ◌≡◌ {A = Result Ratio OmErr} (Ok a) (Ok b) → a ≡ b
      ok_same a b e = cc

  pub step : (how : Joining) → Suits how m → (u t w : units.Unit) (v z r : Ratio) → unit_joined how (Some u) (Some t) ≡ Some w → number_joined how v z ≡ Ok r → operation how (mul v (unit_value m u)) (mul z (unit_value m t)) ≡ mul r (unit_value m w)
  step joining.Sum h u t w v z r e f = sum_step u t w v z r e f
  step joining.Product h u t w v z r e f = times_step u t w v z r e f
  step joining.Least h u t w v z r e f = least_step h u t w v z r e f
  step joining.Greatest h u t w v z r e f = greatest_step h u t w v z r e f
