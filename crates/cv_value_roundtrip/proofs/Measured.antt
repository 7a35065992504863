-- Numbers of a quantity read back, lengths and whole numbers among them.
use Rattle.std.specs.Prelude.{ℕ, Bool, true, false, not, pos, List, [], ◌∷◌, if◌then◌else◌}
use Rattle.std.proofs.Common.{◌≡◌, refl, sym, ◌∙◌, ap, subst, arith}
use Rattle.cv_spec_text.specs.declared.token.Token.{Token}
use Rattle.cv_spec_text.specs.declared.token.Token.TheVariants as tokens
use Rattle.cv_spec_ratio.specs.Ratio.{Ratio, ratio, zero_ratio, one_ratio, mul}
use Rattle.cv_spec_ratio.specs.Order.{at_most}
use Rattle.cv_frac.specs.Bounded.{in_bounds}
use Rattle.cv_calc.specs.declared.unit.Unit as units
use Rattle.cv_calc.specs.declared.unit.Unit.TheVariants.{Number, Px, Dppx, X, Dpi, Dpcm}
use Rattle.cv_calc.specs.declared.context.Basis.TheVariants as basis
use Rattle.cv_calc.specs.declared.context.Context.{Context}
use Rattle.cv_calc.specs.declared.calc.Calc.{Calc}
use Rattle.cv_calc.specs.declared.calc.Calc.TheVariants as tree
use Rattle.cv_calc.specs.declared.calc.Calc.TheOpen as layer
use Rattle.cv_calc.specs.declared.calc.Calc.TheViews.{out-Calc}
use Rattle.cv_calc.specs.Tree.{out-Num}
use Rattle.cv_calc.specs.Types.{unit_type}
use Rattle.cv_calcread.specs.Literals.{exact_number, is_in_range}
use Rattle.cv_simplify.specs.Canonical.{is_canonical}
use Rattle.cv_simplify.specs.Counted.{Counted}
use Rattle.cv_simplify.specs.Simplified.{number_in, simp as simp_of}
use Rattle.cv_simplify.specs.Text.{has_decimal, number_alone}
use Rattle.cv_calc_roundtrip.specs.ReadsBack.{Keeps}
use Rattle.cv_calc_roundtrip.proofs.Equations.{counted-Num, counted_simple}
use Rattle.cv_numeric.specs.declared.matched.Matched.TheVariants.{Fit}
use Rattle.cv_numeric.specs.declared.quantity.Quantity.{Quantity}
use Rattle.cv_numeric.specs.declared.quantity.Quantity.TheVariants as quantity
use Rattle.cv_numeric.specs.declared.quantity.Range.{Range}
use Rattle.cv_numeric.specs.declared.quantity.Range.TheVariants.{All, NotNegative}
use Rattle.cv_numeric.specs.Matched.{mapped}
use Rattle.cv_numeric.specs.Quantities.{takes, clamped}
use Rattle.cv_numeric.specs.Calculations.{is_null, is_negative, is_within, clamped_as, calculation}
use Rattle.cv_numeric.specs.Numeric.{with_basis, value_as, value_of, measured, zero_length, length}
use Rattle.cv_numeric.proofs.Signs.{signs}
use Rattle.cv_value_roundtrip.specs.Numbers.{IsInside, IsNatural}
use Rattle.cv_value_roundtrip.proofs.Ranges.{clamped_inside, zero_natural, pair_natural, product_natural}
use Rattle.cv_value_roundtrip.proofs.Numbers.{spells_number, number_read}
use Rattle.cv_value_roundtrip.proofs.Given.{fit_same, if_fits, mapped_fits, Source, one, call, source, simple_inside, zero_small, value_small}

pub value_is : (v : Ratio) (u : units.Unit) → value_of (tree.Num v u) ≡ v
value_is v u = ap value_as (out-Num v u)

-- ---- bounds of what a list gives

-- the number is in bounds and in the range
pub record IsIn (r : Range) (v : Ratio) : Type 0 where
  pub small : in_bounds v ≡ true
  pub inside : IsInside r v

-- the range of a quantity
pub data HasRange (q : Quantity) (r : Range) : Type 0 where
  whole : r ≡ All → HasRange q r
  resolution : q ≡ quantity.Resolution → HasRange q r
  number : q ≡ quantity.Number → HasRange q r

pub zero_inside : (r : Range) → IsInside r zero_ratio
zero_inside All = tt
zero_inside NotNegative = zero_natural

chosen_small : (b : Bool) (v w : Ratio) → in_bounds v ≡ true → in_bounds w ≡ true → in_bounds (if b then v else w) ≡ true
chosen_small true v w h k = h
chosen_small false v w h k = k

pub clamped_small : (r : Range) (v : Ratio) → in_bounds v ≡ true → in_bounds (clamped r v) ≡ true
clamped_small All v h = h
clamped_small NotNegative v h = chosen_small (at_most v zero_ratio) zero_ratio v zero_small h

pub layer_clamped : (r : Range) (c : Calc) (l : layer.Calc-F Calc) → out-Calc c ≡ l → in_bounds (value_as l) ≡ true → IsIn r (value_of (clamped_as r c l))
layer_clamped r c (layer.Num v u) e h = subst (IsIn r) (sym (value_is (clamped r v) u)) (record { small = clamped_small r v h; inside = clamped_inside r v })
layer_clamped r c l e h = subst (λ (m : layer.Calc-F Calc). IsIn r (value_as m)) (sym e) (record { small = zero_small; inside = zero_inside r })

pub product_number : (v w : Ratio) (u : units.Unit) → IsNatural v → IsNatural w → IsNatural (value_of (tree.Num (mul v w) u))
product_number v w u h k = subst IsNatural (sym (value_is (mul v w) u)) (product_natural v w h k)

-- a resolution that isn't negative isn't so in its canonical unit
resolution_natural : (x : Context) (v : Ratio) (u : units.Unit) → takes quantity.Resolution (unit_type u) ≡ true → IsNatural v → IsNatural (value_of (number_in x v u))
unfolding one_ratio
resolution_natural x v Dppx t h = product_number v one_ratio Dppx h (pair_natural 1 1 (omega arith))
resolution_natural x v X t h = product_number v one_ratio Dppx h (pair_natural 1 1 (omega arith))
resolution_natural x v Dpi t h = product_number v (ratio (pos 1) 96) Dppx h (pair_natural 1 96 (omega arith))
resolution_natural x v Dpcm t h = product_number v (ratio (pos 127) 4800) Dppx h (pair_natural 127 4800 (omega arith))
resolution_natural x v _ t h = absurd cc

pub simple_number : (x : Context) (v : Ratio) (u : units.Unit) → simp_of x (tree.Num v u) ≡ number_in x v u
simple_number x v u = sym (counted_simple x (tree.Num v u)) ∙ ap (λ (c : Counted). c.simple) (counted-Num x v u)

not_true : (b : Bool) → not b ≡ true → b ≡ false
not_true true h = cc
not_true false h = refl

pub spelt_natural : (n : List ℕ) → is_in_range n ≡ true → is_within NotNegative n ≡ true → IsNatural (exact_number n)
spelt_natural n small h = sym (signs.negative_is n (spells_number n small)) ∙ not_true (is_negative n) h

token_inside : (r : Range) (x : Context) (n : List ℕ) (u : units.Unit) → takes quantity.Resolution (unit_type u) ≡ true → is_in_range n ≡ true → is_within r n ≡ true →
    IsInside r (value_of (simp_of x (tree.Num (exact_number n) u)))
token_inside All x n u t small h = tt
token_inside NotNegative x n u t small h = subst (λ (c : Calc). IsNatural (value_of c)) (sym (simple_number x (exact_number n) u)) (resolution_natural x (exact_number n) u t (spelt_natural n small h))

number_natural : (x : Context) (v : Ratio) (u : units.Unit) → takes quantity.Number (unit_type u) ≡ true → IsNatural v → IsNatural (value_of (number_in x v u))
unfolding one_ratio
number_natural x v Number t h = product_number v one_ratio Number h (pair_natural 1 1 (omega arith))
number_natural x v _ t h = absurd cc

number_inside : (r : Range) (x : Context) (n : List ℕ) (u : units.Unit) → takes quantity.Number (unit_type u) ≡ true → is_in_range n ≡ true → is_within r n ≡ true →
    IsInside r (value_of (simp_of x (tree.Num (exact_number n) u)))
number_inside All x n u t small h = tt
number_inside NotNegative x n u t small h = subst (λ (c : Calc). IsNatural (value_of c)) (sym (simple_number x (exact_number n) u)) (number_natural x (exact_number n) u t (spelt_natural n small h))

source_inside : (q : Quantity) (r : Range) → HasRange q r → (x : Context) (n : List ℕ) (u : units.Unit) → takes q (unit_type u) ≡ true → is_in_range n ≡ true → is_within r n ≡ true →
    IsInside r (value_of (simp_of x (tree.Num (exact_number n) u)))
source_inside q r (whole e) x n u t small h = subst (λ (s : Range). IsInside s (value_of (simp_of x (tree.Num (exact_number n) u)))) (sym e) tt
source_inside q r (resolution e) x n u t small h = token_inside r x n u (ap (λ (p : Quantity). takes p (unit_type u)) (sym e) ∙ t) small h
source_inside q r (number e) x n u t small h = number_inside r x n u (ap (λ (p : Quantity). takes p (unit_type u)) (sym e) ∙ t) small h

source_in : (q : Quantity) (r : Range) → HasRange q r → (x : Context) (ts : List Token) (c : Calc) → Source q r x ts c → IsIn r (value_of c)
source_in q r has x ts c (one n u t within small counted same) =
    subst (λ (d : Calc). IsIn r (value_of d)) same (record {
      small = value_small (simp_of x (tree.Num (exact_number n) u)) (simple_inside x (tree.Num (exact_number n) u) counted);
      inside = source_inside q r has x n u t small within;
    })
source_in q r has x ts c (call t read takes counted same) =
    subst (λ (d : Calc). IsIn r (value_of d)) same (layer_clamped r (simp_of x t) (out-Calc (simp_of x t)) refl (value_small (simp_of x t) (simple_inside x t counted)))

-- ---- a quantity

pub measured_given : (q : Quantity) (r : Range) → HasRange q r → (x : Context) (ts : List Token) (v : Ratio) → measured q r x ts ≡ Fit v → IsIn r v
measured_given q r has x ts v h =
    let (c, is, same) = mapped_fits value_of (calculation q r (with_basis basis.Plain x) ts) v h in
    subst (IsIn r) same (source_in q r has (with_basis basis.Plain x) ts c (source q r (with_basis basis.Plain x) ts c is))

pub measured_read : (q : Quantity) (r : Range) (y : Context) (v : Ratio) (u : units.Unit) → is_canonical u ≡ true → Keeps u basis.Plain → takes q (unit_type u) ≡ true → IsIn r v → measured q r y (number_alone v u) ≡ Fit v
measured_read q r y v u h k t i = ap (mapped value_of) (number_read q r (with_basis basis.Plain y) v u i.small h k t i.inside) ∙ ap Fit (value_is v u)

-- ---- lengths

pub zero_given : (n : List ℕ) (v : Ratio) → zero_length n ≡ Fit v → in_bounds v ≡ true
zero_given n v h =
    let (null, same) = if_fits (is_null n) (Fit zero_ratio) v h in
    subst (λ (w : Ratio). in_bounds w ≡ true) (fit_same zero_ratio v same) zero_small

pub length_given : (x : Context) (ts : List Token) (v : Ratio) → length x ts ≡ Fit v → in_bounds v ≡ true
length_given x (tokens.Number n ∷ []) v h = zero_given n v h
length_given x ts v h = (measured_given quantity.Length All (whole refl) x ts v h).small

pub length_read : (y : Context) (v : Ratio) → in_bounds v ≡ true → length y (number_alone v Px) ≡ Fit v
length_read y v small = is_measured (has_decimal v) refl ∙ measured_read quantity.Length All y v Px refl tt refl (record { small = small; inside = tt })
  where
    is_measured : (b : Bool) → has_decimal v ≡ b → length y (number_alone v Px) ≡ measured quantity.Length All y (number_alone v Px)
    is_measured true e = rw e refl
    is_measured false e = rw e refl
