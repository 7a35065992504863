-- The figure of a calculation whose numbers are in bounds is in bounds, unless it says otherwise.
use Rattle.std.specs.Prelude.{pos, Bool, true, false, ◌&&◌, List, [], ◌∷◌, map, fold, Option, Some, None, if◌then◌else◌}
use Rattle.std.proofs.Common.{◌≡◌, refl, sym, ◌∙◌, ap, subst, arith}
use Rattle.cv_spec_ratio.specs.Ratio.{Ratio, add, mul, neg, reciprocal, zero_ratio, one_ratio}
use Rattle.cv_spec_ratio.specs.Order.{lesser, greater}
use Rattle.cv_frac.specs.Bounded.{in_bounds}
use Rattle.cv_calc.specs.declared.unit.Unit as units
use Rattle.cv_calc.specs.declared.unit.Unit.TheVariants.{Number}
use Rattle.cv_calc.specs.declared.calc.Calc.{Calc}
use Rattle.cv_calc.specs.declared.calc.Calc.TheVariants.{Num}
use Rattle.cv_calc.specs.Tree.{Each, by_cases, out-Num}
use Rattle.cv_calc.specs.Unit.{same_unit}
use Rattle.cv_calc.specs.Numbers.{Figure, measured, undefined, inside, outside, figure_of, unit_figure, added, multiplied, least, greatest, negated, inside_or, outside_or, inverted, chosen, figure}
use Rattle.cv_simplify.specs.Counted as counted
use Rattle.cv_simplify.specs.Counted.{all_inside}
use Rattle.cv_simplify.specs.Simplified as simplified
use Rattle.cv_simplify.proofs.Bounds.{lesser_in, greater_in, inside_negated, inside_inverted}
use Rattle.cv_simplify.proofs.InRange.{inside-Num, inside-Sum, inside-Product, inside-Negate, inside-Invert, inside-Min, inside-Max, inside-Clamp, and_true}
use Rattle.cv_calc_roundtrip.proofs.Numerals.{whole_inside}
use Rattle.cv_om_roundtrip.proofs.FigureSteps.{figure-Num, figure-Sum, figure-Product, figure-Negate, figure-Invert, figure-Min, figure-Max, figure-Clamp, IsSound, given_sound, joined_sound}

-- ---- a sign and an inverse

negated_number : (v : Ratio) (u : units.Unit) → simplified.negated (Num v u) ≡ Num (neg v) u
negated_number v u = simp out-Num refl

pub neg_inside : (v : Ratio) → in_bounds v ≡ true → in_bounds (neg v) ≡ true
neg_inside v h =
    sym (inside-Num (neg v) Number) ∙ ap counted.inside (sym (negated_number v Number)) ∙ inside_negated (Num v Number) (inside-Num v Number ∙ h)

inverted_number : (v r : Ratio) → reciprocal v ≡ Some r → simplified.inverted (Num v Number) ≡ Num r Number
inverted_number v r e = simp (out-Num, e) refl

reciprocal_inside : (v r : Ratio) → in_bounds v ≡ true → reciprocal v ≡ Some r → in_bounds r ≡ true
reciprocal_inside v r h e =
    sym (inside-Num r Number) ∙ ap counted.inside (sym (inverted_number v r e)) ∙ inside_inverted (Num v Number) (inside-Num v Number ∙ h)

negated_sound : (g : Figure) → IsSound g → IsSound (negated g)
negated_sound measured h = tt
negated_sound undefined h = tt
negated_sound (inside r) h = neg_inside r h
negated_sound (outside r) h = tt

inverted_sound : (g : Figure) → IsSound g → IsSound (inverted g)
inverted_sound measured h = tt
inverted_sound undefined h = tt
inverted_sound (inside r) h = go (reciprocal r) refl
  where
    go : (o : Option Ratio) → reciprocal r ≡ o → IsSound (inside_or o)
    go None e = tt
    go (Some s) e = reciprocal_inside r s h e
inverted_sound (outside r) h = go (reciprocal r)
  where
    go : (o : Option Ratio) → IsSound (outside_or o)
    go None = tt
    go (Some s) = tt

-- ---- rows

added_sound : (g h : Figure) → IsSound g → IsSound h → IsSound (added g h)
added_sound = joined_sound figure_of add (λ a b k l. given_sound (add a b))

multiplied_sound : (g h : Figure) → IsSound g → IsSound h → IsSound (multiplied g h)
multiplied_sound = joined_sound figure_of mul (λ a b k l. given_sound (mul a b))

least_sound : (g h : Figure) → IsSound g → IsSound h → IsSound (least g h)
least_sound = joined_sound inside lesser lesser_in

greatest_sound : (g h : Figure) → IsSound g → IsSound h → IsSound (greatest g h)
greatest_sound = joined_sound inside greater greater_in

abbrev AreSound : List Figure → Type 0
AreSound [] = Unit {0}
AreSound (g ∷ gs) = IsSound g × AreSound gs

row_sound : (f : Figure → Figure → Figure) → ((g h : Figure) → IsSound g → IsSound h → IsSound (f g h)) → (g : Figure) (gs : List Figure) → IsSound g → AreSound gs → IsSound (fold f g gs)
row_sound f s g [] h k = h
row_sound f s g (x ∷ gs) h k = row_sound f s (f g x) gs (s g x h k.0) k.1

chosen_sound : (f : Figure → Figure → Figure) → ((g h : Figure) → IsSound g → IsSound h → IsSound (f g h)) → (gs : List Figure) → AreSound gs → IsSound (chosen f gs)
chosen_sound f s [] k = tt
chosen_sound f s (g ∷ gs) k = row_sound f s g gs k.0 k.1

-- ---- trees

abbrev Goal : Calc → Type 0
Goal c = counted.inside c ≡ true → IsSound (figure c)

each_sound : (cs : List Calc) → Each Goal cs → all_inside cs ≡ true → AreSound (map figure cs)
each_sound [] h k = tt
each_sound (c ∷ cs) h k = let p = and_true (counted.inside c) (all_inside cs) k in (h.0 p.0, each_sound cs h.1 p.1)

handed : (g h : Figure) → g ≡ h → IsSound h → IsSound g
handed g h e k = subst IsSound (sym e) k

unit_sound : (v : Ratio) (u : units.Unit) → in_bounds v ≡ true → IsSound (unit_figure v u)
unit_sound v u h = go (same_unit u Number)
  where
    go : (b : Bool) → IsSound (if b then inside v else measured)
    go true = h
    go false = tt

zero_inside : in_bounds zero_ratio ≡ true
unfolding zero_ratio
zero_inside = whole_inside (pos 0) (omega arith)

one_inside : in_bounds one_ratio ≡ true
unfolding one_ratio
one_inside = whole_inside (pos 1) (omega arith)

pub figure_sound : (c : Calc) → Goal c
figure_sound = by_cases Goal record {
  num = λ v u h. handed _ _ (figure-Num v u) (unit_sound v u (sym (inside-Num v u) ∙ h));
  sum = λ cs k h. handed _ _ (figure-Sum cs) (row_sound added added_sound (inside zero_ratio) (map figure cs) zero_inside (each_sound cs k (sym (inside-Sum cs) ∙ h)));
  product = λ cs k h. handed _ _ (figure-Product cs) (row_sound multiplied multiplied_sound (inside one_ratio) (map figure cs) one_inside (each_sound cs k (sym (inside-Product cs) ∙ h)));
  negate = λ c k h. handed _ _ (figure-Negate c) (negated_sound (figure c) (k (sym (inside-Negate c) ∙ h)));
  invert = λ c k h. handed _ _ (figure-Invert c) (inverted_sound (figure c) (k (sym (inside-Invert c) ∙ h)));
  min = λ cs k h. handed _ _ (figure-Min cs) (chosen_sound least least_sound (map figure cs) (each_sound cs k (sym (inside-Min cs) ∙ h)));
  max = λ cs k h. handed _ _ (figure-Max cs) (chosen_sound greatest greatest_sound (map figure cs) (each_sound cs k (sym (inside-Max cs) ∙ h)));
  clamp = λ a b c k l n h.
      let p = and_true (counted.inside a && counted.inside b) (counted.inside c) (sym (inside-Clamp a b c) ∙ h) in
      let q = and_true (counted.inside a) (counted.inside b) p.0 in
      handed _ _ (figure-Clamp a b c) (greatest_sound (figure a) (least (figure b) (figure c)) (k q.0) (least_sound (figure b) (figure c) (l q.1) (n p.1)));
}
