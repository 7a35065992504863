-- The figure of a calculation that is made of numbers alone isn't that of a measure.
use Rattle.std.specs.Prelude.{Bool, true, false, List, [], ◌∷◌, map, fold, Option, Some, None, if◌then◌else◌}
use Rattle.std.proofs.Common.{◌≡◌, sym, subst}
use Rattle.cv_spec_ratio.specs.Ratio.{Ratio, add, mul, reciprocal, zero_ratio, one_ratio}
use Rattle.cv_spec_ratio.specs.Order.{lesser, greater}
use Rattle.cv_frac.specs.Bounded.{in_bounds}
use Rattle.cv_calc.specs.declared.unit.Unit as units
use Rattle.cv_calc.specs.declared.unit.Unit.TheVariants as unit
use Rattle.cv_calc.specs.declared.calc.Calc.{Calc}
use Rattle.cv_calc.specs.declared.calc.Calc.TheVariants.{Num, Sum, Product, Negate, Invert, Min, Max, Clamp}
use Rattle.cv_calc.specs.Linear.{shape, added_shape, sum_shape, product_shape, all_numbers}
use Rattle.cv_calc.specs.Numbers.{Figure, measured, undefined, inside, outside, figure_of, unit_figure, joined, least, negated, inside_or, outside_or, inverted, chosen, figure, figure_step}
use Rattle.cv_calc.specs.Tree.{Each, by_cases, fold-Num, fold-Sum, fold-Product, fold-Negate, fold-Invert, fold-Min, fold-Max, fold-Clamp}
use Rattle.cv_calc.specs.Unit.{same_unit}
use Rattle.cv_calc.proofs.Shapes.{shape-Num, shape-Sum, shape-Product, shape-Negate, shape-Invert, shape-Min, shape-Max, shape-Clamp}
use Rattle.cv_calc_laws.proofs.Lists.{Every, and_both}
use Rattle.cv_calc_laws.proofs.Factors.{Shape}

abbrev pub IsFigured : Figure → Type 0
IsFigured measured = ⊥
IsFigured undefined = Unit {0}
IsFigured (inside r) = Unit {0}
IsFigured (outside r) = Unit {0}

joined_figured : (give : Ratio → Figure) (f : Ratio → Ratio → Ratio) → ((r : Ratio) → IsFigured (give r)) → (g h : Figure) → IsFigured g → IsFigured h → IsFigured (joined give f g h)
joined_figured give f ok measured h k l = absurd k
joined_figured give f ok undefined measured k l = absurd l
joined_figured give f ok undefined undefined k l = tt
joined_figured give f ok undefined (inside b) k l = tt
joined_figured give f ok undefined (outside b) k l = tt
joined_figured give f ok (inside a) measured k l = absurd l
joined_figured give f ok (inside a) undefined k l = tt
joined_figured give f ok (inside a) (inside b) k l = ok (f a b)
joined_figured give f ok (inside a) (outside b) k l = tt
joined_figured give f ok (outside a) measured k l = absurd l
joined_figured give f ok (outside a) undefined k l = tt
joined_figured give f ok (outside a) (inside b) k l = tt
joined_figured give f ok (outside a) (outside b) k l = tt

figured_of : (r : Ratio) → IsFigured (figure_of r)
figured_of r = go (in_bounds r)
  where
    go : (b : Bool) → IsFigured (if b then inside r else outside r)
    go true = tt
    go false = tt

row_figured : (give : Ratio → Figure) (f : Ratio → Ratio → Ratio) → ((r : Ratio) → IsFigured (give r)) → (g : Figure) (gs : List Figure) → IsFigured g → Every IsFigured gs → IsFigured (fold (joined give f) g gs)
row_figured give f ok g [] h k = h
row_figured give f ok g (d ∷ ds) h k = row_figured give f ok (joined give f g d) ds (joined_figured give f ok g d h k.0) k.1

chosen_figured : (f : Ratio → Ratio → Ratio) (gs : List Figure) → Every IsFigured gs → IsFigured (chosen (joined inside f) gs)
chosen_figured f [] h = tt
chosen_figured f (g ∷ gs) h = row_figured inside f (λ r. tt) g gs h.0 h.1

negated_figured : (g : Figure) → IsFigured g → IsFigured (negated g)
negated_figured measured h = h
negated_figured undefined h = tt
negated_figured (inside r) h = tt
negated_figured (outside r) h = tt

inverted_figured : (g : Figure) → IsFigured g → IsFigured (inverted g)
inverted_figured measured h = h
inverted_figured undefined h = tt
inverted_figured (inside r) h = go (reciprocal r)
  where
    go : (o : Option Ratio) → IsFigured (inside_or o)
    go None = tt
    go (Some s) = tt
inverted_figured (outside r) h = go (reciprocal r)
  where
    go : (o : Option Ratio) → IsFigured (outside_or o)
    go None = tt
    go (Some s) = tt

-- ---- parts of numbers alone

abbrev AreNumbers : Shape → Type 0
AreNumbers s = s.numbers ≡ true

terms_numbers : (s : Shape) (ss : List Shape) → AreNumbers (fold added_shape s ss) → AreNumbers s × Every AreNumbers ss
terms_numbers s [] h = (h, tt)
terms_numbers s (t ∷ ts) h =
    let (both, rest) = terms_numbers (added_shape s t) ts h in
    let (first, second) = and_both s.numbers t.numbers both in
    (first, (second, rest))

sum_numbers : (ss : List Shape) → AreNumbers (sum_shape ss) → Every AreNumbers ss
unfolding sum_shape
sum_numbers [] h = tt
sum_numbers (s ∷ ss) h = let (first, rest) = terms_numbers s ss h in (first, rest)

every_number : (ss : List Shape) → all_numbers ss ≡ true → Every AreNumbers ss
unfolding all_numbers
every_number [] h = tt
every_number (s ∷ ss) h = let (first, rest) = and_both s.numbers (all_numbers ss) h in (first, every_number ss rest)

product_numbers : (ss : List Shape) → AreNumbers (product_shape ss) → Every AreNumbers ss
unfolding product_shape
product_numbers ss h = every_number ss h

-- ---- a tree

abbrev IsNotMeasured : Calc → Type 0
IsNotMeasured c = AreNumbers (shape c) → IsFigured (figure c)

from_figure : (c : Calc) (g : Figure) → figure c ≡ g → IsFigured g → IsFigured (figure c)
from_figure c g e h = subst IsFigured (sym e) h

each_figured : (cs : List Calc) → Each IsNotMeasured cs → Every AreNumbers (map shape cs) → Every IsFigured (map figure cs)
each_figured [] h k = tt
each_figured (c ∷ cs) h k = (h.0 k.0, each_figured cs h.1 k.1)

unit_figured : (v : Ratio) (u : units.Unit) → same_unit u unit.Number ≡ true → IsFigured (unit_figure v u)
unit_figured v u h = subst (λ b. IsFigured (if b then inside v else measured)) (sym h) tt

num_figured : (v : Ratio) (u : units.Unit) → IsNotMeasured (Num v u)
unfolding figure
num_figured v u h = from_figure (Num v u) _ (fold-Num figure_step v u) (unit_figured v u (subst AreNumbers (shape-Num v u) h))

sum_figured : (cs : List Calc) → Each IsNotMeasured cs → IsNotMeasured (Sum cs)
unfolding figure
sum_figured cs h k =
    from_figure (Sum cs) _ (fold-Sum figure_step cs) (row_figured figure_of add figured_of (inside zero_ratio) (map figure cs) tt (each_figured cs h (sum_numbers (map shape cs) (subst AreNumbers (shape-Sum cs) k))))

product_figured : (cs : List Calc) → Each IsNotMeasured cs → IsNotMeasured (Product cs)
unfolding figure
product_figured cs h k =
    from_figure (Product cs) _ (fold-Product figure_step cs) (row_figured figure_of mul figured_of (inside one_ratio) (map figure cs) tt (each_figured cs h (product_numbers (map shape cs) (subst AreNumbers (shape-Product cs) k))))

negate_figured : (c : Calc) → IsNotMeasured c → IsNotMeasured (Negate c)
unfolding figure
negate_figured c h k = from_figure (Negate c) _ (fold-Negate figure_step c) (negated_figured (figure c) (h (subst AreNumbers (shape-Negate c) k)))

invert_figured : (c : Calc) → IsNotMeasured c → IsNotMeasured (Invert c)
unfolding figure
invert_figured c h k = from_figure (Invert c) _ (fold-Invert figure_step c) (inverted_figured (figure c) (h (subst AreNumbers (shape-Invert c) k)))

min_figured : (cs : List Calc) → Each IsNotMeasured cs → IsNotMeasured (Min cs)
unfolding figure
min_figured cs h k = from_figure (Min cs) _ (fold-Min figure_step cs) (chosen_figured lesser (map figure cs) (each_figured cs h (sum_numbers (map shape cs) (subst AreNumbers (shape-Min cs) k))))

max_figured : (cs : List Calc) → Each IsNotMeasured cs → IsNotMeasured (Max cs)
unfolding figure
max_figured cs h k = from_figure (Max cs) _ (fold-Max figure_step cs) (chosen_figured greater (map figure cs) (each_figured cs h (sum_numbers (map shape cs) (subst AreNumbers (shape-Max cs) k))))

clamp_figured : (a b c : Calc) → IsNotMeasured a → IsNotMeasured b → IsNotMeasured c → IsNotMeasured (Clamp a b c)
unfolding figure
clamp_figured a b c h k l q =
    let (first, rest) = terms_numbers (shape a) (shape b ∷ shape c ∷ []) (subst AreNumbers (shape-Clamp a b c) q) in
    from_figure (Clamp a b c) _ (fold-Clamp figure_step a b c)
    (joined_figured inside greater (λ r. tt) (figure a) (least (figure b) (figure c)) (h first)
    (joined_figured inside lesser (λ r. tt) (figure b) (figure c) (k rest.0) (l rest.1.0)))

pub not_measured : (c : Calc) → IsNotMeasured c
not_measured = by_cases IsNotMeasured record {
  num = num_figured;
  sum = sum_figured;
  product = product_figured;
  negate = negate_figured;
  invert = invert_figured;
  min = min_figured;
  max = max_figured;
  clamp = clamp_figured;
}
