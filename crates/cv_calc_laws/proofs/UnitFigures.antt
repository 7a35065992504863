-- A calculation has no figure exactly where it holds a unit.
use Rattle.std.specs.Prelude.{Bool, true, false, ◌&&◌, List, [], ◌∷◌, map, fold, ◌⊎◌, if◌then◌else◌}
use Rattle.std.proofs.Common.{inl, inr, ◌≡◌, refl, sym, ◌∙◌, ap, subst}
use Rattle.cv_spec_ratio.specs.Ratio.{Ratio, add, mul, zero_ratio, one_ratio}
use Rattle.cv_spec_ratio.specs.Order.{lesser, greater}
use Rattle.cv_calc.specs.declared.calc.Calc.{Calc}
use Rattle.cv_calc.specs.declared.calc.Calc.TheVariants.{Num, Sum, Product, Negate, Invert, Min, Max, Clamp}
use Rattle.cv_calc.specs.Linear.{shape, added_shape, sum_shape, product_shape, all_numbers}
use Rattle.cv_calc.specs.Numbers.{Figure, measured, undefined, inside, outside, figure_of, joined, least, negated, inverted, chosen, figure, figure_step}
use Rattle.cv_calc.specs.Tree.{Each, by_cases, fold-Num, fold-Sum, fold-Product, fold-Negate, fold-Invert, fold-Min, fold-Max, fold-Clamp}
use Rattle.cv_calc.proofs.Shapes.{shape-Num, shape-Sum, shape-Product, shape-Negate, shape-Invert, shape-Min, shape-Max, shape-Clamp}
use Rattle.cv_calc_laws.specs.Divisors.{UnitsHaveNoFigure}
use Rattle.cv_calc_laws.proofs.Factors.{Shape}
use Rattle.cv_calc_laws.proofs.Measured.{IsFigured, not_measured}

second : (give : Ratio → Figure) (f : Ratio → Ratio → Ratio) (g : Figure) → joined give f g measured ≡ measured
second give f measured = refl
second give f undefined = refl
second give f (inside a) = refl
second give f (outside a) = refl

stays : (give : Ratio → Figure) (f : Ratio → Ratio → Ratio) (gs : List Figure) → fold (joined give f) measured gs ≡ measured
stays give f [] = refl
stays give f (g ∷ gs) = stays give f gs

-- what is found of some parts, and their figures
abbrev Agree : List Shape → List Figure → Type 0
Agree [] [] = Unit {0}
Agree [] (g ∷ gs) = ⊥
Agree (s ∷ ss) [] = ⊥
Agree (s ∷ ss) (g ∷ gs) = (s.numbers ≡ false → g ≡ measured) × Agree ss gs

either_false : (b d : Bool) → (b && d) ≡ false → (b ≡ false) ⊎ (d ≡ false)
either_false true d e = inr e
either_false false d e = inl refl

both_measured : (give : Ratio → Figure) (f : Ratio → Ratio → Ratio) (b d : Bool) (g h : Figure) → (b ≡ false → g ≡ measured) → (d ≡ false → h ≡ measured) → (b && d) ≡ false → joined give f g h ≡ measured
both_measured give f b d g h k l e = go (either_false b d e)
  where
    go : (b ≡ false) ⊎ (d ≡ false) → joined give f g h ≡ measured
    go (inl left) = ap (λ x. joined give f x h) (k left)
    go (inr right) = ap (joined give f g) (l right) ∙ second give f g

terms : (give : Ratio → Figure) (f : Ratio → Ratio → Ratio) (s : Shape) (g : Figure) (ss : List Shape) (gs : List Figure) →
    (s.numbers ≡ false → g ≡ measured) → Agree ss gs → (fold added_shape s ss).numbers ≡ false → fold (joined give f) g gs ≡ measured
terms give f s g [] [] h k e = h e
terms give f s g [] (d ∷ gs) h k e = absurd k
terms give f s g (t ∷ ss) [] h k e = absurd k
terms give f s g (t ∷ ss) (d ∷ gs) h k e = terms give f (added_shape s t) (joined give f g d) ss gs (both_measured give f s.numbers t.numbers g d h k.0) k.1 e

no_unit : ◌≡◌ {A = Bool} true false → ⊥
no_unit e = cc

sum_measured : (z : Ratio) (ss : List Shape) (gs : List Figure) → Agree ss gs → (sum_shape ss).numbers ≡ false → fold (joined figure_of add) (inside z) gs ≡ measured
unfolding sum_shape
sum_measured z [] gs k e = absurd (no_unit e)
sum_measured z (s ∷ ss) [] k e = absurd k
sum_measured z (s ∷ ss) (g ∷ gs) k e = terms figure_of add s (joined figure_of add (inside z) g) ss gs (λ h. ap (joined figure_of add (inside z)) (k.0 h)) k.1 e

factors : (g : Figure) (ss : List Shape) (gs : List Figure) → Agree ss gs → all_numbers ss ≡ false → fold (joined figure_of mul) g gs ≡ measured
unfolding all_numbers
factors g [] gs k e = absurd (no_unit e)
factors g (s ∷ ss) [] k e = absurd k
factors g (s ∷ ss) (d ∷ gs) k e = go (either_false s.numbers (all_numbers ss) e) (λ rest. factors (joined figure_of mul g d) ss gs k.1 rest)
  where
    go : (s.numbers ≡ false) ⊎ (all_numbers ss ≡ false) → (all_numbers ss ≡ false → fold (joined figure_of mul) (joined figure_of mul g d) gs ≡ measured) → fold (joined figure_of mul) (joined figure_of mul g d) gs ≡ measured
    go (inl left) later = ap (λ x. fold (joined figure_of mul) x gs) (ap (joined figure_of mul g) (k.0 left) ∙ second figure_of mul g) ∙ stays figure_of mul gs
    go (inr rest) later = later rest

product_measured : (z : Ratio) (ss : List Shape) (gs : List Figure) → Agree ss gs → (product_shape ss).numbers ≡ false → fold (joined figure_of mul) (inside z) gs ≡ measured
unfolding product_shape
product_measured z ss gs k e = factors (inside z) ss gs k e

chosen_measured : (f : Ratio → Ratio → Ratio) (ss : List Shape) (gs : List Figure) → Agree ss gs → (sum_shape ss).numbers ≡ false → chosen (joined inside f) gs ≡ measured
unfolding sum_shape
chosen_measured f [] gs k e = absurd (no_unit e)
chosen_measured f (s ∷ ss) [] k e = absurd k
chosen_measured f (s ∷ ss) (g ∷ gs) k e = terms inside f s g ss gs k.0 k.1 e

-- ---- a tree

abbrev IsUnited : Calc → Type 0
IsUnited c = (shape c).numbers ≡ false → figure c ≡ measured

agree : (cs : List Calc) → Each IsUnited cs → Agree (map shape cs) (map figure cs)
agree [] h = tt
agree (c ∷ cs) h = (h.0, agree cs h.1)

along : (s t : Shape) → s ≡ t → s.numbers ≡ false → t.numbers ≡ false
along s t e h = ap (λ (r : Shape). r.numbers) (sym e) ∙ h

united : (c : Calc) → IsUnited c
unfolding figure
united = by_cases IsUnited record {
  num = λ v u h. fold-Num figure_step v u ∙ ap (λ b. if b then inside v else measured) (along (shape (Num v u)) _ (shape-Num v u) h);
  sum = λ cs h k. fold-Sum figure_step cs ∙ sum_measured zero_ratio (map shape cs) (map figure cs) (agree cs h) (along (shape (Sum cs)) _ (shape-Sum cs) k);
  product = λ cs h k. fold-Product figure_step cs ∙ product_measured one_ratio (map shape cs) (map figure cs) (agree cs h) (along (shape (Product cs)) _ (shape-Product cs) k);
  negate = λ c h k. fold-Negate figure_step c ∙ ap negated (h (along (shape (Negate c)) _ (shape-Negate c) k));
  invert = λ c h k. fold-Invert figure_step c ∙ ap inverted (h (along (shape (Invert c)) _ (shape-Invert c) k));
  min = λ cs h k. fold-Min figure_step cs ∙ chosen_measured lesser (map shape cs) (map figure cs) (agree cs h) (along (shape (Min cs)) _ (shape-Min cs) k);
  max = λ cs h k. fold-Max figure_step cs ∙ chosen_measured greater (map shape cs) (map figure cs) (agree cs h) (along (shape (Max cs)) _ (shape-Max cs) k);
  clamp = λ a b c h k l e.
      fold-Clamp figure_step a b c
      ∙ clamped a b c h k l (along (shape (Clamp a b c)) _ (shape-Clamp a b c) e);
}
  where
    clamped : (a b c : Calc) → IsUnited a → IsUnited b → IsUnited c → (added_shape (added_shape (shape a) (shape b)) (shape c)).numbers ≡ false → joined inside greater (figure a) (least (figure b) (figure c)) ≡ measured
    clamped a b c h k l e = go (either_false ((shape a).numbers && (shape b).numbers) (shape c).numbers e)
      where
        go : (((shape a).numbers && (shape b).numbers) ≡ false) ⊎ ((shape c).numbers ≡ false) → joined inside greater (figure a) (least (figure b) (figure c)) ≡ measured
        go (inl front) = first (either_false (shape a).numbers (shape b).numbers front)
          where
            first : ((shape a).numbers ≡ false) ⊎ ((shape b).numbers ≡ false) → joined inside greater (figure a) (least (figure b) (figure c)) ≡ measured
            first (inl left) = ap (λ x. joined inside greater x (least (figure b) (figure c))) (h left)
            first (inr middle) = ap (λ x. joined inside greater (figure a) (least x (figure c))) (k middle) ∙ second inside greater (figure a)
        go (inr last) = ap (λ x. joined inside greater (figure a) (least (figure b) x)) (l last) ∙ ap (joined inside greater (figure a)) (second inside lesser (figure b)) ∙ second inside greater (figure a)

only : (c : Calc) → figure c ≡ measured → (shape c).numbers ≡ false
only c e = go (shape c).numbers refl
  where
    go : (b : Bool) → (shape c).numbers ≡ b → b ≡ false
    go false is = refl
    go true is = absurd (subst IsFigured e (not_measured c is))

pub units_have_no_figure : UnitsHaveNoFigure
units_have_no_figure = record { measured = united; only = only }
