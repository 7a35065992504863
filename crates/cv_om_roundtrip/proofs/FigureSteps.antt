-- The figures of calculations: their equations, and that a figure in bounds is in bounds.
use Rattle.std.specs.Prelude.{Bool, true, false, List, map, fold, if◌then◌else◌}
use Rattle.std.proofs.Common.{◌≡◌, refl, ◌∙◌, ap}
use Rattle.cv_spec_ratio.specs.Ratio.{Ratio, zero_ratio, one_ratio}
use Rattle.cv_frac.specs.Bounded.{in_bounds}
use Rattle.cv_calc.specs.declared.unit.Unit as units
use Rattle.cv_calc.specs.declared.calc.Calc.{Calc}
use Rattle.cv_calc.specs.declared.calc.Calc.TheVariants.{Num, Sum, Product, Negate, Invert, Min, Max, Clamp}
use Rattle.cv_calc.specs.Tree.{fold-Num, fold-Sum, fold-Product, fold-Negate, fold-Invert, fold-Min, fold-Max, fold-Clamp}
use Rattle.cv_calc.specs.Numbers.{Figure, measured, undefined, inside, outside, figure_of, unit_figure, joined, added, multiplied, least, greatest, negated, inverted, chosen, figure_step, figure}

pub figure-Num : (v : Ratio) (u : units.Unit) → figure (Num v u) ≡ unit_figure v u
unfolding figure
figure-Num v u = fold-Num figure_step v u

pub figure-Sum : (cs : List Calc) → figure (Sum cs) ≡ fold added (inside zero_ratio) (map figure cs)
unfolding figure
figure-Sum cs = fold-Sum figure_step cs

pub figure-Product : (cs : List Calc) → figure (Product cs) ≡ fold multiplied (inside one_ratio) (map figure cs)
unfolding figure
figure-Product cs = fold-Product figure_step cs

pub figure-Negate : (c : Calc) → figure (Negate c) ≡ negated (figure c)
unfolding figure
figure-Negate c = fold-Negate figure_step c

pub figure-Invert : (c : Calc) → figure (Invert c) ≡ inverted (figure c)
unfolding figure
figure-Invert c = fold-Invert figure_step c

pub figure-Min : (cs : List Calc) → figure (Min cs) ≡ chosen least (map figure cs)
unfolding figure
figure-Min cs = fold-Min figure_step cs

pub figure-Max : (cs : List Calc) → figure (Max cs) ≡ chosen greatest (map figure cs)
unfolding figure
figure-Max cs = fold-Max figure_step cs

pub figure-Clamp : (a b c : Calc) → figure (Clamp a b c) ≡ greatest (figure a) (least (figure b) (figure c))
unfolding figure
figure-Clamp a b c = fold-Clamp figure_step a b c

-- ---- figures in bounds

abbrev pub IsSound : Figure → Type 0
IsSound measured = Unit {0}
IsSound undefined = Unit {0}
IsSound (inside r) = in_bounds r ≡ true
IsSound (outside r) = Unit {0}

pub given_sound : (r : Ratio) → IsSound (figure_of r)
given_sound r = go (in_bounds r) refl
  where
    go : (b : Bool) → in_bounds r ≡ b → IsSound (if b then inside r else outside r)
    go true e = e
    go false e = tt

pub joined_sound : (give : Ratio → Figure) (f : Ratio → Ratio → Ratio) → ((a b : Ratio) → in_bounds a ≡ true → in_bounds b ≡ true → IsSound (give (f a b))) →
    (g h : Figure) → IsSound g → IsSound h → IsSound (joined give f g h)
joined_sound give f s measured h k l = tt
joined_sound give f s undefined measured k l = tt
joined_sound give f s undefined undefined k l = tt
joined_sound give f s undefined (inside b) k l = tt
joined_sound give f s undefined (outside b) k l = tt
joined_sound give f s (inside a) measured k l = tt
joined_sound give f s (inside a) undefined k l = tt
joined_sound give f s (inside a) (inside b) k l = s a b k l
joined_sound give f s (inside a) (outside b) k l = tt
joined_sound give f s (outside a) measured k l = tt
joined_sound give f s (outside a) undefined k l = tt
joined_sound give f s (outside a) (inside b) k l = tt
joined_sound give f s (outside a) (outside b) k l = tt

-- ---- what leaves a figure as it is

given_inside : (r : Ratio) → in_bounds r ≡ true → figure_of r ≡ inside r
given_inside r h = ap (λ b. if b then inside r else outside r) h

-- a number in bounds that is joined with each figure
pub joined_first : (f : Ratio → Ratio → Ratio) (e : Ratio) → ((r : Ratio) → f e r ≡ r) → (g : Figure) → IsSound g → joined figure_of f (inside e) g ≡ g
joined_first f e same measured h = refl
joined_first f e same undefined h = refl
joined_first f e same (inside r) h = ap figure_of (same r) ∙ given_inside r h
joined_first f e same (outside r) h = ap outside (same r)
