-- What the pass over a calculation finds of its parts are their figures.
use Rattle.std.specs.Prelude.{List, [], ◌∷◌, map, fold, Some}
use Rattle.std.proofs.Common.{◌≡◌, refl, sym, ◌∙◌, ap, ap₂}
use Rattle.cv_spec_ratio.specs.Ratio.{Ratio, zero_ratio, one_ratio}
use Rattle.cv_calc.specs.declared.unit.Unit as units
use Rattle.cv_calc.specs.declared.calc.Calc.{Calc}
use Rattle.cv_calc.specs.declared.calc.Calc.TheVariants.{Num, Sum, Product, Negate, Invert, Min, Max, Clamp}
use Rattle.cv_calc.specs.Tree.{Each, by_cases, fold-Num, fold-Sum, fold-Product, fold-Negate, fold-Invert, fold-Min, fold-Max, fold-Clamp}
use Rattle.cv_calc.specs.Numbers as numbers
use Rattle.cv_calc.specs.Numbers.{figure, figure_step}
use Rattle.cv_calcread.specs.declared.figure.Joining.{Joining}
use Rattle.cv_calcread.specs.declared.figure.Joining.TheVariants.{Add, Multiply, Least, Greatest}
use Rattle.cv_calcread.specs.Figures.{Evaluated, evaluated, joined_as, with_part, begun_with, chosen_next, or_undefined, chosen_of, mark_of}
use Rattle.cv_calcread.specs.Judged.{DivisorsAreJudged}
use Rattle.cv_calcread.proofs.Evaluations.{evaluated-Num, evaluated-Sum, evaluated-Product, evaluated-Negate, evaluated-Invert, evaluated-Min, evaluated-Max, evaluated-Clamp}

abbrev seen_figure : Evaluated → numbers.Figure
seen_figure e = e.figure

row : (j : Joining) (a : Evaluated) (es : List Evaluated) → (fold (with_part j) a es).figure ≡ fold (joined_as j) a.figure (map seen_figure es)
row j a [] = refl
row j a (e ∷ es) = row j (with_part j a e) es

next : (j : Joining) (e : Evaluated) (es : List Evaluated) → fold (chosen_next j) (Some e) es ≡ Some (fold (with_part j) e es)
next j e [] = refl
next j e (d ∷ es) = next j (with_part j e d) es

chosen_row : (j : Joining) (es : List Evaluated) → (chosen_of j es).figure ≡ numbers.chosen (joined_as j) (map seen_figure es)
chosen_row j [] = refl
chosen_row j (e ∷ es) = ap (λ o. (or_undefined o).figure) (next j e es) ∙ row j e es

abbrev IsFigure : Calc → Type 0
IsFigure c = (evaluated c).figure ≡ figure c

each_figure : (cs : List Calc) → Each IsFigure cs → map seen_figure (map evaluated cs) ≡ map figure cs
each_figure [] h = refl
each_figure (c ∷ cs) h = ap₂ (λ g gs. g ∷ gs) h.0 (each_figure cs h.1)

figure-Num : (v : Ratio) (u : units.Unit) → figure (Num v u) ≡ numbers.unit_figure v u
unfolding figure
figure-Num v u = fold-Num figure_step v u

figure-Sum : (cs : List Calc) → figure (Sum cs) ≡ fold numbers.added (numbers.inside zero_ratio) (map figure cs)
unfolding figure
figure-Sum cs = fold-Sum figure_step cs

figure-Product : (cs : List Calc) → figure (Product cs) ≡ fold numbers.multiplied (numbers.inside one_ratio) (map figure cs)
unfolding figure
figure-Product cs = fold-Product figure_step cs

figure-Negate : (c : Calc) → figure (Negate c) ≡ numbers.negated (figure c)
unfolding figure
figure-Negate c = fold-Negate figure_step c

figure-Invert : (c : Calc) → figure (Invert c) ≡ numbers.inverted (figure c)
unfolding figure
figure-Invert c = fold-Invert figure_step c

figure-Min : (cs : List Calc) → figure (Min cs) ≡ numbers.chosen numbers.least (map figure cs)
unfolding figure
figure-Min cs = fold-Min figure_step cs

figure-Max : (cs : List Calc) → figure (Max cs) ≡ numbers.chosen numbers.greatest (map figure cs)
unfolding figure
figure-Max cs = fold-Max figure_step cs

figure-Clamp : (a b c : Calc) → figure (Clamp a b c) ≡ numbers.greatest (figure a) (numbers.least (figure b) (figure c))
unfolding figure
figure-Clamp a b c = fold-Clamp figure_step a b c

all_figures : (c : Calc) → IsFigure c
all_figures = by_cases IsFigure record {
  num = λ v u. ap seen_figure (evaluated-Num v u) ∙ sym (figure-Num v u);
  sum = λ cs h. ap seen_figure (evaluated-Sum cs) ∙ row Add (begun_with zero_ratio) (map evaluated cs) ∙ ap (fold numbers.added (numbers.inside zero_ratio)) (each_figure cs h) ∙ sym (figure-Sum cs);
  product = λ cs h. ap seen_figure (evaluated-Product cs) ∙ row Multiply (begun_with one_ratio) (map evaluated cs) ∙ ap (fold numbers.multiplied (numbers.inside one_ratio)) (each_figure cs h) ∙ sym (figure-Product cs);
  negate = λ c h. ap seen_figure (evaluated-Negate c) ∙ ap (λ g. numbers.negated g) h ∙ sym (figure-Negate c);
  invert = λ c h. ap seen_figure (evaluated-Invert c) ∙ ap (λ g. numbers.inverted g) h ∙ sym (figure-Invert c);
  min = λ cs h. ap seen_figure (evaluated-Min cs) ∙ chosen_row Least (map evaluated cs) ∙ ap (λ gs. numbers.chosen numbers.least gs) (each_figure cs h) ∙ sym (figure-Min cs);
  max = λ cs h. ap seen_figure (evaluated-Max cs) ∙ chosen_row Greatest (map evaluated cs) ∙ ap (λ gs. numbers.chosen numbers.greatest gs) (each_figure cs h) ∙ sym (figure-Max cs);
  clamp = λ a b c h k l. ap seen_figure (evaluated-Clamp a b c) ∙ ap₂ (λ g d. numbers.greatest g d) h (ap₂ (λ d e. numbers.least d e) k l) ∙ sym (figure-Clamp a b c);
}

pub divisors_are_judged : DivisorsAreJudged
divisors_are_judged = record {
  figure_is = all_figures;
  divisor_is = λ c. ap (λ (e : Evaluated). e.marks) (evaluated-Invert c) ∙ ap (λ g. mark_of g ∷ (evaluated c).marks) (all_figures c);
}
