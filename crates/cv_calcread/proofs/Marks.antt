-- The divisors of a calculation are those of its parts, one after the other.
use Rattle.std.specs.Prelude.{List, [], ◌∷◌, ◌++◌, map, fold, Some}
use Rattle.std.proofs.Common.{◌≡◌, refl, sym, ◌∙◌, ap}
use Rattle.std.proofs.lemmas.List.{append_assoc, append-nil}
use Rattle.cv_spec_ratio.specs.Ratio.{Ratio, zero_ratio, one_ratio}
use Rattle.cv_calc.specs.declared.unit.Unit as units
use Rattle.cv_calc.specs.declared.calc.Calc.{Calc}
use Rattle.cv_calc.specs.declared.calc.Calc.TheVariants.{Num, Sum, Product, Negate, Invert, Min, Max, Clamp}
use Rattle.cv_calcread.specs.declared.figure.Mark.{Mark}
use Rattle.cv_calcread.specs.declared.figure.Joining.{Joining}
use Rattle.cv_calcread.specs.declared.figure.Joining.TheVariants.{Add, Multiply, Least, Greatest}
use Rattle.cv_calcread.specs.Figures.{Evaluated, evaluated, with_marks, with_part, begun_with, chosen_next, or_undefined, chosen_of, divided}
use Rattle.cv_calcread.proofs.Evaluations.{evaluated-Num, evaluated-Sum, evaluated-Product, evaluated-Negate, evaluated-Invert, evaluated-Min, evaluated-Max, evaluated-Clamp}

abbrev behind : List Mark → Evaluated → List Mark
behind ms e = with_marks ms e

row_marks : (j : Joining) (ms : List Mark) (a : Evaluated) (es : List Evaluated) → fold with_marks (ms ++ a.marks) es ≡ ms ++ (fold (with_part j) a es).marks
row_marks j ms a [] = refl
row_marks j ms a (e ∷ es) = ap (λ ns. fold with_marks ns es) (append_assoc ms a.marks e.marks) ∙ row_marks j ms (with_part j a e) es

begun_marks : (j : Joining) (ms : List Mark) (r : Ratio) (es : List Evaluated) → fold with_marks ms es ≡ ms ++ (fold (with_part j) (begun_with r) es).marks
begun_marks j ms r es = ap (λ ns. fold with_marks ns es) (sym (append-nil ms)) ∙ row_marks j ms (begun_with r) es

next : (j : Joining) (e : Evaluated) (es : List Evaluated) → fold (chosen_next j) (Some e) es ≡ Some (fold (with_part j) e es)
next j e [] = refl
next j e (d ∷ es) = next j (with_part j e d) es

chosen_marks : (j : Joining) (ms : List Mark) (es : List Evaluated) → fold with_marks ms es ≡ ms ++ (chosen_of j es).marks
chosen_marks j ms [] = sym (append-nil ms)
chosen_marks j ms (e ∷ es) = row_marks j ms e es ∙ ap (λ o. ms ++ (or_undefined o).marks) (sym (next j e es))

pub marks-Num : (v : Ratio) (u : units.Unit) (ms : List Mark) → ms ≡ with_marks ms (evaluated (Num v u))
marks-Num v u ms = sym (append-nil ms) ∙ ap (behind ms) (sym (evaluated-Num v u))

pub marks-Sum : (cs : List Calc) (ms : List Mark) → fold with_marks ms (map evaluated cs) ≡ with_marks ms (evaluated (Sum cs))
marks-Sum cs ms = begun_marks Add ms zero_ratio (map evaluated cs) ∙ ap (behind ms) (sym (evaluated-Sum cs))

pub marks-Product : (cs : List Calc) (ms : List Mark) → fold with_marks ms (map evaluated cs) ≡ with_marks ms (evaluated (Product cs))
marks-Product cs ms = begun_marks Multiply ms one_ratio (map evaluated cs) ∙ ap (behind ms) (sym (evaluated-Product cs))

pub marks-Negate : (c : Calc) (ms : List Mark) → with_marks ms (evaluated c) ≡ with_marks ms (evaluated (Negate c))
marks-Negate c ms = ap (behind ms) (sym (evaluated-Negate c))

pub marks-Invert : (c : Calc) (ms : List Mark) → with_marks ms (divided (evaluated c)) ≡ with_marks ms (evaluated (Invert c))
marks-Invert c ms = ap (behind ms) (sym (evaluated-Invert c))

pub marks-Min : (cs : List Calc) (ms : List Mark) → fold with_marks ms (map evaluated cs) ≡ with_marks ms (evaluated (Min cs))
marks-Min cs ms = chosen_marks Least ms (map evaluated cs) ∙ ap (behind ms) (sym (evaluated-Min cs))

pub marks-Max : (cs : List Calc) (ms : List Mark) → fold with_marks ms (map evaluated cs) ≡ with_marks ms (evaluated (Max cs))
marks-Max cs ms = chosen_marks Greatest ms (map evaluated cs) ∙ ap (behind ms) (sym (evaluated-Max cs))

pub marks-Clamp : (a b c : Calc) (ms : List Mark) → with_marks (with_marks (with_marks ms (evaluated a)) (evaluated b)) (evaluated c) ≡ with_marks ms (evaluated (Clamp a b c))
marks-Clamp a b c ms =
    append_assoc (ms ++ (evaluated a).marks) (evaluated b).marks (evaluated c).marks
    ∙ append_assoc ms (evaluated a).marks ((evaluated b).marks ++ (evaluated c).marks)
    ∙ ap (behind ms) (sym (evaluated-Clamp a b c))

pub ruleset marks = (marks-Num, marks-Sum, marks-Product, marks-Negate, marks-Invert, marks-Min, marks-Max, marks-Clamp)
