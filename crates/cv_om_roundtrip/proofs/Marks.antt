-- The divisors of a node are those of its children, one after the other.
use Rattle.std.specs.Prelude.{List, [], ◌∷◌, ◌++◌, map, fold}
use Rattle.std.proofs.Common.{◌≡◌, refl, sym, ◌∙◌, ap}
use Rattle.std.proofs.lemmas.List.{append_assoc, append-nil}
use Rattle.cv_spec_ratio.specs.Ratio.{Ratio}
use Rattle.cv_calc.specs.declared.unit.Unit as units
use Rattle.cv_calc.specs.declared.calc.Calc.{Calc}
use Rattle.cv_calc.specs.declared.calc.Calc.TheVariants.{Num, Sum, Product, Negate, Invert, Min, Max, Clamp}
use Rattle.cv_calc.specs.Numbers.{figure}
use Rattle.cv_calcread.specs.declared.figure.Mark.{Mark}
use Rattle.cv_calcread.specs.declared.figure.Mark.TheVariants.{Fine, Far, Null}
use Rattle.cv_calcread.specs.Figures.{Evaluated, evaluated, with_marks, mark_of}
use Rattle.cv_calcread.proofs.Evaluations.{evaluated-Num, evaluated-Negate}
use Rattle.cv_calcread.proofs.Judged.{divisors_are_judged}
use Rattle.cv_calcread.proofs.Marks.{marks-Sum, marks-Product, marks-Min, marks-Max, marks-Clamp}

-- ---- those that aren't fine

abbrev pub grave : List Mark → List Mark
grave [] = []
grave (Fine ∷ ms) = grave ms
grave (Far ∷ ms) = Far ∷ grave ms
grave (Null ∷ ms) = Null ∷ grave ms

pub grave_append : (ms ns : List Mark) → grave (ms ++ ns) ≡ grave ms ++ grave ns
grave_append [] ns = refl
grave_append (Fine ∷ ms) ns = grave_append ms ns
grave_append (Far ∷ ms) ns = ap (λ ks. Far ∷ ks) (grave_append ms ns)
grave_append (Null ∷ ms) ns = ap (λ ks. Null ∷ ks) (grave_append ms ns)

-- ---- the divisors in a calculation, and in some

abbrev pub marks : Calc → List Mark
marks c = (evaluated c).marks

abbrev pub all_marks : List Calc → List Mark
all_marks [] = []
all_marks (c ∷ cs) = marks c ++ all_marks cs

marks_folded : (ms : List Mark) (cs : List Calc) → fold with_marks ms (map evaluated cs) ≡ ms ++ all_marks cs
marks_folded ms [] = sym (append-nil ms)
marks_folded ms (c ∷ cs) = marks_folded (ms ++ marks c) cs ∙ append_assoc ms (marks c) (all_marks cs)

pub marks_Num : (v : Ratio) (u : units.Unit) → marks (Num v u) ≡ []
marks_Num v u = ap (λ (e : Evaluated). e.marks) (evaluated-Num v u)

pub marks_Sum : (cs : List Calc) → marks (Sum cs) ≡ all_marks cs
marks_Sum cs = sym (marks-Sum cs []) ∙ marks_folded [] cs

pub marks_Product : (cs : List Calc) → marks (Product cs) ≡ all_marks cs
marks_Product cs = sym (marks-Product cs []) ∙ marks_folded [] cs

pub marks_Negate : (c : Calc) → marks (Negate c) ≡ marks c
marks_Negate c = ap (λ (e : Evaluated). e.marks) (evaluated-Negate c)

pub marks_Invert : (c : Calc) → marks (Invert c) ≡ mark_of (figure c) ∷ marks c
marks_Invert c = divisors_are_judged.divisor_is c

pub marks_Min : (cs : List Calc) → marks (Min cs) ≡ all_marks cs
marks_Min cs = sym (marks-Min cs []) ∙ marks_folded [] cs

pub marks_Max : (cs : List Calc) → marks (Max cs) ≡ all_marks cs
marks_Max cs = sym (marks-Max cs []) ∙ marks_folded [] cs

pub marks_Clamp : (a b c : Calc) → marks (Clamp a b c) ≡ marks a ++ (marks b ++ marks c)
marks_Clamp a b c = sym (marks-Clamp a b c []) ∙ append_assoc (marks a) (marks b) (marks c)
