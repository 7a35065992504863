-- The text of what a length-percentage simplifies to reads back.
use Rattle.std.specs.Prelude.{true}
use Rattle.std.proofs.Common.{◌≡◌, sym, ◌∙◌, ap}
use Rattle.cv_calc.specs.declared.context.Context.{Context}
use Rattle.cv_calc.specs.declared.calc.Calc.{Calc}
use Rattle.cv_calc.specs.declared.calc.Calc.TheOpen.{Calc-F}
use Rattle.cv_calc.specs.declared.calc.Calc.TheViews.{out-Calc, roll-out-Calc}
use Rattle.cv_calc.specs.declared.calc.Calc.TheFolds.{fold-roll-Calc, map-Calc}
use Rattle.cv_calc.specs.Linear.{shape, is_linear, has_type}
use Rattle.cv_calc.proofs.FoundTypes.{kind_is_type}
use Rattle.cv_calcread.specs.Grammar.{ReadsAs}
use Rattle.cv_calcread.specs.Literals.{exact_number}
use Rattle.cv_calcread.proofs.Whole.{grammar_is_read}
use Rattle.cv_simplify.specs.Counted.{Counted, counted, counted_step, counted_below, inside, is_in_range}
use Rattle.cv_simplify.specs.Simplified.{simp}
use Rattle.cv_calc_laws.proofs.Answered as answers
use Rattle.cv_calc_laws.proofs.AnsweredNumbers.{answers_have_values, meaning_of, meaning_agrees}
use Rattle.cv_calc_roundtrip.specs.ReadsBack.{CalculationsReadBack}
use Rattle.cv_calc_roundtrip.proofs.Back.{form_back}
use Rattle.cv_calc_roundtrip.proofs.Digits.{and_true}
use Rattle.cv_calc_roundtrip.proofs.Equations.{counted_simple}
use Rattle.cv_calc_roundtrip.proofs.Formed.{formed}
use Rattle.cv_calc_roundtrip.proofs.ReadShapes.{value_placed}

-- a calculation in range simplifies to fractions in bounds
step_inside : (x : Context) (l : Calc-F Counted) → (counted_step x l).in_range ≡ true → inside (counted_step x l).simple ≡ true
step_inside x l h = (and_true (counted_below l) (inside (counted_step x l).simple) h).1

range_inside : (x : Context) (c : Calc) → is_in_range x c ≡ true → inside (simp x c) ≡ true
unfolding counted
range_inside x c h =
    let l : Calc-F Counted = map-Calc Calc Counted (counted x) (out-Calc c) in
    let is : counted x c ≡ counted_step x l = ap (counted x) (sym (roll-out-Calc c)) ∙ fold-roll-Calc Counted (counted_step x) (out-Calc c) in
    ap inside (sym (counted_simple x c) ∙ ap (λ (k : Counted). k.simple) is) ∙ step_inside x l (sym (ap (λ (k : Counted). k.in_range) is) ∙ h)

pub calculations_read_back : CalculationsReadBack
unfolding is_linear
calculations_read_back = record {
  reads = λ x ts c r.
      let read : ReadsAs exact_number ts c = grammar_is_read.only exact_number ts c (answers.answered ts c r.read).tree in
      let has = answers_have_values ts c r.read r.linear (meaning_of x) in
      let fits = (and_true (has_type (shape c).kind) (shape c).fits r.linear).1 in
      form_back (formed (meaning_of x) x (meaning_agrees x) r.basis c (r.kind, kind_is_type c ∙ r.typed, r.taken) fits has (value_placed exact_number read.1.1)) (range_inside x c r.in_range);
}
