-- What is answered of a list that the grammar reads, by the divisors in what it reads.
use Rattle.std.specs.Prelude.{ℕ, Bool, true, false, ◌||◌, ◌≤◌, List, [], ◌∷◌, ◌++◌, length, replicate, Some, None, Result, Ok, Err, if◌then◌else◌}
use Rattle.std.specs.List.{list_any}
use Rattle.std.proofs.Common.{◌≡◌, refl, sym, ◌∙◌, ap, ap₂, arith}
use Rattle.std.proofs.lemmas.List.{append-nil}
use Rattle.cv_spec_text.specs.declared.token.Token.{Token}
use Rattle.cv_spec_text.specs.declared.token.Token.TheVariants as tokens
use Rattle.cv_spec_text.specs.declared.token.Bracket.TheVariants.{Round}
use Rattle.cv_calc.specs.declared.unit.NumType.{NumType}
use Rattle.cv_calc.specs.declared.calc.Calc.{Calc}
use Rattle.cv_calc.specs.Types.{type_of}
use Rattle.cv_calcread.specs.declared.figure.Mark.{Mark}
use Rattle.cv_calcread.specs.declared.figure.Mark.TheVariants.{Fine, Far, Null}
use Rattle.cv_calcread.specs.Answer.{wide_place, divisor_places, is_marked, divisor_place, after_tree, typed, after_type, after_literals, after_range, answer}
use Rattle.cv_calcread.specs.Grammar.{ReadsValue, BeginsFunction}
use Rattle.cv_calcread.specs.Literals.{exact_number}
use Rattle.cv_calcread.specs.Reading.{read}
use Rattle.cv_calcread.proofs.Whole.{grammar_is_read}
use Rattle.cv_calc_laws.proofs.Counts.{read_count}
use Rattle.cv_om.specs.declared.error.OmErr.{OmErr}
use Rattle.cv_om.specs.declared.error.OmErr.TheVariants.{Syntax, Range}
use Rattle.cv_om.specs.Parsed.{function_answer}
use Rattle.cv_om_roundtrip.specs.Read.{worst}
use Rattle.cv_om_roundtrip.proofs.Marks.{grave, marks}

-- ---- the worst of the divisors is that of those that aren't fine

far_grave : (ms : List Mark) → list_any (is_marked Far) (grave ms) ≡ list_any (is_marked Far) ms
far_grave [] = refl
far_grave (Fine ∷ ms) = far_grave ms
far_grave (Far ∷ ms) = refl
far_grave (Null ∷ ms) = far_grave ms

null_grave : (ms : List Mark) → list_any (is_marked Null) (grave ms) ≡ list_any (is_marked Null) ms
null_grave [] = refl
null_grave (Fine ∷ ms) = null_grave ms
null_grave (Far ∷ ms) = null_grave ms
null_grave (Null ∷ ms) = refl

worst_grave : (ms : List Mark) → worst (grave ms) ≡ worst ms
worst_grave ms = ap₂ (λ b c. if b then Far else if c then Null else Fine) (far_grave ms) (null_grave ms)

pub same_worst : (ms ns : List Mark) → grave ms ≡ grave ns → worst ms ≡ worst ns
same_worst ms ns e = sym (worst_grave ms) ∙ ap worst e ∙ worst_grave ns

-- ---- a divisor of a kind has a place

none_of : (p : Mark → Bool) (ms : List Mark) (ns : List ℕ) → list_any p ms ≡ false → divisor_place p ms ns ≡ None
unfolding divisor_place
none_of p [] ns e = refl
none_of p (m ∷ ms) [] e = refl
none_of p (m ∷ ms) (n ∷ ns) e = go (p m) e (none_of p ms ns)
  where
    go : (b : Bool) → (b || list_any p ms) ≡ false → (list_any p ms ≡ false → divisor_place p ms ns ≡ None) → (if b then Some n else divisor_place p ms ns) ≡ None
    go true e ih = cc
    go false e ih = ih e

one_of : (p : Mark → Bool) (ms : List Mark) (ns : List ℕ) → length ms ≤ length ns → list_any p ms ≡ true → (n : ℕ) × (divisor_place p ms ns ≡ Some n)
unfolding divisor_place
one_of p [] ns h e = cc
one_of p (m ∷ ms) [] h e = absurd (omega (arith, h))
one_of p (m ∷ ms) (n ∷ ns) h e = go (p m) e (one_of p ms ns (omega (arith, h)))
  where
    go : (b : Bool) → (b || list_any p ms) ≡ true → (list_any p ms ≡ true → (k : ℕ) × (divisor_place p ms ns ≡ Some k)) → (k : ℕ) × ((if b then Some n else divisor_place p ms ns) ≡ Some k)
    go true e ih = (n, refl)
    go false e ih = ih e

-- ---- the answer

-- what is answered where the divisors are so
abbrev pub Answers : Mark → Calc → Result Calc OmErr → Type 0
Answers Fine d r = r ≡ Ok d
Answers Far d r = r ≡ Err Range
Answers Null d r = r ≡ Err Syntax

module _ (ts : List Token) (d : Calc) (t : NumType) (count : length (marks d) ≤ length (divisor_places 0 ts)) where
  after_far : (b : Bool) → list_any (is_marked Null) (marks d) ≡ b → Answers (if b then Null else Fine) d (function_answer (after_range d (divisor_place (is_marked Null) (marks d) (divisor_places 0 ts))))
  after_far true e = let n = one_of (is_marked Null) (marks d) (divisor_places 0 ts) count e in ap (λ o. function_answer (after_range d o)) n.1
  after_far false e = ap (λ o. function_answer (after_range d o)) (none_of (is_marked Null) (marks d) (divisor_places 0 ts) e)

  after_wide : (b : Bool) → list_any (is_marked Far) (marks d) ≡ b →
      Answers (if b then Far else if list_any (is_marked Null) (marks d) then Null else Fine) d (function_answer (after_literals (divisor_places 0 ts) (marks d) d t (divisor_place (is_marked Far) (marks d) (divisor_places 0 ts))))
  after_wide true e = let n = one_of (is_marked Far) (marks d) (divisor_places 0 ts) count e in ap (λ o. function_answer (after_literals (divisor_places 0 ts) (marks d) d t o)) n.1
  after_wide false e =
      along (list_any (is_marked Null) (marks d)) refl (after_far (list_any (is_marked Null) (marks d)) refl)
    where
      none : divisor_place (is_marked Far) (marks d) (divisor_places 0 ts) ≡ None
      none = none_of (is_marked Far) (marks d) (divisor_places 0 ts) e

      along : (b : Bool) → list_any (is_marked Null) (marks d) ≡ b → Answers (if b then Null else Fine) d (function_answer (after_range d (divisor_place (is_marked Null) (marks d) (divisor_places 0 ts)))) →
          Answers (if b then Null else Fine) d (function_answer (after_literals (divisor_places 0 ts) (marks d) d t (divisor_place (is_marked Far) (marks d) (divisor_places 0 ts))))
      along true f h = ap (λ o. function_answer (after_literals (divisor_places 0 ts) (marks d) d t o)) none ∙ h
      along false f h = ap (λ o. function_answer (after_literals (divisor_places 0 ts) (marks d) d t o)) none ∙ h

answers_along : (m : Mark) (d : Calc) (r s : Result Calc OmErr) → r ≡ s → Answers m d s → Answers m d r
answers_along Fine d r s e h = e ∙ h
answers_along Far d r s e h = e ∙ h
answers_along Null d r s e h = e ∙ h

pub judged : (ts : List Token) (d : Calc) (t : NumType) → BeginsFunction ts → ReadsValue exact_number ts [] d → type_of d ≡ Some t → wide_place 0 ts ≡ None → Answers (worst (marks d)) d (function_answer (answer ts))
unfolding answer
judged ts d t starts value type small =
    let whole : ReadsValue exact_number (ts ++ replicate 0 (tokens.Close Round)) [] d = rw (append-nil ts) value in
    let is : read exact_number ts ≡ Some d = grammar_is_read.reads exact_number ts d (starts, (0, whole)) in
    answers_along (worst (marks d)) d (function_answer (after_tree ts (read exact_number ts))) (function_answer (after_literals (divisor_places 0 ts) (marks d) d t (divisor_place (is_marked Far) (marks d) (divisor_places 0 ts))))
    (ap (λ o. function_answer (after_tree ts o)) is ∙ ap (λ o. function_answer (typed ts d o)) type ∙ ap (λ o. function_answer (after_type ts d t o)) small)
    (after_wide ts d t (read_count exact_number ts d is) (list_any (is_marked Far) (marks d)) refl)
