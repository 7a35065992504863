-- A list that the grammar reads, whose numbers are in range and whose divisors are fine, is answered.
use Rattle.std.specs.Prelude.{ℕ, Bool, true, false, ◌&&◌, not, ◌+◌, List, [], ◌∷◌, ◌++◌, Some, None, Ok, replicate, if◌then◌else◌}
use Rattle.std.proofs.Common.{◌≡◌, refl, ◌∙◌, ap, ◌⊎◌, inl, inr}
use Rattle.std.proofs.lemmas.List.{append-nil}
use Rattle.cv_spec_text.specs.declared.token.Token.{Token}
use Rattle.cv_spec_text.specs.declared.token.Token.TheVariants as tokens
use Rattle.cv_spec_text.specs.declared.token.Bracket.TheVariants.{Round}
use Rattle.cv_calc.specs.declared.unit.NumType.{NumType}
use Rattle.cv_calc.specs.declared.calc.Calc.{Calc}
use Rattle.cv_calc.specs.Types.{type_of}
use Rattle.cv_calcread.specs.Answer.{is_wide, wide_place, divisor_places, is_marked, divisor_place, after_tree, typed, after_type, after_literals, after_range, answer}
use Rattle.cv_calcread.specs.Figures.{evaluated}
use Rattle.cv_calcread.specs.Grammar.{ReadsValue, BeginsFunction}
use Rattle.cv_calcread.specs.Literals.{exact_number}
use Rattle.cv_calcread.specs.Reading.{read}
use Rattle.cv_calcread.specs.declared.figure.Mark.{Mark}
use Rattle.cv_calcread.specs.declared.figure.Mark.TheVariants.{Fine, Far, Null}
use Rattle.cv_calcread.proofs.Whole.{grammar_is_read}
use Rattle.cv_calc_roundtrip.proofs.Digits.{and_true, both_true}
use Rattle.cv_calc_roundtrip.proofs.Numerals.{narrow}

-- ---- divisors

abbrev pub is_fine : Mark → Bool
is_fine Fine = true
is_fine Far = false
is_fine Null = false

abbrev pub all_fine : List Mark → Bool
all_fine [] = true
all_fine (m ∷ ms) = is_fine m && all_fine ms

pub fine_append : (ms ns : List Mark) → all_fine ms ≡ true → all_fine ns ≡ true → all_fine (ms ++ ns) ≡ true
fine_append [] ns h k = k
fine_append (m ∷ ms) ns h k = let p = and_true (is_fine m) (all_fine ms) h in both_true (is_fine m) (all_fine (ms ++ ns)) p.0 (fine_append ms ns p.1 k)

none_marked : (m : Mark) → m ≡ Far ⊎ m ≡ Null → (ms : List Mark) (ns : List ℕ) → all_fine ms ≡ true → divisor_place (is_marked m) ms ns ≡ None
unfolding divisor_place
none_marked m o [] ns h = refl
none_marked m o (n ∷ ms) [] h = refl
none_marked m o (Fine ∷ ms) (n ∷ ns) h = elim o [
  | inl e ↦ rw e (none_marked m o ms ns h)
  | inr e ↦ rw e (none_marked m o ms ns h)
]
none_marked m o (Far ∷ ms) (n ∷ ns) h = cc
none_marked m o (Null ∷ ms) (n ∷ ns) h = cc

-- ---- numbers

narrow_place : (n : ℕ) (ts : List Token) → narrow ts ≡ true → wide_place n ts ≡ None
unfolding wide_place
narrow_place n [] h = refl
narrow_place n (t ∷ ts) h = let p = and_true (not (is_wide t)) (narrow ts) h in go (is_wide t) p.0 (narrow_place (n + 1) ts p.1)
  where
    go : (b : Bool) → not b ≡ true → wide_place (n + 1) ts ≡ None → (if b then Some n else wide_place (n + 1) ts) ≡ None
    go true h ih = cc
    go false h ih = ih

-- ---- the answer

pub answered : (ts : List Token) (c : Calc) (t : NumType) → BeginsFunction ts → ReadsValue exact_number ts [] c → type_of c ≡ Some t → narrow ts ≡ true → all_fine (evaluated c).marks ≡ true → answer ts ≡ Ok c
unfolding answer
answered ts c t starts value type small fine =
    let whole : ReadsValue exact_number (ts ++ replicate 0 (tokens.Close Round)) [] c = rw (append-nil ts) value in
    let is : read exact_number ts ≡ Some c = grammar_is_read.reads exact_number ts c (starts, (0, whole)) in
    let wide : wide_place 0 ts ≡ None = narrow_place 0 ts small in
    let far : divisor_place (is_marked Far) (evaluated c).marks (divisor_places 0 ts) ≡ None = none_marked Far (inl refl) (evaluated c).marks (divisor_places 0 ts) fine in
    let null : divisor_place (is_marked Null) (evaluated c).marks (divisor_places 0 ts) ≡ None = none_marked Null (inr refl) (evaluated c).marks (divisor_places 0 ts) fine in
    ap (after_tree ts) is ∙ ap (typed ts c) type ∙ ap (after_type ts c t) wide ∙ ap (after_literals (divisor_places 0 ts) (evaluated c).marks c t) far ∙ ap (after_range c) null
