-- Where all numbers are in range, what is kept of them is what they mean; and the answer is that of the tree with what they mean.
use Rattle.std.specs.Prelude.{Bool, true, false, not, ◌&&◌, zero, suc, List, [], ◌∷◌, ◌+◌, length, fold, Result, Ok, Err, IfOk, IfErr, Option, Some, None, encode_utf8_all, if◌then◌else◌}
use Rattle.std.proofs.Common.{◌≡◌, refl, sym, ◌∙◌, ap, subst, ℕ}
use Rattle.cv_frac.specs.declared.error.FracErr.TheVariants.{NotDecimal, Range as OutOfRange}
use Rattle.cv_frac.specs.Bounded.{in_bounds}
use Rattle.cv_frac.specs.Literal.{is_number, is_short, exact, literal_of}
use Rattle.cv_spec_text.specs.declared.token.Bracket.TheVariants.{Round as RoundBracket}
use Rattle.cv_spec_text.specs.declared.token.Token.{Token}
use Rattle.cv_spec_text.specs.declared.token.Token.TheVariants as token
use Rattle.cv_calc.specs.Names.{unit_with_name}
use Rattle.cv_calc.specs.declared.unit.NumType.{NumType}
use Rattle.cv_calc.specs.declared.unit.Unit.TheVariants as unit
use Rattle.cv_calc.specs.declared.calc.Calc.{Calc}
use Rattle.cv_calc.specs.declared.calc.Calc.TheVariants as tree
use Rattle.cv_calc.specs.Types.{type_of}
use Rattle.cv_calc.specs.Linear.{shape, is_linear, has_type}
use Rattle.cv_calc.proofs.FoundTypes.{kind_is_type}
use Rattle.cv_calcread.specs.Literals.{kept, exact_number, is_in_range, is_read, or_zero}
use Rattle.cv_calcread.specs.Reading.{with_unit, with_value, step, started, ended, close_times, outcome, read}
use Rattle.cv_calcread.specs.Answer.{is_wide, wide_place, divisor_places, is_marked, divisor_place, after_tree, typed, after_type, after_literals, after_range, answer, IsRefusal}
use Rattle.cv_calcread.specs.Figures.{evaluated}
use Rattle.cv_calcread.specs.Grammar.{ReadsAs}
use Rattle.cv_calcread.specs.declared.figure.Mark.{Mark}
use Rattle.cv_calcread.specs.declared.figure.Mark.TheVariants.{Far, Null}
use Rattle.cv_calcread.proofs.Whole.{grammar_is_read}
use Rattle.cv_calcread.specs.declared.error.CalcErr.{CalcErr}
use Rattle.cv_calcread.specs.declared.error.CalcErr.TheVariants.{NoCalc, NoType, Range, DivZero, Memory}
use Rattle.cv_calcread.specs.declared.level.Phase.TheVariants as phase
use Rattle.cv_calcread.specs.declared.level.Stage.{Stage}
use Rattle.cv_calcread.specs.declared.level.Stage.TheVariants.{Within, Done, Fault}
use Rattle.cv_calcread.proofs.Alike.{read_alike}

kept_is_exact : (n : List ℕ) → not (is_in_range n) ≡ false → kept n ≡ exact_number n
unfolding kept exact_number is_in_range
kept_is_exact n h = go (is_number b) (is_short b) (in_bounds (exact b)) refl refl refl h
  where
    b : List ℕ
    b = encode_utf8_all n

    refused : ◌≡◌ {A = Bool} true false → ⊥
    refused h = cc

    go : (i j k : Bool) → is_number (encode_utf8_all n) ≡ i → is_short (encode_utf8_all n) ≡ j → in_bounds (exact (encode_utf8_all n)) ≡ k → not (is_read (literal_of (encode_utf8_all n))) ≡ false → or_zero (literal_of (encode_utf8_all n)) ≡ exact (encode_utf8_all n)
    go true true true e f g h = rw (e, f, g) refl
    go true true false e f g h =
        let z : literal_of (encode_utf8_all n) ≡ Err OutOfRange = rw (e, f, g) refl in
        absurd (refused (sym (ap (λ r. not (is_read r)) z) ∙ h))
    go true false k e f g h =
        let z : literal_of (encode_utf8_all n) ≡ Err OutOfRange = rw (e, f) refl in
        absurd (refused (sym (ap (λ r. not (is_read r)) z) ∙ h))
    go false j k e f g h =
        let z : literal_of (encode_utf8_all n) ≡ Err NotDecimal = rw e refl in
        absurd (refused (sym (ap (λ r. not (is_read r)) z) ∙ h))

step_agrees : (s : Stage) (t : Token) → is_wide t ≡ false → step kept s t ≡ step exact_number s t
step_agrees (Within below l phase.Gap) t h = refl
step_agrees (Within below l phase.After) t h = refl
step_agrees (Within below l phase.Spaced) t h = refl
step_agrees (Done c) t h = refl
step_agrees Fault t h = refl
step_agrees (Within below l phase.Value) (token.Ident x) h = refl
step_agrees (Within below l phase.Value) (token.Function x) h = refl
step_agrees (Within below l phase.Value) (token.At x) h = refl
step_agrees (Within below l phase.Value) (token.Hash x b) h = refl
step_agrees (Within below l phase.Value) (token.Str x) h = refl
step_agrees (Within below l phase.Value) token.BadStr h = refl
step_agrees (Within below l phase.Value) (token.Url x) h = refl
step_agrees (Within below l phase.Value) token.BadUrl h = refl
step_agrees (Within below l phase.Value) (token.Delim x) h = refl
step_agrees (Within below l phase.Value) (token.Number n) h = ap (λ v. with_value (tree.Num v unit.Number) below l) (kept_is_exact n h)
step_agrees (Within below l phase.Value) (token.Percentage n) h = ap (λ v. with_value (tree.Num v unit.Percent) below l) (kept_is_exact n h)
step_agrees (Within below l phase.Value) (token.Dimension n name) h = ap (λ v. with_unit v (unit_with_name name) below l) (kept_is_exact n h)
step_agrees (Within below l phase.Value) token.White h = refl
step_agrees (Within below l phase.Value) token.Cdo h = refl
step_agrees (Within below l phase.Value) token.Cdc h = refl
step_agrees (Within below l phase.Value) token.Colon h = refl
step_agrees (Within below l phase.Value) token.Semicolon h = refl
step_agrees (Within below l phase.Value) token.Comma h = refl
step_agrees (Within below l phase.Value) (token.Open x) h = refl
step_agrees (Within below l phase.Value) (token.Close x) h = refl

run_agrees : (n : ℕ) (ts : List Token) (s : Stage) → wide_place n ts ≡ None → fold (step kept) s ts ≡ fold (step exact_number) s ts
unfolding wide_place
run_agrees n [] s h = refl
run_agrees n (t ∷ ts) s h = go (is_wide t) refl h (run_agrees (n + 1) ts (step kept s t))
  where
    go : (b : Bool) → is_wide t ≡ b → (if b then Some n else wide_place (n + 1) ts) ≡ None → (wide_place (n + 1) ts ≡ None → fold (step kept) (step kept s t) ts ≡ fold (step exact_number) (step kept s t) ts) → fold (step kept) (step kept s t) ts ≡ fold (step exact_number) (step exact_number s t) ts
    go true e h k = cc
    go false e h k = k h ∙ ap (λ r. fold (step exact_number) r ts) (step_agrees s t e)

bracket_agrees : (s : Stage) → step kept s (token.Close RoundBracket) ≡ step exact_number s (token.Close RoundBracket)
bracket_agrees s = step_agrees s (token.Close RoundBracket) refl

close_agrees : (n : ℕ) (s : Stage) → close_times kept n s ≡ close_times exact_number n s
close_agrees zero s = refl
close_agrees (suc n) s = ap (λ r. step kept r (token.Close RoundBracket)) (close_agrees n s) ∙ bracket_agrees (close_times exact_number n s)

ended_agrees : (s : Stage) → ended kept s ≡ ended exact_number s
ended_agrees (Within below l p) = ap (close_times kept (length below)) (bracket_agrees (Within below l p)) ∙ close_agrees (length below) (step exact_number (Within below l p) (token.Close RoundBracket))
ended_agrees (Done c) = refl
ended_agrees Fault = refl

rest_is_narrow : (n : ℕ) (t : Token) (ts : List Token) → wide_place n (t ∷ ts) ≡ None → wide_place (n + 1) ts ≡ None
unfolding wide_place
rest_is_narrow n t ts h = go (is_wide t) h
  where
    go : (b : Bool) → (if b then Some n else wide_place (n + 1) ts) ≡ None → wide_place (n + 1) ts ≡ None
    go true h = cc
    go false h = h

started_agrees : (t : Token) → started kept t ≡ started exact_number t
started_agrees (token.Ident x) = refl
started_agrees (token.Function x) = refl
started_agrees (token.At x) = refl
started_agrees (token.Hash x b) = refl
started_agrees (token.Str x) = refl
started_agrees token.BadStr = refl
started_agrees (token.Url x) = refl
started_agrees token.BadUrl = refl
started_agrees (token.Delim x) = refl
started_agrees (token.Number x) = refl
started_agrees (token.Percentage x) = refl
started_agrees (token.Dimension x y) = refl
started_agrees token.White = refl
started_agrees token.Cdo = refl
started_agrees token.Cdc = refl
started_agrees token.Colon = refl
started_agrees token.Semicolon = refl
started_agrees token.Comma = refl
started_agrees (token.Open x) = refl
started_agrees (token.Close x) = refl

read_agrees : (ts : List Token) → wide_place 0 ts ≡ None → read kept ts ≡ read exact_number ts
read_agrees [] h = refl
read_agrees (t ∷ ts) h =
    ap (λ s. outcome (ended kept s)) (run_agrees 1 ts (started kept t) (rest_is_narrow 0 t ts h) ∙ ap (λ s. fold (step exact_number) s ts) (started_agrees t))
    ∙ ap outcome (ended_agrees (fold (step exact_number) (started exact_number t) ts))

type_alike : (c d : Calc) → shape c ≡ shape d → type_of c ≡ type_of d
type_alike c d e = sym (kind_is_type c) ∙ ap (λ s. s.kind) e ∙ kind_is_type d

linear_alike : (c d : Calc) → shape c ≡ shape d → is_linear c ≡ is_linear d
unfolding is_linear
linear_alike c d e = ap (λ s. has_type s.kind && s.fits) e

-- an answer other than that the shape is wrong
abbrev IsOther : Result Calc CalcErr → Type 0
IsOther (Ok c) = Unit {0}
IsOther (Err NoCalc) = ⊥
IsOther (Err NoType) = Unit {0}
IsOther (Err (Range n t b)) = Unit {0}
IsOther (Err (DivZero n)) = Unit {0}
IsOther (Err Memory) = Unit {0}

typed_alike : (ts : List Token) (c d : Calc) → shape c ≡ shape d → (wide_place 0 ts ≡ None → c ≡ d) → typed ts c (type_of c) ≡ typed ts d (type_of d)
typed_alike ts c d e same = ap (typed ts c) (type_alike c d e) ∙ go (type_of d) (wide_place 0 ts) refl
  where
    go : (k : Option NumType) (w : Option ℕ) → wide_place 0 ts ≡ w → typed ts c k ≡ typed ts d k
    go None w h = refl
    go (Some t) (Some n) h = rw h (ap (λ b. Err (Range n t b)) (linear_alike c d e))
    go (Some t) None h = ap (λ x. typed ts x (Some t)) (same h)

pub same_answer : (ts : List Token) → after_tree ts (read kept ts) ≡ after_tree ts (read exact_number ts)
same_answer ts = go (read kept ts) (read exact_number ts) refl refl
  where
    some_none : {A : Type 0} (c : Calc) (o : Option Calc) → o ≡ None → o ≡ Some c → A
    some_none c o e f = absurd (apart (sym e ∙ f))
      where
        apart : ◌≡◌ {A = Option Calc} None (Some c) → ⊥
        apart e = cc

    same_some : (c d e : Calc) (o : Option Calc) → o ≡ Some d → o ≡ Some e → d ≡ e
    same_some c d e o h k = cc

    go : (o p : Option Calc) → read kept ts ≡ o → read exact_number ts ≡ p → after_tree ts o ≡ after_tree ts p
    go None None e f = refl
    go None (Some d) e f = some_none (read_alike exact_number kept ts d f).tree (read kept ts) e (read_alike exact_number kept ts d f).reads
    go (Some c) None e f = some_none (read_alike kept exact_number ts c e).tree (read exact_number ts) f (read_alike kept exact_number ts c e).reads
    go (Some c) (Some d) e f =
        let r = read_alike kept exact_number ts c e in
        let is : r.tree ≡ d = same_some c r.tree d (read exact_number ts) r.reads f in
        typed_alike ts c d (r.same ∙ ap shape is) (λ h. same_some c c d (read exact_number ts) (sym (read_agrees ts h) ∙ e) f)

-- ---- a tree that is answered is the one that is read

tree_of_answer : (ts : List Token) (o : Option Calc) (c : Calc) → after_tree ts o ≡ Ok c → o ≡ Some c
tree_of_answer ts None c e = absurd (apart e)
  where
    apart : ◌≡◌ {A = Result Calc CalcErr} (Err NoCalc) (Ok c) → ⊥
    apart e = cc
tree_of_answer ts (Some d) c e = ap Some (by_type (type_of d) e)
  where
    apart : (x : CalcErr) → ◌≡◌ {A = Result Calc CalcErr} (Err x) (Ok c) → ⊥
    apart x e = cc

    same : ◌≡◌ {A = Result Calc CalcErr} (Ok d) (Ok c) → d ≡ c
    same e = cc

    by_null : (n : Option ℕ) → after_range d n ≡ Ok c → d ≡ c
    by_null None e = same e
    by_null (Some n) e = absurd (apart (DivZero n) e)

    by_far : (t : NumType) (places : List ℕ) (marks : List Mark) (n : Option ℕ) → after_literals places marks d t n ≡ Ok c → d ≡ c
    by_far t places marks None e = by_null (divisor_place (is_marked Null) marks places) e
    by_far t places marks (Some n) e = absurd (apart (Range n t (is_linear d)) e)

    by_wide : (t : NumType) (w : Option ℕ) → after_type ts d t w ≡ Ok c → d ≡ c
    by_wide t None e = by_far t (divisor_places 0 ts) (evaluated d).marks (divisor_place (is_marked Far) (evaluated d).marks (divisor_places 0 ts)) e
    by_wide t (Some n) e = absurd (apart (Range n t (is_linear d)) e)

    by_type : (k : Option NumType) → typed ts d k ≡ Ok c → d ≡ c
    by_type None e = absurd (apart NoType e)
    by_type (Some t) e = by_wide t (wide_place 0 ts) e

-- ---- the clauses

pub ok_answer : (ts : List Token) (r : Result Calc CalcErr) → IfOk r (λ c. after_tree ts (read kept ts) ≡ Ok c) → IfOk r (λ c. answer ts ≡ Ok c)
unfolding answer
ok_answer ts r h = subst (λ a. IfOk r (λ c. a ≡ Ok c)) (same_answer ts) h

pub err_answer : (ts : List Token) (r : Result Calc CalcErr) → IfErr r (IsRefusal (after_tree ts (read kept ts))) → IfErr r (IsRefusal (answer ts))
unfolding answer
err_answer ts r h = subst (λ a. IfErr r (IsRefusal a)) (same_answer ts) h

pub tree_answer : (ts : List Token) (r : Result Calc CalcErr) → IfOk r (λ c. after_tree ts (read kept ts) ≡ Ok c) → IfOk r (λ c. ReadsAs exact_number ts c)
tree_answer ts (Ok c) h = grammar_is_read.only exact_number ts c (tree_of_answer ts (read exact_number ts) c (sym (same_answer ts) ∙ h))
tree_answer ts (Err e) h = tt

pub no_calc_answer : (ts : List Token) (r : Result Calc CalcErr) → IfErr r (IsRefusal (after_tree ts (read kept ts))) → r ≡ Err NoCalc → (c : Calc) → ReadsAs exact_number ts c → ⊥
no_calc_answer ts r h e c q =
    let refusal : after_tree ts (read kept ts) ≡ Err NoCalc = subst (λ (s : Result Calc CalcErr). IfErr s (IsRefusal (after_tree ts (read kept ts)))) e h in
    other (type_of c) (sym (ap (after_tree ts) (grammar_is_read.reads exact_number ts c q)) ∙ sym (same_answer ts) ∙ refusal)
  where
    apart : (a : Result Calc CalcErr) → IsOther a → a ≡ Err NoCalc → ⊥
    apart (Ok d) h e = cc
    apart (Err NoCalc) h e = h
    apart (Err NoType) h e = cc
    apart (Err (Range n t b)) h e = cc
    apart (Err (DivZero n)) h e = cc
    apart (Err Memory) h e = cc

    by_null : (n : Option ℕ) → IsOther (after_range c n)
    by_null None = tt
    by_null (Some n) = tt

    by_far : (t : NumType) (n : Option ℕ) → IsOther (after_literals (divisor_places 0 ts) (evaluated c).marks c t n)
    by_far t None = by_null (divisor_place (is_marked Null) (evaluated c).marks (divisor_places 0 ts))
    by_far t (Some n) = tt

    by_wide : (t : NumType) (w : Option ℕ) → IsOther (after_type ts c t w)
    by_wide t None = by_far t (divisor_place (is_marked Far) (evaluated c).marks (divisor_places 0 ts))
    by_wide t (Some n) = tt

    other : (k : Option NumType) → typed ts c k ≡ Err NoCalc → ⊥
    other None e = apart (Err NoType) tt e
    other (Some t) e = apart (typed ts c (Some t)) (by_wide t (wide_place 0 ts)) e
