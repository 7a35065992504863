-- Each divisor with which a list is read stands at its place.
use Rattle.std.specs.Prelude.{false, ℕ, zero, suc, ◌+◌, ◌-◌, ◌≤◌, List, [], ◌∷◌, ◌++◌, length, map, fold, Option, Some, None, if◌then◌else◌}
use Rattle.std.proofs.Common.{◌≡◌, refl, sym, ◌∙◌, ap, ap₂, arith}
use Rattle.std.proofs.lemmas.List.{append_assoc, append-nil, map-append}
use Rattle.cv_spec_ratio.specs.Ratio.{Ratio}
use Rattle.cv_spec_text.specs.Characters.{solidus}
use Rattle.cv_spec_text.specs.declared.token.Token.{Token}
use Rattle.cv_spec_text.specs.declared.token.Token.TheVariants.{Delim}
use Rattle.cv_calc.specs.declared.unit.Unit as units
use Rattle.cv_calc.specs.declared.calc.Calc.{Calc}
use Rattle.cv_calc.specs.declared.calc.Calc.TheVariants as tree
use Rattle.cv_calc.specs.Numbers.{figure}
use Rattle.cv_calcread.specs.Answer.{is_solidus, is_white, white_length, divisor_places}
use Rattle.cv_calcread.specs.Divisors.{Divisor, value_divisors, factor_divisors, term_divisors, argument_divisors, closed, DivisorsHavePlaces}
use Rattle.cv_calcread.specs.Figures.{Evaluated, evaluated, mark_of, with_marks}
use Rattle.cv_calcread.specs.Grammar.{Skips, none, white, ReadsValue, literal, percent, measure, brackets, function, ReadsFactors, factor, times, over, ReadsTerms, term, added, taken, ReadsArguments, argument, further}
use Rattle.cv_calcread.specs.Reading.{one_or, made}
use Rattle.cv_calcread.specs.declared.figure.Mark.{Mark}
use Rattle.cv_calcread.specs.declared.level.Opened.{Opened}
use Rattle.cv_calcread.specs.declared.level.Opened.TheVariants as opening
use Rattle.cv_calcread.proofs.Evaluations.{evaluated-Num, evaluated-Negate, evaluated-Clamp}
use Rattle.cv_calcread.proofs.Judged.{divisors_are_judged}
use Rattle.cv_calcread.proofs.Marks.{marks-Sum, marks-Product, marks-Min, marks-Max}

-- ---- places within a list of some length, of a list that ends it

abbrev from : ℕ → List Token → List ℕ
from l ts = divisor_places (l - length ts) ts

later : (l k : ℕ) → suc k ≤ l → l - suc k + 1 ≡ l - k
later l k h = omega (arith, h)

other_head : (l : ℕ) (t : Token) (ts : List Token) → is_solidus t ≡ false → suc (length ts) ≤ l → from l (t ∷ ts) ≡ from l ts
unfolding divisor_places
other_head l t ts e h =
    ap (λ b. if b then (l - suc (length ts) + 1 + white_length ts) ∷ divisor_places (l - suc (length ts) + 1) ts else divisor_places (l - suc (length ts) + 1) ts) e
    ∙ ap (λ n. divisor_places n ts) (later l (length ts) h)

solidus_head : (l : ℕ) (ts : List Token) → suc (length ts) ≤ l → from l (Delim solidus ∷ ts) ≡ (l - length ts + white_length ts) ∷ from l ts
unfolding divisor_places
solidus_head l ts h = ap₂ (λ n m. (n + white_length ts) ∷ divisor_places m ts) (later l (length ts) h) (later l (length ts) h)

skips_shorter : {ts us : List Token} → Skips ts us → length us ≤ length ts
skips_shorter none = omega arith
skips_shorter (white k) = omega (arith, skips_shorter k)

skips_same : (l : ℕ) {ts us : List Token} → Skips ts us → length ts ≤ l → from l ts ≡ from l us
skips_same l none h = refl
skips_same l (white {ts = ts} k) h = other_head l _ ts refl h ∙ skips_same l k (omega (arith, h))

white_skips : {vs ws : List Token} → Skips vs ws → white_length ws ≡ 0 → white_length vs + length ws ≡ length vs
unfolding white_length
white_skips none h = omega (arith, h)
white_skips (white k) h = omega (arith, white_skips k h)

-- the place of a divisor behind its whitespace
here : (l v w n : ℕ) → n + w ≡ v → suc v ≤ l → l - v + n ≡ l - w
here l v w n e h = omega (arith, e, h)

sign_places : (l : ℕ) (a b c : Token) (vs : List Token) → is_solidus a ≡ false → is_solidus b ≡ false → is_solidus c ≡ false → suc (suc (suc (length vs))) ≤ l → from l (a ∷ b ∷ c ∷ vs) ≡ from l vs
sign_places l a b c vs e f g h = other_head l a (b ∷ c ∷ vs) e h ∙ other_head l b (c ∷ vs) f (omega (arith, h)) ∙ other_head l c vs g (omega (arith, h))

module _ (number : List ℕ → Ratio) where
  -- a value doesn't begin with whitespace
  value_begins : {ts rest : List Token} {c : Calc} → ReadsValue number ts rest c → white_length ts ≡ 0
  unfolding white_length
  value_begins (literal n) = refl
  value_begins (percent n) = refl
  value_begins (measure n name u e) = refl
  value_begins (brackets r e) = refl
  value_begins (function name opened o r e) = refl

  mutual
    value_shorter : {ts rest : List Token} {c : Calc} → ReadsValue number ts rest c → length rest ≤ length ts
    value_shorter (literal n) = omega arith
    value_shorter (percent n) = omega arith
    value_shorter (measure n name u e) = omega arith
    value_shorter (brackets r e) = omega (arith, argument_shorter r)
    value_shorter (function name opened o r e) = omega (arith, argument_shorter r)

    factor_shorter : {ts rest : List Token} {cs : List Calc} → ReadsFactors number ts rest cs → length rest ≤ length ts
    factor_shorter (factor k v) = omega (arith, skips_shorter k, value_shorter v)
    factor_shorter (times r k j v) = omega (arith, factor_shorter r, skips_shorter k, skips_shorter j, value_shorter v)
    factor_shorter (over r k j v) = omega (arith, factor_shorter r, skips_shorter k, skips_shorter j, value_shorter v)

    term_shorter : {ts rest : List Token} {cs : List Calc} → ReadsTerms number ts rest cs → length rest ≤ length ts
    term_shorter (term r) = factor_shorter r
    term_shorter (added r k f) = omega (arith, term_shorter r, skips_shorter k, factor_shorter f)
    term_shorter (taken r k f) = omega (arith, term_shorter r, skips_shorter k, factor_shorter f)

    argument_shorter : {opened : Opened} {ts rest : List Token} {cs : List Calc} → ReadsArguments number opened ts rest cs → length rest ≤ length ts
    argument_shorter (argument r k) = omega (arith, term_shorter r, skips_shorter k)
    argument_shorter (further b r f k) = omega (arith, argument_shorter r, term_shorter f, skips_shorter k)

  module _ (l : ℕ) where
    place : Divisor number → ℕ
    place d = l - length d.tokens

    abbrev places : List (Divisor number) → List ℕ
    places ds = map place ds

    -- what is read first, and what follows it
    joined : (ds es : List (Divisor number)) (xs ys zs : List ℕ) → xs ≡ places ds ++ ys → ys ≡ places es ++ zs → xs ≡ places (ds ++ es) ++ zs
    joined ds es xs ys zs h k = h ∙ ap (λ ns. places ds ++ ns) k ∙ sym (append_assoc (places ds) (places es) zs) ∙ ap (λ ns. ns ++ zs) (sym (map-append place ds es))

    mutual
      unfolding value_divisors place

      value_places : {ts rest : List Token} {c : Calc} (r : ReadsValue number ts rest c) → length ts ≤ l → from l ts ≡ places (value_divisors number r) ++ from l rest
      value_places (literal n {rest = rest}) h = other_head l _ rest refl h
      value_places (percent n {rest = rest}) h = other_head l _ rest refl h
      value_places (measure n name u {rest = rest} e) h = other_head l _ rest refl h
      value_places (brackets {ts = ts} {rest = rest} r e) h =
          other_head l _ ts refl h ∙ argument_places r (omega (arith, h)) ∙ ap (λ ns. places (argument_divisors number r) ++ ns) (other_head l _ rest refl (omega (arith, h, argument_shorter r)))
      value_places (function name opened {ts = ts} {rest = rest} o r e) h =
          other_head l _ ts refl h ∙ argument_places r (omega (arith, h)) ∙ ap (λ ns. places (argument_divisors number r) ++ ns) (other_head l _ rest refl (omega (arith, h, argument_shorter r)))

      factor_places : {ts rest : List Token} {cs : List Calc} (r : ReadsFactors number ts rest cs) → length ts ≤ l → from l ts ≡ places (factor_divisors number r) ++ from l rest
      factor_places (factor k v) h = skips_same l k h ∙ value_places v (omega (arith, h, skips_shorter k))
      factor_places (times {us = us} {vs = vs} {rest = rest} r k j v) h =
          joined (factor_divisors number r) (value_divisors number v) _ _ _ (factor_places r h)
          (skips_same l k (omega (arith, h, factor_shorter r)) ∙ other_head l _ vs refl (omega (arith, h, factor_shorter r, skips_shorter k))
          ∙ skips_same l j (omega (arith, h, factor_shorter r, skips_shorter k)) ∙ value_places v (omega (arith, h, factor_shorter r, skips_shorter k, skips_shorter j)))
      factor_places (over {us = us} {vs = vs} {ws = ws} {rest = rest} {c = c} r k j v) h =
          joined (factor_divisors number r) (record { tokens = ws; rest = rest; value = c; reads = v } ∷ value_divisors number v) _ _ _ (factor_places r h)
          (skips_same l k (omega (arith, h, factor_shorter r)) ∙ solidus_head l vs (omega (arith, h, factor_shorter r, skips_shorter k))
          ∙ ap₂ (λ n ns. n ∷ ns) (here l (length vs) (length ws) (white_length vs) (white_skips j (value_begins v)) (omega (arith, h, factor_shorter r, skips_shorter k)))
          (skips_same l j (omega (arith, h, factor_shorter r, skips_shorter k)) ∙ value_places v (omega (arith, h, factor_shorter r, skips_shorter k, skips_shorter j))))

      term_places : {ts rest : List Token} {cs : List Calc} (r : ReadsTerms number ts rest cs) → length ts ≤ l → from l ts ≡ places (term_divisors number r) ++ from l rest
      term_places (term r) h = factor_places r h
      term_places (added {vs = vs} r k f) h =
          joined (term_divisors number r) (factor_divisors number f) _ _ _ (term_places r h)
          (skips_same l k (omega (arith, h, term_shorter r)) ∙ sign_places l _ _ _ vs refl refl refl (omega (arith, h, term_shorter r, skips_shorter k))
          ∙ factor_places f (omega (arith, h, term_shorter r, skips_shorter k)))
      term_places (taken {vs = vs} r k f) h =
          joined (term_divisors number r) (factor_divisors number f) _ _ _ (term_places r h)
          (skips_same l k (omega (arith, h, term_shorter r)) ∙ sign_places l _ _ _ vs refl refl refl (omega (arith, h, term_shorter r, skips_shorter k))
          ∙ factor_places f (omega (arith, h, term_shorter r, skips_shorter k)))

      argument_places : {opened : Opened} {ts rest : List Token} {cs : List Calc} (r : ReadsArguments number opened ts rest cs) → length ts ≤ l → from l ts ≡ places (argument_divisors number r) ++ from l rest
      argument_places (argument r k) h = term_places r h ∙ ap (λ ns. places (term_divisors number r) ++ ns) (skips_same l k (omega (arith, h, term_shorter r)))
      argument_places (further {us = us} b r f k) h =
          joined (argument_divisors number r) (term_divisors number f) _ _ _ (argument_places r h)
          (other_head l _ us refl (omega (arith, h, argument_shorter r)) ∙ term_places f (omega (arith, h, argument_shorter r))
          ∙ ap (λ ns. places (term_divisors number f) ++ ns) (skips_same l k (omega (arith, h, argument_shorter r, term_shorter f))))

-- ---- the marks of the divisors

all_marks : List Calc → List Mark
all_marks [] = []
all_marks (c ∷ cs) = (evaluated c).marks ++ all_marks cs

folded : (ms : List Mark) (cs : List Calc) → fold with_marks ms (map evaluated cs) ≡ ms ++ all_marks cs
unfolding all_marks
folded ms [] = sym (append-nil ms)
folded ms (c ∷ cs) = folded (ms ++ (evaluated c).marks) cs ∙ append_assoc ms (evaluated c).marks (all_marks cs)

sum_marks : (cs : List Calc) → (evaluated (tree.Sum cs)).marks ≡ all_marks cs
sum_marks cs = sym (marks-Sum cs []) ∙ folded [] cs

product_marks : (cs : List Calc) → (evaluated (tree.Product cs)).marks ≡ all_marks cs
product_marks cs = sym (marks-Product cs []) ∙ folded [] cs

last_marks : (cs : List Calc) (c : Calc) → all_marks (cs ++ c ∷ []) ≡ all_marks cs ++ (evaluated c).marks
unfolding all_marks
last_marks [] c = append-nil (evaluated c).marks
last_marks (d ∷ ds) c = ap (λ ms. (evaluated d).marks ++ ms) (last_marks ds c) ∙ sym (append_assoc (evaluated d).marks (all_marks ds) (evaluated c).marks)

one_marks : (c : Calc) → all_marks (c ∷ []) ≡ (evaluated c).marks
unfolding all_marks
one_marks c = append-nil (evaluated c).marks

one_or_marks : (node : List Calc → Calc) → ((cs : List Calc) → (evaluated (node cs)).marks ≡ all_marks cs) → (cs : List Calc) → (evaluated (one_or node cs)).marks ≡ all_marks cs
one_or_marks node is [] = is []
one_or_marks node is (c ∷ []) = sym (one_marks c)
one_or_marks node is (c ∷ d ∷ cs) = is (c ∷ d ∷ cs)

clamp_marks : (a b c : Calc) → (evaluated (tree.Clamp a b c)).marks ≡ all_marks (a ∷ b ∷ c ∷ [])
unfolding all_marks
clamp_marks a b c = ap (λ (e : Evaluated). e.marks) (evaluated-Clamp a b c) ∙ ap (λ ms. (evaluated a).marks ++ ((evaluated b).marks ++ ms)) (sym (append-nil (evaluated c).marks))

no_option : {A : Type 0} (a : A) → ◌≡◌ {A = Option A} None (Some a) → ⊥
no_option a e = cc

same_option : {A : Type 0} (a b : A) → ◌≡◌ {A = Option A} (Some a) (Some b) → a ≡ b
same_option a b e = cc

of_made : (node : Calc) (c : Calc) (ms : List Mark) → Some node ≡ Some c → (evaluated node).marks ≡ ms → (evaluated c).marks ≡ ms
of_made node c ms e h = ap (λ d. (evaluated d).marks) (sym (same_option node c e)) ∙ h

made_marks : (opened : Opened) (cs : List Calc) (c : Calc) → made opened cs ≡ Some c → (evaluated c).marks ≡ all_marks cs
made_marks opening.Min cs c e = of_made (tree.Min cs) c (all_marks cs) e (sym (marks-Min cs []) ∙ folded [] cs)
made_marks opening.Max cs c e = of_made (tree.Max cs) c (all_marks cs) e (sym (marks-Max cs []) ∙ folded [] cs)
made_marks opening.Clamp (l ∷ m ∷ h ∷ []) c e = of_made (tree.Clamp l m h) c _ e (clamp_marks l m h)
made_marks opening.Clamp [] c e = absurd (no_option c e)
made_marks opening.Clamp (l ∷ []) c e = absurd (no_option c e)
made_marks opening.Clamp (l ∷ m ∷ []) c e = absurd (no_option c e)
made_marks opening.Clamp (l ∷ m ∷ h ∷ s ∷ cs) c e = absurd (no_option c e)
made_marks opening.Round [] c e = absurd (no_option c e)
made_marks opening.Round (d ∷ []) c e = of_made d c _ e (sym (one_marks d))
made_marks opening.Round (d ∷ b ∷ cs) c e = absurd (no_option c e)
made_marks opening.Calc [] c e = absurd (no_option c e)
made_marks opening.Calc (d ∷ []) c e = of_made d c _ e (sym (one_marks d))
made_marks opening.Calc (d ∷ b ∷ cs) c e = absurd (no_option c e)

number_marks : (c : Calc) (v : Ratio) (u : units.Unit) → c ≡ tree.Num v u → (evaluated c).marks ≡ []
number_marks c v u e = ap (λ d. (evaluated d).marks) e ∙ ap (λ (e : Evaluated). e.marks) (evaluated-Num v u)

divisor_marks : (c : Calc) → (evaluated (tree.Invert c)).marks ≡ mark_of (figure c) ∷ (evaluated c).marks
divisor_marks = divisors_are_judged.divisor_is

negative_marks : (c : Calc) → (evaluated (tree.Negate c)).marks ≡ (evaluated c).marks
negative_marks c = ap (λ (e : Evaluated). e.marks) (evaluated-Negate c)

module _ (number : List ℕ → Ratio) where
  mark : Divisor number → Mark
  mark d = mark_of (figure d.value)

  abbrev marks : List (Divisor number) → List Mark
  marks ds = map mark ds

  -- what is read first, and one more
  further_marks : (cs : List Calc) (c : Calc) (ds es : List (Divisor number)) → all_marks cs ≡ marks ds → (evaluated c).marks ≡ marks es → all_marks (cs ++ c ∷ []) ≡ marks (ds ++ es)
  further_marks cs c ds es h k = last_marks cs c ∙ ap₂ (λ ms ns. ms ++ ns) h k ∙ sym (map-append mark ds es)

  mutual
    unfolding value_divisors mark

    value_marks : {ts rest : List Token} {c : Calc} (r : ReadsValue number ts rest c) → (evaluated c).marks ≡ marks (value_divisors number r)
    value_marks (literal n) = number_marks _ _ _ refl
    value_marks (percent n) = number_marks _ _ _ refl
    value_marks (measure n name u e) = number_marks _ _ _ refl
    value_marks (brackets {cs = cs} {c = c} r e) = made_marks opening.Round cs c e ∙ argument_marks r
    value_marks (function name opened {cs = cs} {c = c} o r e) = made_marks opened cs c e ∙ argument_marks r

    factor_marks : {ts rest : List Token} {cs : List Calc} (r : ReadsFactors number ts rest cs) → all_marks cs ≡ marks (factor_divisors number r)
    factor_marks (factor {c = c} k v) = one_marks c ∙ value_marks v
    factor_marks (times {cs = cs} {c = c} r k j v) = further_marks cs c (factor_divisors number r) (value_divisors number v) (factor_marks r) (value_marks v)
    factor_marks (over {ws = ws} {rest = rest} {cs = cs} {c = c} r k j v) =
        further_marks cs (tree.Invert c) (factor_divisors number r) (record { tokens = ws; rest = rest; value = c; reads = v } ∷ value_divisors number v) (factor_marks r)
        (divisor_marks c ∙ ap (λ ms. mark_of (figure c) ∷ ms) (value_marks v))

    term_marks : {ts rest : List Token} {cs : List Calc} (r : ReadsTerms number ts rest cs) → all_marks cs ≡ marks (term_divisors number r)
    term_marks (term {cs = cs} r) = one_marks (one_or tree.Product cs) ∙ one_or_marks tree.Product product_marks cs ∙ factor_marks r
    term_marks (added {ds = ds} {cs = cs} r k f) =
        further_marks ds (one_or tree.Product cs) (term_divisors number r) (factor_divisors number f) (term_marks r) (one_or_marks tree.Product product_marks cs ∙ factor_marks f)
    term_marks (taken {ds = ds} {cs = cs} r k f) =
        further_marks ds (tree.Negate (one_or tree.Product cs)) (term_divisors number r) (factor_divisors number f) (term_marks r)
        (negative_marks (one_or tree.Product cs) ∙ one_or_marks tree.Product product_marks cs ∙ factor_marks f)

    argument_marks : {opened : Opened} {ts rest : List Token} {cs : List Calc} (r : ReadsArguments number opened ts rest cs) → all_marks cs ≡ marks (argument_divisors number r)
    argument_marks (argument {cs = cs} r k) = one_marks (one_or tree.Sum cs) ∙ one_or_marks tree.Sum sum_marks cs ∙ term_marks r
    argument_marks (further {ds = ds} {cs = cs} b r f k) =
        further_marks ds (one_or tree.Sum cs) (argument_divisors number r) (term_divisors number f) (argument_marks r) (one_or_marks tree.Sum sum_marks cs ∙ term_marks f)

-- ---- the law

-- brackets that are closed at the end change no place
closed_white : (ts : List Token) (missing : ℕ) → white_length (closed ts missing) ≡ white_length ts
unfolding white_length
closed_white [] zero = refl
closed_white [] (suc missing) = refl
closed_white (t ∷ ts) missing = ap (λ n. if is_white t then n + 1 else 0) (closed_white ts missing)

closed_places : (n : ℕ) (ts : List Token) (missing : ℕ) → divisor_places n (closed ts missing) ≡ divisor_places n ts
unfolding divisor_places
closed_places n [] zero = refl
closed_places n [] (suc missing) = closed_places (n + 1) [] missing
closed_places n (t ∷ ts) missing = ap₂ (λ k ns. if is_solidus t then (n + 1 + k) ∷ ns else ns) (closed_white ts missing) (closed_places (n + 1) ts missing)

whole_places : (number : List ℕ → Ratio) (whole : List Token) (c : Calc) (r : ReadsValue number whole [] c) →
    divisor_places 0 whole ≡ map (λ (d : Divisor number). length whole - length d.tokens) (value_divisors number r)
unfolding place divisor_places
whole_places number whole c r =
    ap (λ n. divisor_places n whole) (sym (none (length whole))) ∙ value_places number (length whole) r (omega arith)
    ∙ append-nil (map (place number (length whole)) (value_divisors number r))
  where
    none : (n : ℕ) → n - n ≡ 0
    none n = omega arith

pub divisors_have_places : DivisorsHavePlaces
unfolding mark
divisors_have_places = record {
  places = λ number ts missing c r. sym (closed_places 0 ts missing) ∙ whole_places number (closed ts missing) c r;
  marks = λ number ts rest c r. value_marks number r;
}
