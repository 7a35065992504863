-- Where a negative stands in a tree that is read: only among the terms of a sum, other than first, and as no negative of a negative.
use Rattle.std.specs.Prelude.{ℕ, Bool, true, false, ◌&&◌, List, [], ◌∷◌, ◌++◌, map, Option, Some}
use Rattle.std.proofs.Common.{◌≡◌, refl, sym, ◌∙◌, ap}
use Rattle.cv_spec_ratio.specs.Ratio.{Ratio}
use Rattle.cv_spec_text.specs.declared.token.Token.{Token}
use Rattle.cv_calc.specs.declared.calc.Calc.{Calc}
use Rattle.cv_calc.specs.declared.calc.Calc.TheVariants as tree
use Rattle.cv_calc.specs.declared.calc.Calc.TheOpen.{Calc-F, Num, Sum, Product, Negate, Invert, Min, Max, Clamp}
use Rattle.cv_calc.specs.declared.calc.Calc.TheFolds.{fold-Calc}
use Rattle.cv_calc.specs.declared.unit.Unit as units
use Rattle.cv_calc.specs.Tree.{by_cases, fold-Num, fold-Sum, fold-Product, fold-Negate, fold-Invert, fold-Min, fold-Max, fold-Clamp}
use Rattle.cv_calcread.specs.declared.level.Opened.{Opened}
use Rattle.cv_calcread.specs.declared.level.Opened.TheVariants as opening
use Rattle.cv_calcread.specs.Grammar.{ReadsValue, literal, percent, measure, brackets, function, ReadsFactors, factor, times, over, ReadsTerms, term, added, taken, ReadsArguments, argument, further}
use Rattle.cv_calcread.specs.Reading.{one_or, made}
use Rattle.cv_calc_roundtrip.proofs.Digits.{and_true, both_true}

-- whether a calculation may stand anywhere, and whether it may stand among terms other than first, and among factors other than first
pub record Stand : Type 0 where
  pub value : Bool
  pub term : Bool
  pub factor : Bool

abbrev pub anywhere : Bool → Stand
anywhere b = record { value = b; term = b; factor = b }

abbrev pub all_values : List Stand → Bool
all_values [] = true
all_values (s ∷ ss) = s.value && all_values ss

abbrev pub all_terms : List Stand → Bool
all_terms [] = true
all_terms (s ∷ ss) = s.term && all_terms ss

abbrev pub all_factors : List Stand → Bool
all_factors [] = true
all_factors (s ∷ ss) = s.factor && all_factors ss

abbrev pub are_terms : List Stand → Bool
are_terms [] = true
are_terms (s ∷ ss) = s.value && all_terms ss

abbrev pub are_factors : List Stand → Bool
are_factors [] = true
are_factors (s ∷ ss) = s.value && all_factors ss

abbrev pub stand_step : Calc-F Stand → Stand
stand_step (Num v u) = anywhere true
stand_step (Sum ss) = anywhere (are_terms ss)
stand_step (Product ss) = anywhere (are_factors ss)
stand_step (Negate s) = record { value = false; term = s.value; factor = false }
stand_step (Invert s) = record { value = false; term = false; factor = s.value }
stand_step (Min ss) = anywhere (all_values ss)
stand_step (Max ss) = anywhere (all_values ss)
stand_step (Clamp a b c) = anywhere (a.value && (b.value && c.value))

unfoldable pub stand : Calc → Stand
stand = fold-Calc Stand stand_step

pub stand-Num : (v : Ratio) (u : units.Unit) → stand (tree.Num v u) ≡ anywhere true
unfolding stand
stand-Num v u = fold-Num stand_step v u

pub stand-Sum : (cs : List Calc) → stand (tree.Sum cs) ≡ anywhere (are_terms (map stand cs))
unfolding stand
stand-Sum cs = fold-Sum stand_step cs

pub stand-Product : (cs : List Calc) → stand (tree.Product cs) ≡ anywhere (are_factors (map stand cs))
unfolding stand
stand-Product cs = fold-Product stand_step cs

pub stand-Negate : (c : Calc) → stand (tree.Negate c) ≡ record { value = false; term = (stand c).value; factor = false }
unfolding stand
stand-Negate c = fold-Negate stand_step c

pub stand-Invert : (c : Calc) → stand (tree.Invert c) ≡ record { value = false; term = false; factor = (stand c).value }
unfolding stand
stand-Invert c = fold-Invert stand_step c

pub stand-Min : (cs : List Calc) → stand (tree.Min cs) ≡ anywhere (all_values (map stand cs))
unfolding stand
stand-Min cs = fold-Min stand_step cs

pub stand-Max : (cs : List Calc) → stand (tree.Max cs) ≡ anywhere (all_values (map stand cs))
unfolding stand
stand-Max cs = fold-Max stand_step cs

pub stand-Clamp : (a b c : Calc) → stand (tree.Clamp a b c) ≡ anywhere ((stand a).value && ((stand b).value && (stand c).value))
unfolding stand
stand-Clamp a b c = fold-Clamp stand_step a b c

-- what may stand anywhere may stand at each place
abbrev pub IsPlaced : Calc → Type 0
IsPlaced c = (stand c).value ≡ true

same_term : (c : Calc) (b : Bool) → stand c ≡ anywhere b → IsPlaced c → (stand c).term ≡ true
same_term c b e h = ap (λ (s : Stand). s.term) e ∙ sym (ap (λ (s : Stand). s.value) e) ∙ h

same_factor : (c : Calc) (b : Bool) → stand c ≡ anywhere b → IsPlaced c → (stand c).factor ≡ true
same_factor c b e h = ap (λ (s : Stand). s.factor) e ∙ sym (ap (λ (s : Stand). s.value) e) ∙ h

not_placed : {A : Type 0} (c : Calc) (t f : Bool) → stand c ≡ record { value = false; term = t; factor = f } → IsPlaced c → A
not_placed c t f e h = absurd (apart (sym (ap (λ (s : Stand). s.value) e) ∙ h))
  where
    apart : ◌≡◌ {A = Bool} false true → ⊥
    apart e = cc

abbrev IsAnywhere : Calc → Type 0
IsAnywhere c = IsPlaced c → ((stand c).term ≡ true) × ((stand c).factor ≡ true)

by_stand : (c : Calc) (b : Bool) → stand c ≡ anywhere b → IsAnywhere c
by_stand c b e h = (same_term c b e h, same_factor c b e h)

placed_anywhere : (c : Calc) → IsAnywhere c
placed_anywhere = by_cases IsAnywhere (record {
  num = λ v u. by_stand (tree.Num v u) true (stand-Num v u);
  sum = λ cs h. by_stand (tree.Sum cs) (are_terms (map stand cs)) (stand-Sum cs);
  product = λ cs h. by_stand (tree.Product cs) (are_factors (map stand cs)) (stand-Product cs);
  negate = λ c h. not_placed (tree.Negate c) (stand c).value false (stand-Negate c);
  invert = λ c h. not_placed (tree.Invert c) false (stand c).value (stand-Invert c);
  min = λ cs h. by_stand (tree.Min cs) (all_values (map stand cs)) (stand-Min cs);
  max = λ cs h. by_stand (tree.Max cs) (all_values (map stand cs)) (stand-Max cs);
  clamp = λ a b c h k l. by_stand (tree.Clamp a b c) ((stand a).value && ((stand b).value && (stand c).value)) (stand-Clamp a b c);
})

-- ---- what is read

record FactorsRead (cs : List Calc) : Type 0 where
  first : Calc
  rest : List Calc
  same : cs ≡ first ∷ rest
  placed : IsPlaced first
  others : all_factors (map stand rest) ≡ true

record TermsRead (cs : List Calc) : Type 0 where
  first : Calc
  rest : List Calc
  same : cs ≡ first ∷ rest
  placed : IsPlaced first
  others : all_terms (map stand rest) ≡ true

factors_push : (cs : List Calc) (c : Calc) → all_factors (map stand cs) ≡ true → (stand c).factor ≡ true → all_factors (map stand (cs ++ c ∷ [])) ≡ true
factors_push [] c h k = both_true (stand c).factor true k refl
factors_push (d ∷ cs) c h k = let p = and_true (stand d).factor (all_factors (map stand cs)) h in both_true (stand d).factor (all_factors (map stand (cs ++ c ∷ []))) p.0 (factors_push cs c p.1 k)

terms_push : (cs : List Calc) (c : Calc) → all_terms (map stand cs) ≡ true → (stand c).term ≡ true → all_terms (map stand (cs ++ c ∷ [])) ≡ true
terms_push [] c h k = both_true (stand c).term true k refl
terms_push (d ∷ cs) c h k = let p = and_true (stand d).term (all_terms (map stand cs)) h in both_true (stand d).term (all_terms (map stand (cs ++ c ∷ []))) p.0 (terms_push cs c p.1 k)

values_push : (cs : List Calc) (c : Calc) → all_values (map stand cs) ≡ true → IsPlaced c → all_values (map stand (cs ++ c ∷ [])) ≡ true
values_push [] c h k = both_true (stand c).value true k refl
values_push (d ∷ cs) c h k = let p = and_true (stand d).value (all_values (map stand cs)) h in both_true (stand d).value (all_values (map stand (cs ++ c ∷ []))) p.0 (values_push cs c p.1 k)

more_factors : (cs : List Calc) (c : Calc) → FactorsRead cs → (stand c).factor ≡ true → FactorsRead (cs ++ c ∷ [])
more_factors cs c r h = record { first = r.first; rest = r.rest ++ c ∷ []; same = ap (λ ds. ds ++ c ∷ []) r.same; placed = r.placed; others = factors_push r.rest c r.others h }

more_terms : (cs : List Calc) (c : Calc) → TermsRead cs → (stand c).term ≡ true → TermsRead (cs ++ c ∷ [])
more_terms cs c r h = record { first = r.first; rest = r.rest ++ c ∷ []; same = ap (λ ds. ds ++ c ∷ []) r.same; placed = r.placed; others = terms_push r.rest c r.others h }

product_placed : (cs : List Calc) → FactorsRead cs → IsPlaced (one_or tree.Product cs)
product_placed cs r = ap (λ ds. (stand (one_or tree.Product ds)).value) r.same ∙ go r.rest r.others
  where
    go : (ds : List Calc) → all_factors (map stand ds) ≡ true → IsPlaced (one_or tree.Product (r.first ∷ ds))
    go [] h = r.placed
    go (d ∷ ds) h = ap (λ (s : Stand). s.value) (stand-Product (r.first ∷ d ∷ ds)) ∙ both_true (stand r.first).value (all_factors (map stand (d ∷ ds))) r.placed h

sum_placed : (cs : List Calc) → TermsRead cs → IsPlaced (one_or tree.Sum cs)
sum_placed cs r = ap (λ ds. (stand (one_or tree.Sum ds)).value) r.same ∙ go r.rest r.others
  where
    go : (ds : List Calc) → all_terms (map stand ds) ≡ true → IsPlaced (one_or tree.Sum (r.first ∷ ds))
    go [] h = r.placed
    go (d ∷ ds) h = ap (λ (s : Stand). s.value) (stand-Sum (r.first ∷ d ∷ ds)) ∙ both_true (stand r.first).value (all_terms (map stand (d ∷ ds))) r.placed h

made_same : (c d : Calc) → ◌≡◌ {A = Option Calc} (Some c) (Some d) → c ≡ d
made_same c d e = cc

made_placed : (o : Opened) (cs : List Calc) (c : Calc) → made o cs ≡ Some c → all_values (map stand cs) ≡ true → IsPlaced c
made_placed opening.Min cs c e h = ap (λ (d : Calc). (stand d).value) (sym (made_same (tree.Min cs) c e)) ∙ ap (λ (s : Stand). s.value) (stand-Min cs) ∙ h
made_placed opening.Max cs c e h = ap (λ (d : Calc). (stand d).value) (sym (made_same (tree.Max cs) c e)) ∙ ap (λ (s : Stand). s.value) (stand-Max cs) ∙ h
made_placed opening.Clamp [] c e h = cc
made_placed opening.Clamp (a ∷ []) c e h = cc
made_placed opening.Clamp (a ∷ b ∷ []) c e h = cc
made_placed opening.Clamp (a ∷ b ∷ d ∷ []) c e h =
    ap (λ (d : Calc). (stand d).value) (sym (made_same (tree.Clamp a b d) c e)) ∙ ap (λ (s : Stand). s.value) (stand-Clamp a b d) ∙ three (stand a).value (stand b).value (stand d).value h
  where
    three : (p q r : Bool) → (p && (q && (r && true))) ≡ true → (p && (q && r)) ≡ true
    three true true true h = refl
    three true true false h = cc
    three true false r h = cc
    three false q r h = cc
made_placed opening.Clamp (a ∷ b ∷ d ∷ f ∷ cs) c e h = cc
made_placed opening.Round [] c e h = cc
made_placed opening.Round (a ∷ []) c e h = ap (λ (d : Calc). (stand d).value) (sym (made_same a c e)) ∙ (and_true (stand a).value true h).0
made_placed opening.Round (a ∷ b ∷ cs) c e h = cc
made_placed opening.Calc [] c e h = cc
made_placed opening.Calc (a ∷ []) c e h = ap (λ (d : Calc). (stand d).value) (sym (made_same a c e)) ∙ (and_true (stand a).value true h).0
made_placed opening.Calc (a ∷ b ∷ cs) c e h = cc

module _ (number : List ℕ → Ratio) where
  mutual
    pub value_placed : {ts rest : List Token} {c : Calc} → ReadsValue number ts rest c → IsPlaced c
    value_placed (literal n) = ap (λ (s : Stand). s.value) (stand-Num _ _)
    value_placed (percent n) = ap (λ (s : Stand). s.value) (stand-Num _ _)
    value_placed (measure n name u e) = ap (λ (s : Stand). s.value) (stand-Num _ _)
    value_placed (brackets {cs = cs} {c = c} r e) = made_placed opening.Round cs c e (arguments_placed r)
    value_placed (function name opened {cs = cs} {c = c} f r e) = made_placed opened cs c e (arguments_placed r)

    factors_placed : {ts rest : List Token} {cs : List Calc} → ReadsFactors number ts rest cs → FactorsRead cs
    factors_placed (factor {c = c} k v) = record { first = c; rest = []; same = refl; placed = value_placed v; others = refl }
    factors_placed (times {cs = cs} {c = c} r k j v) = more_factors cs c (factors_placed r) (placed_anywhere c (value_placed v)).1
    factors_placed (over {cs = cs} {c = c} r k j v) = more_factors cs (tree.Invert c) (factors_placed r) (ap (λ (s : Stand). s.factor) (stand-Invert c) ∙ value_placed v)

    terms_placed : {ts rest : List Token} {cs : List Calc} → ReadsTerms number ts rest cs → TermsRead cs
    terms_placed (term {cs = cs} r) = record { first = one_or tree.Product cs; rest = []; same = refl; placed = product_placed cs (factors_placed r); others = refl }
    terms_placed (added {ds = ds} {cs = cs} r k f) = more_terms ds (one_or tree.Product cs) (terms_placed r) (placed_anywhere (one_or tree.Product cs) (product_placed cs (factors_placed f))).0
    terms_placed (taken {ds = ds} {cs = cs} r k f) = more_terms ds (tree.Negate (one_or tree.Product cs)) (terms_placed r) (ap (λ (s : Stand). s.term) (stand-Negate (one_or tree.Product cs)) ∙ product_placed cs (factors_placed f))

    arguments_placed : {opened : Opened} {ts rest : List Token} {cs : List Calc} → ReadsArguments number opened ts rest cs → all_values (map stand cs) ≡ true
    arguments_placed (argument {cs = cs} r k) = both_true (stand (one_or tree.Sum cs)).value true (sum_placed cs (terms_placed r)) refl
    arguments_placed (further {ds = ds} {cs = cs} b r f k) = values_push ds (one_or tree.Sum cs) (arguments_placed r) (sum_placed cs (terms_placed f))
