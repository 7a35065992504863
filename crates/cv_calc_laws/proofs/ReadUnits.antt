-- What is read of a list has no other units than the list.
use Rattle.std.specs.Prelude.{Bool, true, not, ◌&&◌, List, [], ◌∷◌, ◌++◌, map, replicate, zero, suc, Some}
use Rattle.std.specs.List.{list_all}
use Rattle.std.proofs.Common.{◌≡◌, refl, sym, ◌∙◌, ap, ℕ}
use Rattle.cv_spec_ratio.specs.Ratio.{Ratio}
use Rattle.cv_spec_text.specs.declared.token.Bracket.TheVariants.{Round as RoundBracket}
use Rattle.cv_spec_text.specs.declared.token.Token.{Token}
use Rattle.cv_spec_text.specs.declared.token.Token.TheVariants.{Close}
use Rattle.cv_calc.specs.declared.unit.Unit as units
use Rattle.cv_calc.specs.declared.unit.Unit.TheVariants as unit
use Rattle.cv_calc.specs.declared.calc.Calc.{Calc}
use Rattle.cv_calc.specs.declared.calc.Calc.TheVariants as tree
use Rattle.cv_calc.specs.Names.{unit_with_name}
use Rattle.cv_calcread.specs.Grammar.{Skips, none, white, ReadsAs, ReadsValue, literal, percent, measure, brackets, function, ReadsFactors, factor, times, over, ReadsTerms, term, added, taken, ReadsArguments, argument, further}
use Rattle.cv_calcread.specs.Literals.{exact_number}
use Rattle.cv_calcread.specs.Reading.{one_or, made, read}
use Rattle.cv_calcread.specs.declared.level.Opened.{Opened}
use Rattle.cv_calcread.specs.declared.level.Opened.TheVariants as opening
use Rattle.cv_calcread.proofs.Whole.{grammar_is_read}
use Rattle.cv_calc_laws.specs.Fonts.{is_other_unit, UnitsAreRead}
use Rattle.cv_calc_laws.specs.Units.{all_units, passes_if, token_passes}
use Rattle.cv_calc_laws.proofs.Answered.{answered}
use Rattle.cv_calc_laws.proofs.Folding.{all-Num, all-Sum, all-Product, all-Negate, all-Invert, all-Min, all-Max, all-Clamp}
use Rattle.cv_calc_laws.proofs.Lists.{none_some, some_same, and_both, both_are}

module _ (test : units.Unit → Bool) (number_ok : test unit.Number ≡ true) (percent_ok : test unit.Percent ≡ true) where
  abbrev AllPass : List Token → Type 0
  AllPass ts = list_all (token_passes test) ts ≡ true

  abbrev Passes : Calc → Type 0
  Passes c = all_units test c ≡ true

  abbrev all_of : List Calc → Bool
  all_of cs = list_all (λ b. b) (map (all_units test) cs)

  more : (cs : List Calc) (c : Calc) → all_of cs ≡ true → Passes c → all_of (cs ++ c ∷ []) ≡ true
  more [] c h k = both_are (all_units test c) true k refl
  more (d ∷ ds) c h k = let (first, rest) = and_both (all_units test d) (all_of ds) h in both_are (all_units test d) (all_of (ds ++ c ∷ [])) first (more ds c rest k)

  one_or_passes : (node : List Calc → Calc) → ((cs : List Calc) → all_units test (node cs) ≡ all_of cs) → (cs : List Calc) → all_of cs ≡ true → Passes (one_or node cs)
  one_or_passes node is [] h = is [] ∙ h
  one_or_passes node is (c ∷ []) h = (and_both (all_units test c) true h).0
  one_or_passes node is (c ∷ d ∷ cs) h = is (c ∷ d ∷ cs) ∙ h

  sum_passes : (cs : List Calc) → all_of cs ≡ true → Passes (one_or tree.Sum cs)
  sum_passes = one_or_passes tree.Sum (all-Sum test)

  product_passes : (cs : List Calc) → all_of cs ≡ true → Passes (one_or tree.Product cs)
  product_passes = one_or_passes tree.Product (all-Product test)

  from_made : (c d : Calc) → Some d ≡ Some c → Passes d → Passes c
  from_made c d e h = ap (all_units test) (sym (some_same d c e)) ∙ h

  made_passes : (opened : Opened) (cs : List Calc) (c : Calc) → all_of cs ≡ true → made opened cs ≡ Some c → Passes c
  made_passes opening.Min cs c h e = from_made c (tree.Min cs) e (all-Min test cs ∙ h)
  made_passes opening.Max cs c h e = from_made c (tree.Max cs) e (all-Max test cs ∙ h)
  made_passes opening.Clamp (l ∷ m ∷ r ∷ []) c h e =
      let (first, more) = and_both (all_units test l) (all_of (m ∷ r ∷ [])) h in
      let (second, last) = and_both (all_units test m) (all_of (r ∷ [])) more in
      let third = (and_both (all_units test r) true last).0 in
      from_made c (tree.Clamp l m r) e (all-Clamp test l m r ∙ both_are (all_units test l && all_units test m) (all_units test r) (both_are (all_units test l) (all_units test m) first second) third)
  made_passes opening.Clamp [] c h e = absurd (none_some c e)
  made_passes opening.Clamp (l ∷ []) c h e = absurd (none_some c e)
  made_passes opening.Clamp (l ∷ m ∷ []) c h e = absurd (none_some c e)
  made_passes opening.Clamp (l ∷ m ∷ r ∷ s ∷ cs) c h e = absurd (none_some c e)
  made_passes opening.Round [] c h e = absurd (none_some c e)
  made_passes opening.Round (d ∷ []) c h e = from_made c d e (and_both (all_units test d) true h).0
  made_passes opening.Round (d ∷ b ∷ cs) c h e = absurd (none_some c e)
  made_passes opening.Calc [] c h e = absurd (none_some c e)
  made_passes opening.Calc (d ∷ []) c h e = from_made c d e (and_both (all_units test d) true h).0
  made_passes opening.Calc (d ∷ b ∷ cs) c h e = absurd (none_some c e)

  skips_pass : {ts us : List Token} → Skips ts us → AllPass ts → AllPass us
  skips_pass none h = h
  skips_pass (white k) h = skips_pass k h

  module _ (number : List ℕ → Ratio) where
    -- what is read passes, and what is left
    mutual
      value_passes : {ts rest : List Token} {c : Calc} → ReadsValue number ts rest c → AllPass ts → Passes c × AllPass rest
      value_passes (literal n) h = (all-Num test (number n) unit.Number ∙ number_ok, h)
      value_passes (percent n) h = (all-Num test (number n) unit.Percent ∙ percent_ok, h)
      value_passes (measure n name u {rest} e) h =
          let (first, left) = and_both (passes_if test (unit_with_name name)) (list_all (token_passes test) rest) h in
          (all-Num test (number n) u ∙ ap (passes_if test) (sym e) ∙ first, left)
      value_passes (brackets {cs = cs} {c = c} r e) h = let (inner, left) = arguments_pass r h in (made_passes opening.Round cs c inner e, left)
      value_passes (function name opened {cs = cs} {c = c} o r e) h = let (inner, left) = arguments_pass r h in (made_passes opened cs c inner e, left)

      factors_pass : {ts rest : List Token} {cs : List Calc} → ReadsFactors number ts rest cs → AllPass ts → (all_of cs ≡ true) × AllPass rest
      factors_pass (factor {c = c} k v) h = let (first, left) = value_passes v (skips_pass k h) in (both_are (all_units test c) true first refl, left)
      factors_pass (times {cs = cs} {c = c} r k j v) h =
          let (before, rest) = factors_pass r h in
          let (last, left) = value_passes v (skips_pass j (skips_pass k rest)) in
          (more cs c before last, left)
      factors_pass (over {cs = cs} {c = c} r k j v) h =
          let (before, rest) = factors_pass r h in
          let (last, left) = value_passes v (skips_pass j (skips_pass k rest)) in
          (more cs (tree.Invert c) before (all-Invert test c ∙ last), left)

      terms_pass : {ts rest : List Token} {cs : List Calc} → ReadsTerms number ts rest cs → AllPass ts → (all_of cs ≡ true) × AllPass rest
      terms_pass (term {cs = cs} r) h =
          let (first, left) = factors_pass r h in (both_are (all_units test (one_or tree.Product cs)) true (product_passes cs first) refl, left)
      terms_pass (added {ds = ds} {cs = cs} r k f) h =
          let (before, rest) = terms_pass r h in
          let (last, left) = factors_pass f (skips_pass k rest) in
          (more ds (one_or tree.Product cs) before (product_passes cs last), left)
      terms_pass (taken {ds = ds} {cs = cs} r k f) h =
          let (before, rest) = terms_pass r h in
          let (last, left) = factors_pass f (skips_pass k rest) in
          (more ds (tree.Negate (one_or tree.Product cs)) before (all-Negate test (one_or tree.Product cs) ∙ product_passes cs last), left)

      arguments_pass : {opened : Opened} {ts rest : List Token} {cs : List Calc} → ReadsArguments number opened ts rest cs → AllPass ts → (all_of cs ≡ true) × AllPass rest
      arguments_pass (argument {cs = cs} r k) h =
          let (first, left) = terms_pass r h in (both_are (all_units test (one_or tree.Sum cs)) true (sum_passes cs first) refl, skips_pass k left)
      arguments_pass (further {ds = ds} {cs = cs} b r f k) h =
          let (before, rest) = arguments_pass r h in
          let (last, left) = terms_pass f rest in
          (more ds (one_or tree.Sum cs) before (sum_passes cs last), skips_pass k left)

    closed_pass : (ts : List Token) (n : ℕ) → AllPass ts → AllPass (ts ++ replicate n (Close RoundBracket))
    closed_pass [] zero h = refl
    closed_pass [] (suc n) h = closed_pass [] n h
    closed_pass (t ∷ ts) n h =
        let (first, rest) = and_both (token_passes test t) (list_all (token_passes test) ts) h in
        both_are (token_passes test t) (list_all (token_passes test) (ts ++ replicate n (Close RoundBracket))) first (closed_pass ts n rest)

    pub read_passes : (tokens : List Token) (c : Calc) → AllPass tokens → read number tokens ≡ Some c → Passes c
    read_passes tokens c h e =
        let r : ReadsAs number tokens c = grammar_is_read.only number tokens c e in
        (value_passes r.1.1 (closed_pass tokens r.1.0 h)).0

-- ---- the law

pub units_are_read : UnitsAreRead
units_are_read = record {
  of_number = λ root v u h. all-Num (is_other_unit root) v u ∙ ap not h;
  of_tree = λ root number tokens c h e. read_passes (is_other_unit root) refl refl number tokens c h e;
  of_answer = λ root tokens c h e. read_passes (is_other_unit root) refl refl exact_number tokens c h (answered tokens c e).tree;
}
