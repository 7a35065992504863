-- A property is invalid with one cause at most, and the equations give it one value.
use Rattle.std.proofs.Common.{◌≡◌, ◌≤◌, ℕ, true, false, List, length, Some, None, Result, Ok, Err, ◌⊎◌, inl, inr, refl, sym, ◌∙◌, ap, subst, arith}
use Rattle.std.specs.Prelude.{IsSome}
use Rattle.cv_spec_element.specs.Pieces.{Pieces, sub}
use Rattle.cv_spec_element.specs.Keywords.{Keyword}
use Rattle.cv_spec_element.specs.Words.{trim, keyword_of}
use Rattle.cv_spec_element.specs.Element.{Matched, no, out, fit, Outcome, Element}
use Rattle.cv_spec_element.specs.Dependencies.{tokens_of}
use Rattle.cv_spec_element.specs.Valuation.{Cause, cycle, missing, limit, mismatch, font_size_for, SubIs, IsSubstituted, IsMatched, IsOverLimit, IsInvalid, invalid_value, Gives, undeclared, refused, by_keyword, trimmed, out_of_range, computed, IsOutOfRange, Uses, uses_keyword, uses_list, uses_value, IsUsed, IsRefused, IsRanged, HasOneCause}
use Rattle.cv_spec_element.proofs.RightSide.{cyclic_declared}

module _ {K T V U M : Type 0} (e : Element K T V U M) (values : K → Outcome T V) (p : K) where
  sub_one : (a b : Result (List T) K) → SubIs e values p a → SubIs e values p b → a ≡ b
  sub_one a b first second =
      let both : Some first.0 ≡ Some second.0 = sym first.1 ∙ second.1 in
      let same : first.0 ≡ second.0 = cc in
      sym first.2 ∙ ap (sub (λ q. tokens_of e (values q))) same ∙ second.2

  list_one : (a b : List T) → SubIs e values p (Ok a) → SubIs e values p (Ok b) → a ≡ b
  list_one a b first second = let both = sub_one (Ok a) (Ok b) first second in cc

  not_both : (n : K) (list : List T) → SubIs e values p (Err n) → SubIs e values p (Ok list) → ⊥
  not_both n list first second = let both = sub_one (Err n) (Ok list) first second in cc

  not_over : (count : ℕ) (list : List T) → IsOverLimit e values p count → IsSubstituted e values p list → ⊥
  not_over count list over ok =
      let same : over.list ≡ list = list_one over.list list over.sub_is ok.sub_is in
      let count_is : length list ≡ count = ap (λ l. length l) (sym same) ∙ over.count_is in
      let short : length list ≤ e.declarations.limit = ok.within over.counted in
      absurd (omega (arith, over.over))

  pub cause_one : (one other : Cause K) → IsInvalid e values p one → IsInvalid e values p other → other ≡ one
  cause_one cycle cycle first second = refl
  cause_one cycle (missing n) first second = absurd (second.0 first)
  cause_one cycle (limit count) first second = absurd (second.0 first)
  cause_one cycle mismatch first second = absurd (second.1.substituted.loopless first)
  cause_one (missing n) cycle first second = absurd (first.0 second)
  cause_one (missing n) (missing m) first second = let both = sub_one (Err n) (Err m) first.1 second.1 in let same : n ≡ m = cc in ap missing (sym same)
  cause_one (missing n) (limit count) first second = absurd (not_both n second.1.list first.1 second.1.sub_is)
  cause_one (missing n) mismatch first second = absurd (not_both n second.0 first.1 second.1.substituted.sub_is)
  cause_one (limit count) cycle first second = absurd (first.0 second)
  cause_one (limit count) (missing n) first second = absurd (not_both n first.1.list second.1 first.1.sub_is)
  cause_one (limit count) (limit other) first second =
      let same : first.1.list ≡ second.1.list = list_one first.1.list second.1.list first.1.sub_is second.1.sub_is in
      ap limit (sym second.1.count_is ∙ ap (λ l. length l) (sym same) ∙ first.1.count_is)
  cause_one (limit count) mismatch first second = absurd (not_over count second.0 first.1 second.1.substituted)
  cause_one mismatch cycle first second = absurd (first.1.substituted.loopless second)
  cause_one mismatch (missing n) first second = absurd (not_both n first.0 second.1 first.1.substituted.sub_is)
  cause_one mismatch (limit count) first second = absurd (not_over count first.0 second.1 first.1.substituted)
  cause_one mismatch mismatch first second = refl

  some_declared : (pieces : Pieces K T) → e.declarations.pieces p ≡ Some pieces → IsSome (e.declarations.pieces p)
  some_declared pieces is = subst (λ o. IsSome o) (sym is) refl

  pub invalid_declared : (cause : Cause K) → IsInvalid e values p cause → IsSome (e.declarations.pieces p)
  invalid_declared cycle loops = let there = cyclic_declared e p loops in some_declared there.0 there.1
  invalid_declared (missing n) h = some_declared h.1.0 h.1.1
  invalid_declared (limit count) h = some_declared h.1.sub_is.0 h.1.sub_is.1
  invalid_declared mismatch h = some_declared h.1.substituted.sub_is.0 h.1.substituted.sub_is.1

  -- a list that is used stands in the way of every cause but a mismatch
  not_invalid : (list : List T) → IsSubstituted e values p list → ((other : List T) → ¬ IsMatched e values p other no) → (cause : Cause K) → ¬ IsInvalid e values p cause
  not_invalid list ok fits cycle loops = ok.loopless loops
  not_invalid list ok fits (missing n) h = not_both n list h.1 ok.sub_is
  not_invalid list ok fits (limit count) h = not_over count list h.1 ok
  not_invalid list ok fits mismatch h = fits h.0 h.1

  undeclared_not : e.declarations.pieces p ≡ None → (cause : Cause K) → ¬ IsInvalid e values p cause
  undeclared_not none cause h = let some : IsSome {T = Pieces K T} None = subst (λ o. IsSome o) none (invalid_declared cause h) in cc

  -- a list that matches in one way does so in no other
  match_one : (list other : List T) (a b : Matched V) → IsMatched e values p list a → IsMatched e values p other b → a ≡ b
  match_one list other a b first second =
      let same : list ≡ other = list_one list other first.substituted.sub_is second.substituted.sub_is in
      sym first.matched_is ∙ ap (λ l. e.values.reads p (font_size_for e values p) (trim e.words l)) same ∙ second.matched_is

  pub one_cause_or_none : (outcome : Outcome T V) → Gives e values p outcome → HasOneCause e values p ⊎ ((cause : Cause K) → ¬ IsInvalid e values p cause)
  one_cause_or_none outcome (undeclared none is) = inr (undeclared_not none)
  one_cause_or_none outcome (refused cause h is) = inl (record { cause = cause; holds = h; only = λ other other_is. cause_one cause other h other_is })
  one_cause_or_none outcome (by_keyword list w ok word is) =
      inr (not_invalid list ok (λ other h. let same : list ≡ other = list_one list other ok.sub_is h.substituted.sub_is in let clash : Some w ≡ None = sym word ∙ ap (keyword_of e.words) same ∙ h.no_keyword in cc))
  one_cause_or_none outcome (trimmed list ok none loose is) =
      inr (not_invalid list ok (λ other h. let clash : true ≡ false = sym loose ∙ h.is_typed in cc))
  one_cause_or_none outcome (out_of_range list h is) =
      inr (not_invalid list h.substituted (λ other o. let clash : out ≡ no = match_one list other out no h o in cc))
  one_cause_or_none outcome (computed list value h is) =
      inr (not_invalid list h.substituted (λ other o. let clash : fit value ≡ no = match_one list other (fit value) no h o in cc))

  -- an invalid property has the value of such a property
  pub invalid_has : (outcome : Outcome T V) → Gives e values p outcome → (cause : Cause K) → IsInvalid e values p cause → outcome ≡ invalid_value e p
  invalid_has outcome (refused other h is) cause invalid_is = is
  invalid_has outcome (undeclared none is) cause invalid_is = absurd (undeclared_not none cause invalid_is)
  invalid_has outcome (by_keyword list w ok word is) cause invalid_is =
      absurd (not_invalid list ok (λ other h. let same : list ≡ other = list_one list other ok.sub_is h.substituted.sub_is in let clash : Some w ≡ None = sym word ∙ ap (keyword_of e.words) same ∙ h.no_keyword in cc) cause invalid_is)
  invalid_has outcome (trimmed list ok none loose is) cause invalid_is =
      absurd (not_invalid list ok (λ other h. let clash : true ≡ false = sym loose ∙ h.is_typed in cc) cause invalid_is)
  invalid_has outcome (out_of_range list h is) cause invalid_is =
      absurd (not_invalid list h.substituted (λ other o. let clash : out ≡ no = match_one list other out no h o in cc) cause invalid_is)
  invalid_has outcome (computed list value h is) cause invalid_is =
      absurd (not_invalid list h.substituted (λ other o. let clash : fit value ≡ no = match_one list other (fit value) no h o in cc) cause invalid_is)

  -- a list that matches otherwise isn't out of range
  not_out : (list : List T) (m : Matched V) → IsMatched e values p list m → ¬ (m ≡ out) → ¬ IsOutOfRange e values p
  not_out list m h other ranged = other (match_one list ranged.0 m out h ranged.1)

  pub used : (outcome : Outcome T V) → Uses e values p outcome → IsUsed e values p outcome
  used outcome (uses_keyword list w ok word is) = record {
    given = by_keyword list w ok word is;
    valid = not_invalid list ok (λ other h. no_word list w ok word other h.substituted.sub_is h.no_keyword);
    in_range = λ ranged. no_word list w ok word ranged.0 ranged.1.substituted.sub_is ranged.1.no_keyword;
  }
    where
      no_word : (list : List T) (w : Keyword) → IsSubstituted e values p list → keyword_of e.words list ≡ Some w → (other : List T) → SubIs e values p (Ok other) → keyword_of e.words other ≡ None → ⊥
      no_word list w ok word other sub_is none = let same : list ≡ other = list_one list other ok.sub_is sub_is in let clash : Some w ≡ None = sym word ∙ ap (keyword_of e.words) same ∙ none in cc
  used outcome (uses_list list ok none loose is) = record {
    given = trimmed list ok none loose is;
    valid = not_invalid list ok (λ other h. let clash : true ≡ false = sym loose ∙ h.is_typed in cc);
    in_range = λ ranged. let clash : true ≡ false = sym loose ∙ ranged.1.is_typed in cc;
  }
  used outcome (uses_value list value h is) = record {
    given = computed list value h is;
    valid = not_invalid list h.substituted (λ other o. let clash : fit value ≡ no = match_one list other (fit value) no h o in cc);
    in_range = not_out list (fit value) h (λ same. cc);
  }

  refused_not_out : (cause : Cause K) → IsInvalid e values p cause → ¬ IsOutOfRange e values p
  refused_not_out cycle loops ranged = ranged.1.substituted.loopless loops
  refused_not_out (missing n) h ranged = not_both n ranged.0 h.1 ranged.1.substituted.sub_is
  refused_not_out (limit count) h ranged = not_over count ranged.0 h.1 ranged.1.substituted
  refused_not_out mismatch h ranged = let clash : no ≡ out = match_one h.0 ranged.0 no out h.1 ranged.1 in cc

  pub refused_is : (cause : Cause K) → IsInvalid e values p cause → IsRefused e values p cause
  refused_is cause h = record {
    given = refused cause h refl;
    only = λ other other_is. cause_one cause other h other_is;
    in_range = refused_not_out cause h;
  }

  pub ranged_is : IsOutOfRange e values p → IsRanged e values p
  ranged_is ranged = record {
    given = out_of_range ranged.0 ranged.1 refl;
    valid = λ cause h. refused_not_out cause h ranged;
  }
