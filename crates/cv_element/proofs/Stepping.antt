-- One more property of the order is settled.
use Rattle.std.proofs.Common.{◌≡◌, ◌≢◌, ℕ, ◌+◌, ◌<◌, zero-le, ◌↔◌, Bool, true, false, List, [], ◌∷◌, ◌++◌, length, get_or, Option, Some, None, Result, Ok, Err, ◌⊎◌, inl, inr, refl, sym, ◌∙◌, ap, subst, arith}
use Rattle.std.specs.Prelude.{Contains, slice_get}
use Rattle.std.proofs.lemmas.Bool.{cases_lt}
use Rattle.std.proofs.lemmas.List.{get_or_append_left, get_or_push, length_push}
use Rattle.std.proofs.lemmas.List.Elements.{Contains-push, Contains-push_cases, Contains-append_left}
use Rattle.std.proofs.lemmas.Option.{get_or_from_slice_get, slice_get_within, slice_get-get_or}
use Rattle.cv_cycle.specs.Marks.{IsMarked}
use Rattle.cv_spec_text.specs.declared.token.Token.{Token}
use Rattle.cv_value.specs.declared.typed.Typed.{Typed}
use Rattle.cv_spec_element.specs.Pieces.{RefersTo}
use Rattle.cv_spec_element.specs.Element.{Outcome}
use Rattle.cv_spec_element.specs.Dependencies.{Reads, undeclared_value}
use Rattle.cv_spec_element.specs.Valuation.{Cause, IsInvalid, IsOutOfRange, invalid_value, Gives, Uses, IsUsed, IsRefused, IsRanged}
use Rattle.cv_subst.specs.Values.{value_in}
use Rattle.cv_var.specs.References.{pieces_of}
use Rattle.cv_valuation.specs.declared.computed.Cause.{Cause as Reported}
use Rattle.cv_valuation.specs.declared.key.Key.{Key}
use Rattle.cv_valuation.specs.declared.key.Key.TheVariants.{Custom}
use Rattle.cv_valuation.specs.declared.outcome.Outcome.{Outcome as Kept}
use Rattle.cv_valuation.specs.Valuations.{Values, outcome_at, outcome_tokens, with_outcome}
use Rattle.cv_valuation.specs.ValuationLaws.{OutcomesAreByKey}
use Rattle.cv_props.specs.Winners.{Declarations}
use Rattle.cv_spec_valuation.specs.Registered.{as_read}
use Rattle.cv_spec_valuation.specs.Element.{values_of}
use Rattle.cv_spec_valuation.specs.Computed.{cause_of, Faults, IsOnce, IsReported}
use Rattle.cv_element.specs.declared.judging.Verdict.{Verdict}
use Rattle.cv_element.specs.declared.judging.Verdict.TheVariants.{Used, Refused, OutOfRange}
use Rattle.cv_element.specs.declared.settling.Settling.{Settling}
use Rattle.cv_element.specs.Settling.{key_at, IsLoaded, value_at, faults_after, first_of, range_after, IsPlan, key_of, IsSettledKey, IsOpenKey, IsTold, IsSettling}
use Rattle.cv_element.specs.Values.{AnElement}

abbrev Fault : Type 0
Fault = Key × Reported

-- what stands in a list with one more at its end
push_cases : (faults : Faults) (x : Fault) (i : ℕ) (y : Fault) → slice_get (faults ++ x ∷ []) i ≡ Some y → (slice_get faults i ≡ Some y) ⊎ ((i ≡ length faults) × (x ≡ y))
push_cases faults x i y is =
    let within : i < length (faults ++ x ∷ []) = slice_get_within (faults ++ x ∷ []) i y is in
    let value : get_or (faults ++ x ∷ []) i y ≡ y = get_or_from_slice_get (faults ++ x ∷ []) i y y is in
    elim (cases_lt i (length faults)) [
      | inl old ↦ inl (slice_get-get_or faults i y old ∙ ap Some (sym (get_or_append_left faults (x ∷ []) y i old) ∙ value))
      | inr past ↦
          let last : i ≡ length faults = omega (arith, within, length_push faults x) in
          inr (last, sym (get_or_push faults x y i (sym last)) ∙ value)
    ]

at_contains : (faults : Faults) (i : ℕ) (y : Fault) → slice_get faults i ≡ Some y → Contains faults y
at_contains faults i y is = (i, slice_get_within faults i y is, get_or_from_slice_get faults i y y is)

once-push : (faults : Faults) (key : Key) (cause : Reported) → IsOnce faults → ((other : Reported) → ¬ Contains faults (key, other)) → IsOnce (faults ++ (key, cause) ∷ [])
once-push faults key cause once none i j k one other at_i at_j =
    elim (push_cases faults (key, cause) i (k, one) at_i) [
      | inl old_i ↦ elim (push_cases faults (key, cause) j (k, other) at_j) [
        | inl old_j ↦ once i j k one other old_i old_j
        | inr new_j ↦ absurd (let same : k ≡ key = sym (ap (λ x. x.0) new_j.1) in none one (subst (λ x. Contains faults (x, one)) same (at_contains faults i (k, one) old_i)))
      ]
      | inr new_i ↦ elim (push_cases faults (key, cause) j (k, other) at_j) [
        | inl old_j ↦ absurd (let same : k ≡ key = sym (ap (λ x. x.0) new_i.1) in none other (subst (λ x. Contains faults (x, other)) same (at_contains faults j (k, other) old_j)))
        | inr new_j ↦ new_i.0 ∙ sym new_j.0
      ]
    ]

-- what a verdict says of a property: it is used with a value, invalid with a cause, or out of range
abbrev pub IsJudged : AnElement → (Key → Outcome Token Typed) → Key → Verdict → Type 0
IsJudged e values key (Used outcome) = Uses e values key (as_read outcome)
IsJudged e values key (Refused cause) = IsInvalid e values key (cause_of cause)
IsJudged e values key OutOfRange = IsOutOfRange e values key

-- the value that the property has then
abbrev pub judged_value : AnElement → Key → Verdict → Outcome Token Typed
judged_value e key (Used outcome) = as_read outcome
judged_value e key (Refused cause) = invalid_value e key
judged_value e key OutOfRange = undeclared_value e key

-- one verdict stands beside no other
pub record AreJudged (e : AnElement) : Type 0 where
  pub used : (values : Key → Outcome Token Typed) (p : Key) (outcome : Outcome Token Typed) → Uses e values p outcome → IsUsed e values p outcome
  pub refused : (values : Key → Outcome Token Typed) (p : Key) (cause : Cause Key) → IsInvalid e values p cause → IsRefused e values p cause
  pub ranged : (values : Key → Outcome Token Typed) (p : Key) → IsOutOfRange e values p → IsRanged e values p

-- one more property has its verdict
pub record Steps (e : AnElement) (key : Key) (verdict : Verdict) (s s' : Settling) : Type 0 where
  pub judged : IsJudged e (values_of s.values) key verdict
  pub values : (kept : Kept) × (as_read kept ≡ judged_value e key verdict) × (s'.values ≡ with_outcome s.values key kept)
  pub faults : s'.faults ≡ faults_after s.faults key verdict
  pub range : s'.range ≡ range_after s.range key verdict

module _ (e : AnElement) (laws : AreJudged e) (decls : Declarations) (distinct : (i j : ℕ) → i < length decls → j < length decls → key_at decls i ≡ key_at decls j → i ≡ j) (order : List ℕ) (flags : List Bool) (plan : IsPlan e decls order flags) where
  abbrev key : ℕ → Key
  key = key_of decls order

  abbrev number : ℕ → ℕ
  number i = get_or order i 0

  pub number_below : (i : ℕ) → i < length decls → number i < length decls
  number_below i below = (plan.stands (number i)).1 (i, zero-le, below, refl)

  pub same_place : (i j : ℕ) → i < length decls → j < length decls → key i ≡ key j → i ≡ j
  same_place i j below_i below_j same =
      plan.once i j below_i below_j (distinct (number i) (number j) (number_below i below_i) (number_below j below_j) same)

  -- what a property reads is settled before it
  pub reads_before : (i : ℕ) → i < length decls → (q : Key) → Reads e (key i) q → IsOpenKey decls order i q → ⊥
  reads_before i below q reads opened =
      let before = plan.earlier i (number opened.0) below (number_below opened.0 opened.2) (subst (λ x. Reads e (key i) x) (sym opened.3) reads) in
      let same : before.0 ≡ opened.0 = plan.once before.0 opened.0 (omega (arith, before.2, below)) opened.2 before.3 in
      omega (arith, same, before.2, opened.1)

  module _ (by_key : OutcomesAreByKey) (start : Key → Kept) (count : ℕ) (below : count < length decls) (s s' : Settling) (now : IsSettling e decls order start count s) (verdict : Verdict) (steps : Steps e (key count) verdict s s') (loads : IsLoaded s'.runs s.values) (more : (name : List ℕ) → (value_in s'.runs name ≡ value_in s.runs name) ⊎ Reads e (key count) (Custom name)) where
    abbrev p : Key
    p = key count

    not_settled : ¬ IsSettledKey decls order count p
    not_settled settled =
        let same : settled.0 ≡ count = same_place settled.0 count (omega (arith, settled.1, below)) below settled.2 in
        omega (arith, same, settled.1)

    outcome_elsewhere : (q : Key) → q ≢ p → outcome_at s'.values q ≡ outcome_at s.values q
    outcome_elsewhere q apart = ap (λ v. outcome_at v q) steps.values.2 ∙ by_key.elsewhere s.values p steps.values.0 q apart

    value_elsewhere : (q : Key) → q ≢ p → values_of s.values q ≡ values_of s'.values q
    value_elsewhere q apart = ap as_read (sym (outcome_elsewhere q apart))

    not_open_apart : (q : Key) → ¬ IsOpenKey decls order count q → q ≢ p
    not_open_apart q closed same = closed (count, omega arith, below, sym same)

    -- what is loaded isn't open
    closed : (name : List ℕ) (list : List Token) → value_in s'.runs name ≡ Some list → ¬ IsOpenKey decls order count (Custom name)
    closed name list is =
        elim (more name) [
          | inl same ↦ now.closed name list (sym same ∙ is)
          | inr reads ↦ reads_before count below (Custom name) reads
        ]

    loaded : (name : List ℕ) (list : List Token) → value_in s'.runs name ≡ Some list → value_at s'.values name ≡ Some list
    loaded name list is =
        let apart : Custom name ≢ p = not_open_apart (Custom name) (closed name list is) in
        ap outcome_tokens (outcome_elsewhere (Custom name) apart) ∙ loads name list is

    -- the new property
    abbrev earlier : Key → Outcome Token Typed
    earlier = values_of s.values

    value_here : values_of s'.values p ≡ judged_value e p verdict
    value_here = ap as_read (ap (λ v. outcome_at v p) steps.values.2 ∙ by_key.here s.values p steps.values.0) ∙ steps.values.1

    given : (v : Verdict) → IsJudged e earlier p v → Gives e earlier p (judged_value e p v)
    given (Used outcome) uses = (laws.used earlier p (as_read outcome) uses).given
    given (Refused cause) invalid = (laws.refused earlier p (cause_of cause) invalid).given
    given OutOfRange ranged = (laws.ranged earlier p ranged).given

    not_among : (cause : Reported) → ¬ Contains s.faults (p, cause)
    not_among cause has = not_settled (now.faults p cause has)

    not_reported : (cause : Cause Key) → ¬ IsReported s.faults p cause
    not_reported cause told = not_among told.0 told.2

    told_here : (v : Verdict) → IsJudged e earlier p v → (cause : Cause Key) → IsReported (faults_after s.faults p v) p cause ↔ IsInvalid e earlier p cause
    told_here (Used outcome) uses cause =
        ((λ told. absurd (not_reported cause told)), (λ invalid. absurd ((laws.used earlier p (as_read outcome) uses).valid cause invalid)))
    told_here OutOfRange ranged cause =
        ((λ told. absurd (not_reported cause told)), (λ invalid. absurd ((laws.ranged earlier p ranged).valid cause invalid)))
    told_here (Refused reported) invalid cause = (forth, back)
      where
        forth : IsReported (s.faults ++ (p, reported) ∷ []) p cause → IsInvalid e earlier p cause
        forth told =
            elim (Contains-push_cases s.faults (p, reported) (p, told.0) told.2) [
              | inl old ↦ absurd (not_among told.0 old)
              | inr same ↦ subst (λ c. IsInvalid e earlier p c) (ap (λ x. cause_of x.1) same ∙ told.1) invalid
            ]

        back : IsInvalid e earlier p cause → IsReported (s.faults ++ (p, reported) ∷ []) p cause
        back other = (reported, sym ((laws.refused earlier p (cause_of reported) invalid).only cause other), Contains-push s.faults (p, reported))

    named_here : (v : Verdict) → IsJudged e earlier p v → range_after s.range p v ≡ Some p → IsOutOfRange e earlier p
    named_here (Used outcome) uses is = absurd (not_settled (now.range p is))
    named_here (Refused cause) invalid is = absurd (not_settled (now.range p is))
    named_here OutOfRange ranged is = ranged

    no_first : (range : Option Key) → first_of range p ≡ None → ⊥
    no_first None is = cc
    no_first (Some first) is = cc

    in_range_here : (v : Verdict) → IsJudged e earlier p v → range_after s.range p v ≡ None → ¬ IsOutOfRange e earlier p
    in_range_here (Used outcome) uses is = (laws.used earlier p (as_read outcome) uses).in_range
    in_range_here (Refused cause) invalid is = (laws.refused earlier p (cause_of cause) invalid).in_range
    in_range_here OutOfRange ranged is = absurd (no_first s.range is)

    told_new : IsTold e s'.values s'.faults s'.range p
    told_new = record {
      earlier = earlier;
      kept = λ q reads. value_elsewhere q (not_open_apart q (reads_before count below q reads));
      given = subst (λ o. Gives e earlier p o) (sym value_here) (given verdict steps.judged);
      told = λ cause. subst (λ f. IsReported f p cause ↔ IsInvalid e earlier p cause) (sym steps.faults) (told_here verdict steps.judged cause);
      named = λ is. named_here verdict steps.judged (sym steps.range ∙ is);
      in_range = λ is. in_range_here verdict steps.judged (sym steps.range ∙ is);
    }

    -- the properties that were settled before
    contains_after : (v : Verdict) (q : Key) (cause : Reported) → q ≢ p → Contains (faults_after s.faults p v) (q, cause) ↔ Contains s.faults (q, cause)
    contains_after (Used outcome) q cause apart = ((λ has. has), (λ has. has))
    contains_after OutOfRange q cause apart = ((λ has. has), (λ has. has))
    contains_after (Refused other) q cause apart = (
      (λ has. elim (Contains-push_cases s.faults (p, other) (q, cause) has) [ inl old ↦ old | inr same ↦ absurd (apart (sym (ap (λ x. x.0) same))) ]),
      (λ has. Contains-append_left s.faults ((p, other) ∷ []) (q, cause) has),
    )

    reported_after : (q : Key) → q ≢ p → (cause : Cause Key) → IsReported s'.faults q cause ↔ IsReported s.faults q cause
    reported_after q apart cause = (
      (λ told. (told.0, told.1, (contains_after verdict q told.0 apart).0 (subst (λ f. Contains f (q, told.0)) steps.faults told.2))),
      (λ told. (told.0, told.1, subst (λ f. Contains f (q, told.0)) (sym steps.faults) ((contains_after verdict q told.0 apart).1 told.2))),
    )

    named_before : (v : Verdict) (range : Option Key) (q : Key) → q ≢ p → range_after range p v ≡ Some q → range ≡ Some q
    named_before (Used outcome) range q apart is = is
    named_before (Refused cause) range q apart is = is
    named_before OutOfRange (Some first) q apart is = is
    named_before OutOfRange None q apart is = absurd (apart (let both : Some p ≡ Some q = is in let same : p ≡ q = cc in sym same))

    none_before : (v : Verdict) (range : Option Key) → range_after range p v ≡ None → range ≡ None
    none_before (Used outcome) range is = is
    none_before (Refused cause) range is = is
    none_before OutOfRange range is = absurd (no_first range is)

    told_old : (i : ℕ) → i < count → IsTold e s'.values s'.faults s'.range (key i)
    told_old i lower =
        let old = now.told i lower in
        let within : i < length decls = omega (arith, lower, below) in
        let apart : key i ≢ p = λ same. let at : i ≡ count = same_place i count within below same in absurd (omega (arith, at, lower)) in
        record {
          earlier = old.earlier;
          kept = λ q reads. old.kept q reads ∙ value_elsewhere q (λ same. reads_before i within q reads (count, omega (arith, lower), below, sym same));
          given = subst (λ o. Gives e old.earlier (key i) o) (value_elsewhere (key i) apart) old.given;
          told = λ cause. (
            (λ told. (old.told cause).0 ((reported_after (key i) apart cause).0 told)),
            (λ invalid. (reported_after (key i) apart cause).1 ((old.told cause).1 invalid)),
          );
          named = λ is. old.named (named_before verdict s.range (key i) apart (sym steps.range ∙ is));
          in_range = λ is. old.in_range (none_before verdict s.range (sym steps.range ∙ is));
        }

    settled_more : (q : Key) → IsSettledKey decls order count q → IsSettledKey decls order (count + 1) q
    settled_more q settled = (settled.0, omega (arith, settled.1), settled.2)

    faults_settled : (v : Verdict) (q : Key) (cause : Reported) → Contains (faults_after s.faults p v) (q, cause) → IsSettledKey decls order (count + 1) q
    faults_settled (Used outcome) q cause has = settled_more q (now.faults q cause has)
    faults_settled OutOfRange q cause has = settled_more q (now.faults q cause has)
    faults_settled (Refused other) q cause has =
        elim (Contains-push_cases s.faults (p, other) (q, cause) has) [
          | inl old ↦ settled_more q (now.faults q cause old)
          | inr same ↦ (count, omega arith, ap (λ x. x.0) same)
        ]

    range_settled : (v : Verdict) (q : Key) → range_after s.range p v ≡ Some q → IsSettledKey decls order (count + 1) q
    range_settled (Used outcome) q is = settled_more q (now.range q is)
    range_settled (Refused cause) q is = settled_more q (now.range q is)
    range_settled OutOfRange q is = by s.range refl is
      where
        by : (range : Option Key) → s.range ≡ range → first_of range p ≡ Some q → IsSettledKey decls order (count + 1) q
        by None was is = (count, omega arith, let both : Some p ≡ Some q = is in cc)
        by (Some first) was is = settled_more q (now.range q (was ∙ is))

    once_after : (v : Verdict) → IsOnce (faults_after s.faults p v)
    once_after (Used outcome) = now.once
    once_after OutOfRange = now.once
    once_after (Refused other) = once-push s.faults p other now.once not_among

    pub settling_next : IsSettling e decls order start (count + 1) s'
    settling_next = record {
      loaded = loaded;
      closed = λ name list is opened. closed name list is (opened.0, omega (arith, opened.1), opened.2, opened.3);
      untouched = λ q unsettled. outcome_elsewhere q (λ same. unsettled (count, omega arith, sym same)) ∙ now.untouched q (λ settled. unsettled (settled_more q settled));
      told = λ i lower. elim (cases_lt i count) [
        | inl old ↦ told_old i old
        | inr upper ↦ let at : i ≡ count = omega (arith, lower, upper) in subst (λ x. IsTold e s'.values s'.faults s'.range (key x)) (sym at) told_new
      ];
      faults = λ q cause has. faults_settled verdict q cause (subst (λ f. Contains f (q, cause)) steps.faults has);
      range = λ q is. range_settled verdict q (sym steps.range ∙ is);
      once = subst IsOnce (sym steps.faults) (once_after verdict);
    }
