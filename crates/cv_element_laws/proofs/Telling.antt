-- A list that tells which keys are invalid, and why.
use Rattle.std.proofs.Common.{◌≡◌, ◌≢◌, ℕ, zero, suc, List, [], ◌∷◌, Some, None, ◌↔◌, ◌⊎◌, inl, inr, refl, sym, ◌∙◌, ap, subst, arith}
use Rattle.std.specs.Prelude.{Contains, slice_get}
use Rattle.std.proofs.lemmas.Option.{get_or_from_slice_get, slice_get_within}
use Rattle.cv_spec_text.specs.declared.token.Token.{Token}
use Rattle.cv_value.specs.declared.typed.Typed.{Typed}
use Rattle.cv_spec_element.specs.Element.{Outcome}
use Rattle.cv_spec_element.specs.Valuation.{Cause, IsInvalid, HasOneCause}
use Rattle.cv_valuation.specs.declared.computed.Cause.{Cause as Reported}
use Rattle.cv_valuation.specs.declared.key.Key.{Key}
use Rattle.cv_valuation.specs.TableLaws.{PropertiesAreFound}
use Rattle.cv_spec_valuation.specs.Computed.{cause_of, Faults, IsOnce}
use Rattle.cv_element.specs.Values.{AnElement}
use Rattle.cv_element.proofs.Reported.{cause_of-injective}
use Rattle.cv_element.proofs.SameKeys.{same_or_not}

-- ---- what a list has

held-cons : {X : Type 0} (x : X) (xs : List X) (y : X) → Contains (x ∷ xs) y → (x ≡ y) ⊎ Contains xs y
held-cons x xs y (zero, below, is) = inl is
held-cons x xs y (suc i, below, is) = inr (i, omega (arith, below), is)

held-here : {X : Type 0} (x : X) (xs : List X) → Contains (x ∷ xs) x
held-here x xs = (0, omega arith, refl)

held-later : {X : Type 0} (x : X) (xs : List X) (y : X) → Contains xs y → Contains (x ∷ xs) y
held-later x xs y (i, below, is) = (suc i, omega (arith, below), is)

held-nothing : {X : Type 0} (y : X) → Contains [] y → ⊥
held-nothing y held = omega (arith, held.1)

held-at : {X : Type 0} (xs : List X) (i : ℕ) (y : X) → slice_get xs i ≡ Some y → Contains xs y
held-at xs i y is = (i, slice_get_within xs i y is, get_or_from_slice_get xs i y y is)

held_or_not : PropertiesAreFound → (keys : List Key) (key : Key) → Contains keys key ⊎ (¬ Contains keys key)
held_or_not found [] key = inr (λ held. held-nothing key held)
held_or_not found (k ∷ keys) key = by (same_or_not found k key) (held_or_not found keys key)
  where
    by : (k ≡ key) ⊎ (k ≢ key) → Contains keys key ⊎ (¬ Contains keys key) → Contains (k ∷ keys) key ⊎ (¬ Contains (k ∷ keys) key)
    by (inl here) rest = inl (subst (Contains (k ∷ keys)) here (held-here k keys))
    by (inr apart) (inl later) = inl (held-later k keys key later)
    by (inr apart) (inr none) = inr (λ held. elim (held-cons k keys key held) [ inl here ↦ apart here | inr later ↦ none later ])

module _ (e : AnElement) (v : Key → Outcome Token Typed) where
  abbrev Invalid : Key → Reported → Type 0
  Invalid key cause = IsInvalid e v key (cause_of cause)

  -- the faults of these keys
  pub record TellsOf (keys : List Key) : Type 0 where
    pub faults : Faults
    pub told : (key : Key) (cause : Reported) → Contains faults (key, cause) ↔ (Contains keys key × IsInvalid e v key (cause_of cause))
    pub once : IsOnce faults

  none_told : TellsOf []
  none_told = record {
    faults = [];
    told = λ key cause. ((λ held. absurd (held-nothing (key, cause) held)), (λ both. absurd (held-nothing key both.0)));
    once = λ i j key one other at_i at_j. absurd (let clash : None ≡ Some (key, one) = at_i in cc);
  }

  -- one more key, whose faults are told already
  stays : (k : Key) (keys : List Key) (t : TellsOf keys) → ((cause : Reported) → Invalid k cause → Contains keys k) → TellsOf (k ∷ keys)
  stays k keys t covered = record {
    faults = t.faults;
    told = λ key cause. (
      (λ held. let both = (t.told key cause).0 held in (held-later k keys key both.0, both.1)),
      (λ both. (t.told key cause).1 (by key cause both.1 (held-cons k keys key both.0), both.1)),
    );
    once = t.once;
  }
    where
      by : (key : Key) (cause : Reported) → Invalid key cause → (k ≡ key) ⊎ Contains keys key → Contains keys key
      by key cause is (inl here) = subst (Contains keys) here (covered cause (subst (λ x. Invalid x cause) (sym here) is))
      by key cause is (inr later) = later

  -- one more key, with its one cause
  module _ (k : Key) (keys : List Key) (t : TellsOf keys) (unheld : ¬ Contains keys k) (r : Reported) (holds : Invalid k r) (only : (cause : Reported) → Invalid k cause → cause ≡ r) where
    abbrev more : Faults
    more = (k, r) ∷ t.faults

    forth : (key : Key) (cause : Reported) → (◌≡◌ {A = Key × Reported} (k, r) (key, cause)) ⊎ Contains t.faults (key, cause) → Contains (k ∷ keys) key × Invalid key cause
    forth key cause (inl here) = subst (λ (x : Key × Reported). Contains (k ∷ keys) x.0 × Invalid x.0 x.1) here (held-here k keys, holds)
    forth key cause (inr later) = let both = (t.told key cause).0 later in (held-later k keys key both.0, both.1)

    back : (key : Key) (cause : Reported) → (k ≡ key) ⊎ Contains keys key → Invalid key cause → Contains more (key, cause)
    back key cause (inl here) is =
        let is_r : cause ≡ r = only cause (subst (λ x. Invalid x cause) (sym here) is) in
        subst (λ x. Contains more (x, cause)) here (subst (λ c. Contains more (k, c)) (sym is_r) (held-here (k, r) t.faults))
    back key cause (inr later) is = held-later (k, r) t.faults (key, cause) ((t.told key cause).1 (later, is))

    elsewhere : {P : Type 0} (i : ℕ) (key : Key) (cause : Reported) → k ≡ key → slice_get t.faults i ≡ Some (key, cause) → P
    elsewhere i key cause here is = absurd (unheld (subst (Contains keys) (sym here) ((t.told key cause).0 (held-at t.faults i (key, cause) is)).0))

    once-more : IsOnce more
    once-more zero zero key one other at_i at_j = refl
    once-more zero (suc j) key one other at_i at_j =
        let first : ◌≡◌ {A = Key × Reported} (k, r) (key, one) = cc in elsewhere j key other (ap (λ (x : Key × Reported). x.0) first) at_j
    once-more (suc i) zero key one other at_i at_j =
        let first : ◌≡◌ {A = Key × Reported} (k, r) (key, other) = cc in elsewhere i key one (ap (λ (x : Key × Reported). x.0) first) at_i
    once-more (suc i) (suc j) key one other at_i at_j = ap suc (t.once i j key one other at_i at_j)

    grows : TellsOf (k ∷ keys)
    grows = record {
      faults = more;
      told = λ key cause. (
        (λ held. forth key cause (held-cons (k, r) t.faults (key, cause) held)),
        (λ both. back key cause (held-cons k keys key both.0) both.1),
      );
      once = once-more;
    }

  module _ (found : PropertiesAreFound) (reported_cause : (p : Key) (cause : Cause Key) → IsInvalid e v p cause → (told : Reported) × (cause_of told ≡ cause)) (one_or_none : (p : Key) → HasOneCause e v p ⊎ ((cause : Cause Key) → ¬ IsInvalid e v p cause)) where
    with_cause : (k : Key) (keys : List Key) → TellsOf keys → ¬ Contains keys k → HasOneCause e v k → TellsOf (k ∷ keys)
    with_cause k keys t unheld has =
        let report = reported_cause k has.cause has.holds in
        grows k keys t unheld report.0 (subst (IsInvalid e v k) (sym report.1) has.holds)
        (λ cause is. cause_of-injective cause report.0 (has.only (cause_of cause) is ∙ sym report.1))

    pub tells : (keys : List Key) → TellsOf keys
    tells [] = none_told
    tells (k ∷ keys) = by (held_or_not found keys k) (one_or_none k) (tells keys)
      where
        by : Contains keys k ⊎ (¬ Contains keys k) → HasOneCause e v k ⊎ ((cause : Cause Key) → ¬ IsInvalid e v k cause) → TellsOf keys → TellsOf (k ∷ keys)
        by (inl held) causes t = stays k keys t (λ cause is. held)
        by (inr unheld) (inl has) t = with_cause k keys t unheld has
        by (inr unheld) (inr none) t = stays k keys t (λ cause is. absurd (none (cause_of cause) is))
