-- Something is computed of each element that is in range: the values of the one valuation, and the causes that hold in it.
use Rattle.std.proofs.Common.{◌≡◌, ℕ, None, Option, map, ◌↔◌, ◌⊎◌, sym, subst}
use Rattle.std.specs.Prelude.{Contains, IsSome}
use Rattle.std.specs.Map.{keys_of}
use Rattle.cv_spec_text.specs.declared.token.Token.{Token}
use Rattle.cv_value.specs.declared.typed.Typed.{Typed}
use Rattle.cv_spec_element.specs.Element.{Outcome}
use Rattle.cv_spec_element.specs.Dependencies.{undeclared_value}
use Rattle.cv_spec_element.specs.Valuation.{Cause, IsInvalid, IsValuation, HasOneCause}
use Rattle.cv_valuation.specs.declared.computed.Cause.{Cause as Reported}
use Rattle.cv_valuation.specs.declared.computed.Computed.{Computed}
use Rattle.cv_valuation.specs.declared.key.Key.{Key}
use Rattle.cv_valuation.specs.TableLaws.{PropertiesAreFound}
use Rattle.cv_valuation.specs.Valuations.{Values}
use Rattle.cv_valuation.specs.ValuationLaws.{OutcomesAreByKey}
use Rattle.cv_props.specs.Registered.{Registered}
use Rattle.cv_props.specs.Winners.{Declarations}
use Rattle.cv_spec_valuation.specs.declared.place.Place.{Place}
use Rattle.cv_spec_valuation.specs.Element.{the_element, values_of}
use Rattle.cv_spec_valuation.specs.Computed.{cause_of, Faults, IsReported, IsComputed, IsInRange}
use Rattle.cv_element.specs.FaultNames.{named, fault_of}
use Rattle.cv_element.specs.Values.{AnElement}
use Rattle.cv_element.proofs.Sorting.{same, ordered, once-permutation, told-permutation}
use Rattle.cv_element_laws.proofs.Filling.{filled, values_are}
use Rattle.cv_element_laws.proofs.Ranking.{ranked, ranked_is_sorted, ranked_permutes}
use Rattle.cv_element_laws.proofs.Reading.{reported_cause}
use Rattle.cv_element_laws.proofs.Telling.{TellsOf, tells}

module _ (registered : Registered) (decls : Declarations) (parent : Option Values) (place : Place) (most : ℕ) where
  abbrev e : AnElement
  e = the_element registered decls parent place most

  -- what is known of a valuation of the element
  pub record Known (v : Key → Outcome Token Typed) : Type 0 where
    pub solves : IsValuation e v
    pub undeclared : (p : Key) → e.declarations.pieces p ≡ None → v p ≡ undeclared_value e p
    pub declared : (p : Key) (cause : Cause Key) → IsInvalid e v p cause → IsSome (e.declarations.pieces p)
    pub one_or_none : (p : Key) → HasOneCause e v p ⊎ ((cause : Cause Key) → ¬ IsInvalid e v p cause)
    pub listed : (p : Key) → IsSome (e.declarations.pieces p) → Contains (keys_of decls) p

  module _ (found : PropertiesAreFound) (by_key : OutcomesAreByKey) (v : Key → Outcome Token Typed) (known : Known v) where
    t : TellsOf e v (keys_of decls)
    t = tells e v found (reported_cause registered decls parent place most v) known.one_or_none (keys_of decls)

    sorted : Faults
    sorted = map fault_of (ranked (map named t.faults))

    values : Values
    values = filled registered decls parent place most found by_key v known.listed known.undeclared

    values_same : values_of values ≡ v
    unfolding values
    values_same = values_are registered decls parent place most found by_key v known.listed known.undeclared

    told_all : (key : Key) (cause : Reported) → Contains t.faults (key, cause) ↔ IsInvalid e v key (cause_of cause)
    told_all key cause = (
      (λ held. ((t.told key cause).0 held).1),
      (λ is. (t.told key cause).1 (known.listed key (known.declared key (cause_of cause) is), is)),
    )

    faults_sorted : (key : Key) (cause : Reported) → Contains sorted (key, cause) ↔ IsInvalid e v key (cause_of cause)
    unfolding sorted
    faults_sorted = told-permutation {P = λ key cause. IsInvalid e v key (cause_of cause)} t.faults (map fault_of (ranked (map named t.faults))) (same t.faults (ranked (map named t.faults)) (ranked_permutes (map named t.faults))) told_all

    told_sorted : (key : Key) (cause : Cause Key) → IsInvalid e v key cause → IsReported sorted key cause
    told_sorted key cause is =
        let report = reported_cause registered decls parent place most v key cause is in
        (report.0, report.1, (faults_sorted key report.0).1 (subst (IsInvalid e v key) (sym report.1) is))

    pub existing : Computed
    existing = record { values = values; faults = sorted }

    pub existing_is_computed : IsInRange registered decls parent place most → IsComputed registered decls parent place most existing
    unfolding existing sorted
    existing_is_computed in_range = record {
      solves = subst (IsValuation e) (sym values_same) known.solves;
      faults = λ key cause. subst (λ w. Contains sorted (key, cause) ↔ IsInvalid e w key (cause_of cause)) (sym values_same) (faults_sorted key cause);
      told = λ key cause is. told_sorted key cause (subst (λ w. IsInvalid e w key cause) values_same is);
      once = once-permutation t.faults (map fault_of (ranked (map named t.faults))) (same t.faults (ranked (map named t.faults)) (ranked_permutes (map named t.faults))) t.once;
      ordered = ordered t.faults (ranked (map named t.faults)) (ranked_permutes (map named t.faults)) (ranked_is_sorted (map named t.faults));
      in_range = in_range;
    }
