-- What is computed of an element is single.
use Rattle.std.proofs.Common.{◌≡◌, ℕ, Option, sym, ◌∙◌, subst}
use Rattle.cv_spec_element.specs.Valuation.{HasOneValuation, IsInvalid}
use Rattle.cv_valuation.specs.declared.computed.Cause.{Cause as Reported}
use Rattle.cv_valuation.specs.declared.computed.Computed.{Computed}
use Rattle.cv_valuation.specs.declared.key.Key.{Key}
use Rattle.cv_valuation.specs.TableLaws.{PropertiesAreFound}
use Rattle.cv_valuation.specs.Valuations.{Values, outcome_at}
use Rattle.cv_valuation.specs.ValuationLaws.{OutcomesAreByKey}
use Rattle.cv_props.specs.Registered.{Registered}
use Rattle.cv_props.specs.Winners.{Declarations}
use Rattle.cv_spec_valuation.specs.declared.place.Place.{Place}
use Rattle.cv_spec_valuation.specs.Element.{the_element, values_of}
use Rattle.cv_spec_valuation.specs.Computed.{cause_of, IsComputed}
use Rattle.cv_spec_valuation.specs.Single.{HasOneResult, TellsTheSame}
use Rattle.cv_element.specs.Values.{AnElement}
use Rattle.cv_element_laws.proofs.Existing.{Known, existing, existing_is_computed}
use Rattle.cv_element_laws.proofs.Reading.{as_read-injective}

module _ (registered : Registered) (decls : Declarations) (parent : Option Values) (place : Place) (most : ℕ) (by_key : OutcomesAreByKey) (one : HasOneValuation (the_element registered decls parent place most)) where
  abbrev e : AnElement
  e = the_element registered decls parent place most

  module _ (a b : Computed) (is_a : IsComputed registered decls parent place most a) (is_b : IsComputed registered decls parent place most b) where
    same_values : b.values ≡ a.values
    same_values = by_key.same b.values a.values (λ key. as_read-injective (outcome_at b.values key) (outcome_at a.values key) (one.only (values_of b.values) is_b.solves key ∙ sym (one.only (values_of a.values) is_a.solves key)))

    abbrev Invalid : Key → Reported → Values → Type 0
    Invalid key cause values = IsInvalid e (values_of values) key (cause_of cause)

    pub tells_the_same : TellsTheSame a b
    tells_the_same = record {
      values = same_values;
      faults = λ key cause. (
        λ held. (is_a.faults key cause).1 (subst (Invalid key cause) same_values ((is_b.faults key cause).0 held)),
        λ held. (is_b.faults key cause).1 (subst (Invalid key cause) (sym same_values) ((is_a.faults key cause).0 held)),
      );
    }

  pub has_one_result : PropertiesAreFound → Known registered decls parent place most one.valuation → HasOneResult registered decls parent place most
  has_one_result found known = record {
    some = λ in_range. (existing registered decls parent place most found by_key one.valuation known, existing_is_computed registered decls parent place most found by_key one.valuation known in_range);
    only = tells_the_same;
  }
