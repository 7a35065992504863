-- What is computed of an element.
use Rattle.std.specs.Prelude.{ℕ, ◌≡◌, ◌≢◌, ◌<◌, ◌↔◌, true, false, List, Option, Some, None, Contains, slice_get}
use Rattle.std.specs.Ordering.{nat_cmp}
use Rattle.std.specs.declared.cmp.Ordering.TheVariants.{Greater}
use Rattle.std.specs.Cmp.Lexicographic.{slice_cmp}
use Rattle.cv_spec_text.specs.declared.token.Token.{Token}
use Rattle.cv_value.specs.declared.typed.Typed.{Typed}
use Rattle.cv_spec_element.specs.Element.{Outcome}
use Rattle.cv_spec_element.specs.Valuation.{Cause, cycle, missing, limit, mismatch, IsInvalid, IsValuation}
use Rattle.cv_spec_element.specs.Valuation as valuation
use Rattle.cv_valuation.specs.declared.computed.Cause.{Cause as Reported}
use Rattle.cv_valuation.specs.declared.computed.Cause.TheVariants as reported
use Rattle.cv_valuation.specs.declared.computed.Computed.{Computed}
use Rattle.cv_valuation.specs.declared.key.Key.{Key}
use Rattle.cv_valuation.specs.declared.key.Key.TheVariants.{Custom}
use Rattle.cv_valuation.specs.declared.outcome.Outcome.{Outcome as Kept}
use Rattle.cv_valuation.specs.declared.outcome.Outcome.TheVariants as kept
use Rattle.cv_valuation.specs.Keys.{key_text}
use Rattle.cv_valuation.specs.Valuations.{Values, MayKeep, outcome_at}
use Rattle.cv_props.specs.Registered.{Registered}
use Rattle.cv_props.specs.Winners.{Declarations}
use Rattle.cv_spec_valuation.specs.declared.place.Place.{Place}
use Rattle.cv_spec_valuation.specs.Registered.{is_loose}
use Rattle.cv_spec_valuation.specs.Element.{the_element, values_of}

-- the cause as the equations name it
abbrev pub cause_of : Reported → Cause Key
cause_of reported.Cycle = cycle
cause_of (reported.Missing name) = missing (Custom name)
cause_of (reported.Limit count) = limit count
cause_of reported.Mismatch = mismatch

abbrev pub Faults : Type 0
Faults = List (Key × Reported)

-- each key stands in the list once
abbrev pub IsOnce : Faults → Type 0
IsOnce faults = (i j : ℕ) (key : Key) (one other : Reported) → slice_get faults i ≡ Some (key, one) → slice_get faults j ≡ Some (key, other) → i ≡ j

-- The keys come in byte order of their names as the report writes them (this project's own).
abbrev pub IsByName : Faults → Type 0
IsByName faults = (i j : ℕ) (first second : Key) (one other : Reported) → i < j → slice_get faults i ≡ Some (first, one) → slice_get faults j ≡ Some (second, other) → slice_cmp nat_cmp (key_text first) (key_text second) ≢ Greater

-- the cause is in the list, with this key
abbrev pub IsReported : Faults → Key → Cause Key → Type 0
IsReported faults key cause = (told : Reported) × (cause_of told ≡ cause) × Contains faults (key, told)

-- a loose name has tokens or the guaranteed-invalid value, any other property a typed value
abbrev pub IsOfKind : Registered → Key → Kept → Type 0
IsOfKind registered key (kept.Tokens list) = is_loose registered key ≡ true
IsOfKind registered key (kept.Value value) = is_loose registered key ≡ false
IsOfKind registered key kept.Invalid = is_loose registered key ≡ true

-- the outcome may be kept for the key, and is of its kind
abbrev pub MayStand : Registered → Key → Kept → Type 0
MayStand registered key outcome = MayKeep key outcome × IsOfKind registered key outcome

-- the values stand under the registry
abbrev pub StandUnder : Registered → Values → Type 0
StandUnder registered values = (key : Key) → MayStand registered key (outcome_at values key)

abbrev pub ParentStandsUnder : Registered → Option Values → Type 0
ParentStandsUnder registered None = Unit {0}
ParentStandsUnder registered (Some values) = StandUnder registered values

module _ (registered : Registered) (decls : Declarations) (parent : Option Values) (place : Place) (most : ℕ) where
  -- in the valuation of the element, the property isn't invalid and is out of range (this project's own)
  abbrev pub IsOutOfRange : Key → Type 0
  IsOutOfRange key = (values : Key → Outcome Token Typed) × IsValuation (the_element registered decls parent place most) values × valuation.IsOutOfRange (the_element registered decls parent place most) values key

  -- no property of the element is out of range
  abbrev pub IsInRange : Type 0
  IsInRange = (key : Key) → ¬ IsOutOfRange key

  -- what is computed of the element
  pub record IsComputed (computed : Computed) : Type 0 where
    -- the values solve the equations
    pub solves : IsValuation (the_element registered decls parent place most) (values_of computed.values)
    -- the list tells which properties are invalid at computed-value time, and why
    pub faults : (key : Key) (cause : Reported) → Contains computed.faults (key, cause) ↔ IsInvalid (the_element registered decls parent place most) (values_of computed.values) key (cause_of cause)
    -- it leaves none out
    pub told : (key : Key) (cause : Cause Key) → IsInvalid (the_element registered decls parent place most) (values_of computed.values) key cause → IsReported computed.faults key cause
    pub once : IsOnce computed.faults
    pub ordered : IsByName computed.faults
    pub in_range : IsInRange
