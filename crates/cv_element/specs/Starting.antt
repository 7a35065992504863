-- The values of an element before a declaration is looked at. The contracts of the private functions cite it.
use Rattle.std.specs.Prelude.{ℕ, ◌≡◌, ◌≢◌, ◌<◌, Bool, true, not, ◌||◌, if◌then◌else◌, List, Option, Some, None, slice_get}
use Rattle.cv_property.specs.Table.{inherits, initial_of}
use Rattle.cv_valuation.specs.declared.key.Key.{Key}
use Rattle.cv_valuation.specs.declared.key.Key.TheVariants.{Custom, Table}
use Rattle.cv_valuation.specs.declared.outcome.Outcome.{Outcome}
use Rattle.cv_valuation.specs.declared.outcome.Outcome.TheVariants.{Value, Invalid}
use Rattle.cv_valuation.specs.Valuations.{Values, outcome_at}
use Rattle.cv_props.specs.declared.entry.Entry.{Entry}
use Rattle.cv_props.specs.Registered.{Registered}

-- the parent's value of a custom property, and that of an ordinary one that inherits; on the root the initial one of an ordinary property
abbrev pub base_at : Option Values → Key → Outcome
base_at None (Custom name) = Invalid
base_at None (Table property) = Value (initial_of property)
base_at (Some values) (Custom name) = outcome_at values (Custom name)
base_at (Some values) (Table property) = if inherits property then outcome_at values (Table property) else Value (initial_of property)

-- the name has its initial value
abbrev pub resets : Bool → Entry → Bool
resets all entry = all || not entry.inherits

-- the first so many names of the registry have their initial values, if they are such names, and nothing else changed
pub record AreReset (registered : Registered) (all : Bool) (count : ℕ) (before after : Values) : Type 0 where
  pub here : (i : ℕ) (name : List ℕ) (entry : Entry) → i < count → slice_get registered i ≡ Some (name, entry) → resets all entry ≡ true → outcome_at after (Custom name) ≡ entry.initial
  pub elsewhere : (key : Key) → ((i : ℕ) (name : List ℕ) (entry : Entry) → i < count → slice_get registered i ≡ Some (name, entry) → resets all entry ≡ true → key ≢ Custom name) → outcome_at after key ≡ outcome_at before key
