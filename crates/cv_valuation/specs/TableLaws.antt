-- What the table of properties keeps.
use Rattle.std.specs.Prelude.{ℕ, ◌≡◌, ◌<◌, ◌≤◌, Some, None, IsSome}
use Rattle.cv_property.specs.declared.property.Property.{Property}
use Rattle.cv_property.specs.Table.{name_of, number_of, numbered}
use Rattle.cv_valuation.specs.declared.key.Key.TheVariants.{Table}
use Rattle.cv_valuation.specs.Keys.{key_named}

-- Each property has a number of its own and a name of its own, and is found by them.
pub record PropertiesAreFound : Type 0 where
  pub numbered_so : (property : Property) → numbered (number_of property) ≡ Some property
  pub one_number : (number : ℕ) (property : Property) → numbered number ≡ Some property → number_of property ≡ number
  pub numbered_below : (number : ℕ) → number < 35 → IsSome (numbered number)
  pub none_past : (number : ℕ) → 35 ≤ number → numbered number ≡ None
  pub named_so : (property : Property) → key_named (name_of property) ≡ Some (Table property)
