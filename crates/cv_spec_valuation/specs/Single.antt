-- What is computed of an element is single (this project's own).
use Rattle.std.specs.Prelude.{ℕ, ◌≡◌, ◌↔◌, Option, Contains}
use Rattle.cv_valuation.specs.declared.computed.Cause.{Cause}
use Rattle.cv_valuation.specs.declared.computed.Computed.{Computed}
use Rattle.cv_valuation.specs.declared.key.Key.{Key}
use Rattle.cv_valuation.specs.Valuations.{Values}
use Rattle.cv_props.specs.Registered.{Registered}
use Rattle.cv_props.specs.Winners.{Declarations}
use Rattle.cv_spec_valuation.specs.declared.place.Place.{Place}
use Rattle.cv_spec_valuation.specs.Computed.{IsInRange, IsComputed}

-- The values are the same, and the same properties are invalid with the same causes.
pub record TellsTheSame (one other : Computed) : Type 0 where
  pub values : other.values ≡ one.values
  pub faults : (key : Key) (cause : Cause) → Contains other.faults (key, cause) ↔ Contains one.faults (key, cause)

-- Something is computed of the element if it is in range, and nothing else is.
pub record HasOneResult (registered : Registered) (decls : Declarations) (parent : Option Values) (place : Place) (most : ℕ) : Type 0 where
  pub some : IsInRange registered decls parent place most → (computed : Computed) × IsComputed registered decls parent place most computed
  pub only : (one other : Computed) → IsComputed registered decls parent place most one → IsComputed registered decls parent place most other → TellsTheSame one other
