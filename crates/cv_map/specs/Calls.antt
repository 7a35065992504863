-- How a call of a property map answers (Typed OM 1, "The StylePropertyMap").
use Rattle.std.specs.Prelude.{◌≡◌, Option, Some, None, Result, Ok, Err}
use Rattle.cv_valuation.specs.declared.key.Key.{Key}
use Rattle.cv_map.specs.declared.error.MapErr.{MapErr}
use Rattle.cv_map.specs.declared.error.MapErr.TheVariants.{NoProperty, BadValue, NotList, Memory}

-- what is asked of the key of a name; a name of no property has none
abbrev pub of_key : {A : Type 0} → (Key → A) → Option Key → Result A MapErr
of_key answer None = Err NoProperty
of_key answer (Some key) = Ok (answer key)

-- a call that should answer so is refused for this reason; want of memory is free
abbrev pub IsRefused : {A : Type 0} → Result A MapErr → MapErr → Type 0
IsRefused answer NoProperty = answer ≡ Err NoProperty
IsRefused answer BadValue = answer ≡ Err BadValue
IsRefused answer NotList = answer ≡ Err NotList
IsRefused answer Memory = Unit {0}
