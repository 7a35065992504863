-- A list of what is computed anew, which has nothing where an element is as before.
use Rattle.std.specs.Prelude.{ℕ, zero, suc, List, [], ◌∷◌, Option, Some, None, slice_set}
use Rattle.std.specs.List.{slice_get}
use Rattle.cv_valuation.specs.declared.computed.Computed.{Computed}

-- so many elements of which nothing is computed anew
abbrev pub nothing : ℕ → List (Option Computed)
nothing zero = []
nothing (suc n) = None ∷ nothing n

abbrev pub inner : Option (Option Computed) → Option Computed
inner None = None
inner (Some computed) = computed

-- what is computed anew at a place, if anything
abbrev pub fresh_at : List (Option Computed) → ℕ → Option Computed
fresh_at fresh place = inner (slice_get fresh place)

-- the list with what is computed anew at a place, if anything is
abbrev pub put_one : List Computed → ℕ → Option Computed → List Computed
put_one all place None = all
put_one all place (Some computed) = slice_set all place computed
