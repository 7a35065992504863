-- Outcomes of ordinary properties in two rows: one of those that inherit, and one of the others.
use Rattle.std.specs.Prelude.{ℕ, ◌-◌, nat_lt, if◌then◌else◌, List, ◌++◌, map, slice_get, unwrap_or}
use Rattle.cv_property.specs.Table.{number_of, properties}
use Rattle.cv_valuation.specs.declared.key.Key.{Key}
use Rattle.cv_valuation.specs.declared.key.Key.TheVariants.{Custom, Table}
use Rattle.cv_valuation.specs.declared.outcome.Outcome.{Outcome}
use Rattle.cv_valuation.specs.declared.outcome.Outcome.TheVariants.{Invalid}
use Rattle.cv_valuation.specs.declared.trie.Trie.{Trie}
use Rattle.cv_valuation.specs.Tries.{keys_in, outcome_in}
use Rattle.cv_valuation.specs.Valuations.{Values, MayKeep, valuation_of}

-- the outcome at a place of a row; past its end it is invalid
abbrev pub in_row : List Outcome → ℕ → Outcome
in_row row place = unwrap_or (slice_get row place) Invalid

-- the properties that inherit have the numbers below 7
abbrev pub place_of : ℕ → ℕ
place_of number = if nat_lt number 7 then number else number - 7

abbrev pub row_of : List Outcome → List Outcome → ℕ → List Outcome
row_of inherited own number = if nat_lt number 7 then inherited else own

-- the outcome of a key
abbrev pub outcome_by : Trie → List Outcome → List Outcome → Key → Outcome
outcome_by custom inherited own (Custom name) = outcome_in custom (Custom name)
outcome_by custom inherited own (Table property) = in_row (row_of inherited own (number_of property)) (place_of (number_of property))

-- the values of the keys
abbrev pub values_by : Trie → List Outcome → List Outcome → Values
values_by custom inherited own = valuation_of (map (λ key. (key, outcome_by custom inherited own key)) (keys_in custom ++ map Table properties))

abbrev pub AreKeptBy : Trie → List Outcome → List Outcome → Type 0
AreKeptBy custom inherited own = (key : Key) → MayKeep key (outcome_by custom inherited own key)
