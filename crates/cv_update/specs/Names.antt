-- The properties whose changes are told: the custom ones that a document counts and all ordinary ones, by their names (this project's own).
use Rattle.std.specs.Prelude.{ℕ, ◌≡◌, ◌≢◌, ◌<◌, List, ◌++◌, chars, encode_utf8_all, map, Some, slice_get}
use Rattle.std.specs.Ordering.{nat_cmp}
use Rattle.std.specs.declared.cmp.Ordering.TheVariants.{Greater}
use Rattle.std.specs.Cmp.Lexicographic.{slice_cmp}
use Rattle.std.specs.List.Sorted.{IsPermutation}
use Rattle.cv_property.specs.Table.{properties}
use Rattle.cv_valuation.specs.declared.key.Key.{Key}
use Rattle.cv_valuation.specs.declared.key.Key.TheVariants.{Custom, Table}
use Rattle.cv_valuation.specs.Keys.{key_text}
use Rattle.cv_update.specs.declared.names.Named.{Named}

abbrev pub key_of : Named → Key
key_of named = named.key

-- the text is the key's name as the report writes it
abbrev pub IsNamed : Named → Type 0
IsNamed named = named.text ≡ chars (key_text named.key)

-- the bytes of the text are those that the report writes
abbrev pub IsSpelled : Named → Type 0
IsSpelled named = encode_utf8_all named.text ≡ key_text named.key

-- these custom properties, and all ordinary ones
abbrev pub told_keys : List (List ℕ) → List Key
told_keys custom = map Custom custom ++ map Table properties

-- the keys come in byte order of their names as the report writes them
abbrev pub IsByName : List Key → Type 0
IsByName keys = (i j : ℕ) (first second : Key) → i < j → slice_get keys i ≡ Some first → slice_get keys j ≡ Some second → slice_cmp nat_cmp (key_text first) (key_text second) ≢ Greater

-- these are the properties whose changes are told, in the order in which they are
pub record AreTold (custom : List (List ℕ)) (keys : List Key) : Type 0 where
  pub all : IsPermutation (told_keys custom) keys
  pub by_name : IsByName keys
