-- Keys: the names of custom properties, and the ordinary properties.
use Rattle.std.specs.Prelude.{ℕ, Bool, true, false, List, [], ◌∷◌, Option, Some, option_map, if◌then◌else◌, encode_utf8_all}
use Rattle.std.specs.Ordering.{nat_cmp}
use Rattle.std.specs.Cmp.Lexicographic.{slice_cmp}
use Rattle.std.specs.Hash as fed
use Rattle.std.specs.Hash.{HashWrites}
use Rattle.std.specs.declared.cmp.Ordering.{Ordering}
use Rattle.cv_spec_text.specs.Characters.{same_text}
use Rattle.cv_spec_text.specs.Keywords.{is_custom}
use Rattle.cv_spec_text.specs.Printing.{bytes}
use Rattle.cv_spec_text.specs.declared.token.Token.TheVariants.{Ident}
use Rattle.cv_valuation.specs.declared.key.Key.{Key}
use Rattle.cv_valuation.specs.declared.key.Key.TheVariants.{Custom, Table}
use Rattle.cv_property.specs.Table.{name_of, number_of, property_named}

-- a list of numbers that tells a key from every other
abbrev pub code_of : Key → List ℕ
code_of (Custom name) = 0 ∷ name
code_of (Table property) = 1 ∷ number_of property ∷ []

-- the two keys are the same
abbrev pub same_key : Key → Key → Bool
same_key a b = same_text (code_of a) (code_of b)

-- what a hasher is fed for a key
abbrev pub key_input : Key → HashWrites
key_input (Custom name) = fed.str (encode_utf8_all name)
key_input (Table property) = fed.usize (number_of property)

-- the key is the name of a custom property, or an ordinary property
abbrev pub is_key : Key → Bool
is_key (Custom name) = is_custom name
is_key (Table property) = true

abbrev pub is_custom_key : Key → Bool
is_custom_key (Custom name) = is_custom name
is_custom_key (Table property) = false

-- an order of the keys
abbrev pub key_cmp : Key → Key → Ordering
key_cmp a b = slice_cmp nat_cmp (code_of a) (code_of b)

-- the key of this name, if it is the name of a custom property or, without ASCII case, of an ordinary one
unfoldable pub key_named : List ℕ → Option Key
key_named name = if is_custom name then Some (Custom name) else option_map Table (property_named name)

-- The name as the report writes it: an identifier (CSSOM, "Serialize an identifier"), or the property's name, which is one.
abbrev pub key_text : Key → List ℕ
key_text (Custom name) = bytes (Ident name ∷ [])
key_text (Table property) = name_of property
