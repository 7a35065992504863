-- Which of an element's kept declarations win (Cascading and Inheritance 4, "Cascade Sorting Order": importance,
-- then order of appearance).
use Rattle.std.specs.Prelude.{Bool, ◌&&◌, not, List, [], ◌∷◌, filter, Option, Some, None, option_map, if◌then◌else◌}
use Rattle.std.specs.List.{filter_map}
use Rattle.std.specs.Map.{lookup}
use Rattle.cv_props.specs.declared.decls.Decl.{Decl}
use Rattle.cv_valuation.specs.declared.key.Key.{Key}
use Rattle.cv_valuation.specs.Keys.{same_key}

-- keys and their declarations, in order
abbrev pub Declarations : Type 0
Declarations = List (Key × Decl)

-- the declaration of a key, if there is one
abbrev pub declaration_of : Declarations → Key → Option Decl
declaration_of declarations key = lookup (same_key key) declarations

abbrev pub is_of : Key → Key × Decl → Bool
is_of key (other, declaration) = same_key key other

abbrev pub is_important_of : Key → Key × Decl → Bool
is_important_of key (other, declaration) = same_key key other && declaration.important

-- the first if there is one, else the second
abbrev pub first_or : Option Decl → Option Decl → Option Decl
first_or None second = second
first_or (Some first) second = Some first

-- the last declaration that passes the test
abbrev pub last_such : (Key × Decl → Bool) → Declarations → Option Decl
last_such test [] = None
last_such test ((key, declaration) ∷ rest) =
    first_or (last_such test rest) (if test (key, declaration) then Some declaration else None)

-- the winning declaration of a key: the last important one, else the last one
unfoldable pub winner : Declarations → Key → Option Decl
winner kept key = first_or (last_such (is_important_of key) kept) (last_such (is_of key) kept)

-- the keys, each at the place at which it was first kept
abbrev pub keys_kept : Declarations → List Key
keys_kept [] = []
keys_kept ((key, declaration) ∷ rest) = key ∷ filter (λ other. not (same_key key other)) (keys_kept rest)

-- a key with its winning declaration
abbrev pub with_winner : Declarations → Key → Option (Key × Decl)
with_winner kept key = option_map (λ declaration. (key, declaration)) (winner kept key)

-- the keys in the order in which they were first kept, each with its winning declaration
unfoldable pub winners : Declarations → Declarations
winners kept = filter_map (with_winner kept) (keys_kept kept)
