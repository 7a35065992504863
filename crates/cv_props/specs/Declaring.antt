-- What an element's declarations keep.
use Rattle.std.specs.Prelude.{ℕ, ◌≡◌, true, not, ◌&&◌, slice_get, if◌then◌else◌, Bool, false, Option, Some, None}
use Rattle.indexmap.specs.IndexMap.{insert_entry}
use Rattle.cv_props.specs.declared.decls.Decl.{Decl}
use Rattle.cv_valuation.specs.declared.key.Key.{Key}
use Rattle.cv_valuation.specs.Keys.{same_key, is_key}
use Rattle.cv_props.specs.Kept.{may_be_value}
use Rattle.cv_props.specs.Winners.{Declarations, declaration_of}

-- The declaration may be kept: its key is a custom name, or an ordinary property of which it is a value. That its value is checked is part
-- of a `Declared`.
abbrev pub MayDeclare : Key → Decl → Type 0
MayDeclare key declaration = (is_key key ≡ true) × (may_be_value key declaration.value ≡ true)

abbrev pub IsDeclaredEntry : Key × Decl → Type 0
IsDeclaredEntry (key, declaration) = MayDeclare key declaration

-- a declaration of the key stands at this place
abbrev pub IsPlaceOf : Declarations → Key → ℕ → Type 0
IsPlaceOf declarations key place = (declaration : Decl) × (slice_get declarations place ≡ Some (key, declaration))

abbrev pub is_important : Option Decl → Bool
is_important None = false
is_important (Some declaration) = declaration.important

-- One more declaration is kept: it wins unless an important one stands there and it isn't important.
abbrev pub with_declaration : Declarations → Key → Decl → Declarations
with_declaration declarations key declaration =
    if not declaration.important && is_important (declaration_of declarations key) then declarations
    else insert_entry same_key declarations key declaration
