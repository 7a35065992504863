-- What a property is set to (Typed OM 1, "The StylePropertyMap"; CSS Syntax 3, "Consume a declaration").
use Rattle.std.specs.Prelude.{ℕ, Bool, false, ◌&&◌, is_none, List, Option, Some, None, Result, Ok, Err, if◌then◌else◌}
use Rattle.indexmap.specs.IndexMap.{insert_entry}
use Rattle.cv_spec_text.specs.Text.{preprocessed}
use Rattle.cv_spec_text.specs.Tokens.{tokens_of}
use Rattle.cv_spec_text.specs.declared.token.Token.{Token}
use Rattle.cv_component.specs.Items.{declared_value}
use Rattle.cv_valuation.specs.declared.key.Key.{Key}
use Rattle.cv_valuation.specs.Keys.{same_key}
use Rattle.cv_props.specs.declared.decls.Decl.{Decl}
use Rattle.cv_props.specs.Kept.{may_be_value, value_fault}
use Rattle.cv_props.specs.Winners.{Declarations}
use Rattle.cv_map.specs.declared.error.MapErr.{MapErr}
use Rattle.cv_map.specs.declared.error.MapErr.TheVariants.{NoProperty, BadValue}

-- the list of a value that is given as characters: that of a declaration in a style, with `!important` at its end left in it
unfoldable pub value_in : List ℕ → List Token
value_in characters = declared_value (tokens_of (preprocessed characters))

-- a style would keep a declaration of the key by this list
abbrev pub declares : Key → List Token → Bool
declares key list = is_none (value_fault list) && may_be_value key list

abbrev pub list_if : Bool → List Token → Option (List Token)
list_if is list = if is then Some list else None

-- a declaration that isn't important
abbrev pub plain : List Token → Decl
plain list = record { value = list; important = false }

-- The key declared by the list, if there is one: in its place where it is declared, else last.
abbrev pub with_list : Declarations → Key → Option (List Token) → Result Declarations MapErr
with_list declarations key None = Err BadValue
with_list declarations key (Some list) = Ok (insert_entry same_key declarations key (plain list))

-- the declarations once the key is set
abbrev pub set_key : Declarations → List Token → Option Key → Result Declarations MapErr
set_key declarations value None = Err NoProperty
set_key declarations value (Some key) = with_list declarations key (list_if (declares key value) value)
