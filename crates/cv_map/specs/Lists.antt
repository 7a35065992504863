-- What is appended to a property whose values are lists (Typed OM 1, "The StylePropertyMap"). Such are the registered properties with a
-- syntax of one component that has `+` or `#` (Properties and Values API 1, "The multiplier characters").
use Rattle.std.specs.Prelude.{◌≡◌, Bool, ◌&&◌, ◌||◌, List, [], ◌∷◌, ◌++◌, Option, Some, None, Result, Err, if◌then◌else◌}
use Rattle.cv_spec_text.specs.declared.token.Token.{Token}
use Rattle.cv_spec_text.specs.declared.token.Token.TheVariants as token
use Rattle.cv_component.specs.Parts.{trim}
use Rattle.cv_calc.specs.declared.context.Context.{Context}
use Rattle.cv_property.specs.Grammar.{is_match}
use Rattle.cv_syntax.specs.declared.syntax.Many.{Many}
use Rattle.cv_syntax.specs.declared.syntax.Many.TheVariants.{One, Spaces, Commas}
use Rattle.cv_syntax.specs.declared.syntax.Syntax.{Syntax}
use Rattle.cv_syntax.specs.declared.syntax.Syntax.TheVariants.{Any, Of}
use Rattle.cv_value.specs.Matching.{matching}
use Rattle.cv_var.specs.References.{has_var}
use Rattle.cv_valuation.specs.declared.key.Key.{Key}
use Rattle.cv_valuation.specs.declared.key.Key.TheVariants.{Custom, Table}
use Rattle.cv_props.specs.declared.decls.Decl.{Decl}
use Rattle.cv_props.specs.declared.entry.Entry.{Entry}
use Rattle.cv_props.specs.Registered.{Registered, entry_of}
use Rattle.cv_props.specs.Registration.{viewport}
use Rattle.cv_props.specs.Winners.{Declarations, declaration_of}
use Rattle.cv_map.specs.declared.between.Between.{Between}
use Rattle.cv_map.specs.declared.between.Between.TheVariants.{White, Comma}
use Rattle.cv_map.specs.declared.error.MapErr.{MapErr}
use Rattle.cv_map.specs.declared.error.MapErr.TheVariants.{NoProperty, NotList}
use Rattle.cv_map.specs.Values.{declares, list_if, with_list}

-- ---- the list

abbrev pub between_many : Many → Option Between
between_many One = None
between_many Spaces = Some White
between_many Commas = Some Comma

-- what stands between the items of the values of a syntax, if these are lists
abbrev pub between_items : Syntax → Option Between
between_items (Of (component ∷ [])) = between_many component.many
between_items _ = None

abbrev pub between_tokens : Between → List Token
between_tokens White = token.White ∷ []
between_tokens Comma = token.Comma ∷ token.White ∷ []

-- the list of a declaration with a value behind it; the value alone where there is no declaration
abbrev pub appended : Between → Option Decl → List Token → List Token
appended between None value = value
appended between (Some declaration) value = declaration.value ++ between_tokens between ++ value

-- The list holds a reference, or matches the syntax. No context matters for that.
abbrev pub may_match : Syntax → List Token → Bool
may_match syntax list = has_var list || is_match (matching syntax (viewport 0 0) list)

abbrev pub ListsMatchAlike : Type 0
ListsMatchAlike = (syntax : Syntax) (x : Context) (list : List Token) → may_match syntax list ≡ (has_var list || is_match (matching syntax x list))

-- The value may be declared, and the list that it makes may match the syntax.
abbrev pub may_append : Key → Syntax → List Token → List Token → Bool
may_append key syntax list value = declares key value && may_match syntax (trim list)

-- The new list of the key, if the value may be appended. Where the old list ends in an open block, as no style's does, the new one may still
-- be no declaration's value.
abbrev pub new_list : Declarations → Key → Syntax → Between → List Token → Option (List Token)
new_list declarations key syntax between value =
    let list = appended between (declaration_of declarations key) value in
    if may_append key syntax list value then list_if (declares key list) list else None

-- ---- the call

abbrev pub append_list : Declarations → Key → Syntax → List Token → Option Between → Result Declarations MapErr
append_list declarations key syntax value None = Err NotList
append_list declarations key syntax value (Some between) = with_list declarations key (new_list declarations key syntax between value)

abbrev pub append_registered : Declarations → Key → List Token → Option Entry → Result Declarations MapErr
append_registered declarations key value None = Err NotList
append_registered declarations key value (Some entry) = append_list declarations key entry.syntax value (between_items entry.syntax)

-- the declarations once the value is appended
abbrev pub append_key : Registered → Declarations → List Token → Option Key → Result Declarations MapErr
append_key registered declarations value None = Err NoProperty
append_key registered declarations value (Some (Table property)) = Err NotList
append_key registered declarations value (Some (Custom name)) = append_registered declarations (Custom name) value (entry_of registered name)
