-- What a command asks for (CSS Typed OM 1, "The StylePropertyMap", for what property maps do; the commands are this project's own).
use Rattle.std.specs.Prelude.{ℕ, List, [], codes, decimal, length, Option, Some, None, Result, Ok, Err}
use Rattle.std.specs.List.{slice_get}
use Rattle.std.specs.Map.{remove_entry}
use Rattle.cv_doc.specs.declared.command.Command.{Command}
use Rattle.cv_doc.specs.declared.command.Command.TheVariants as command
use Rattle.cv_valuation.specs.declared.computed.Computed.{Computed}
use Rattle.cv_valuation.specs.Keys.{key_named, same_key}
use Rattle.cv_props.specs.Registered.{Registered}
use Rattle.cv_props.specs.Winners.{Declarations}
use Rattle.cv_map.specs.declared.error.MapErr.{MapErr}
use Rattle.cv_map.specs.Calls.{of_key}
use Rattle.cv_map.specs.Lists.{append_key}
use Rattle.cv_map.specs.Values.{set_key, value_in}
use Rattle.cv_session.specs.Texts.{computed_text, entries_text, get_all_text, get_text, has_text, refusal_text, reify_text}

-- A text is asked for; or that an element be declared so; or that a watcher be dropped.
pub data Asked : Type 0 where
  text : List ℕ → Asked
  declare : ℕ → Declarations → Asked
  drop : ℕ → Asked

-- the declarations that a property map makes, or why it makes none
abbrev pub declare_or_refuse : ℕ → Result Declarations MapErr → Asked
declare_or_refuse at (Ok declarations) = declare at declarations
declare_or_refuse at (Err error) = text (refusal_text error)

-- what is asked of the element with this index, where it is there
abbrev pub on_element : List Declarations → List Computed → ℕ → (Declarations → Computed → Asked) → Asked
on_element declarations all at asked = by (slice_get declarations at) (slice_get all at)
  where
    by : Option Declarations → Option Computed → Asked
    by (Some declared) (Some computed) = asked declared computed
    by (Some declared) None = text (codes "refused NoElement")
    by None computed = text (codes "refused NoElement")

-- what a command asks for, where these are the declarations of each element and what is computed of it
abbrev pub asked_by : Registered → List Declarations → List Computed → Command → Asked
asked_by registered declarations all (command.Get element name) = on_element declarations all element (λ declared computed. text (get_text declared name))
asked_by registered declarations all (command.GetAll element name) = on_element declarations all element (λ declared computed. text (get_all_text declared name))
asked_by registered declarations all (command.Has element name) = on_element declarations all element (λ declared computed. text (has_text declared name))
asked_by registered declarations all (command.Set element name value) =
    on_element declarations all element (λ declared computed. declare_or_refuse element (set_key declared (value_in value) (key_named name)))
asked_by registered declarations all (command.Append element name value) =
    on_element declarations all element (λ declared computed. declare_or_refuse element (append_key registered declared (value_in value) (key_named name)))
asked_by registered declarations all (command.Delete element name) =
    on_element declarations all element (λ declared computed. declare_or_refuse element (of_key (λ key. remove_entry (same_key key) declared) (key_named name)))
asked_by registered declarations all (command.Clear element) = on_element declarations all element (λ declared computed. declare element [])
asked_by registered declarations all (command.Size element) = on_element declarations all element (λ declared computed. text (decimal (length declared)))
asked_by registered declarations all (command.Entries element) = on_element declarations all element (λ declared computed. text (entries_text declared))
asked_by registered declarations all (command.Computed element name) = on_element declarations all element (λ declared computed. text (computed_text computed name))
asked_by registered declarations all (command.Reify element name) = on_element declarations all element (λ declared computed. text (reify_text computed name))
asked_by registered declarations all (command.Unwatch watcher) = drop watcher
