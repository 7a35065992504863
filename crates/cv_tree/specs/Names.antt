-- The properties that a document shows, and the names that it counts.
use Rattle.std.specs.Prelude.{ℕ, ◌≡◌, All, Bool, true, false, List, [], ◌++◌, bytes_eq, filter, length, map, Option, Some, None}
use Rattle.std.specs.List.{flat_map, filter_map, list_any}
use Rattle.std.specs.Map.{keys_of}
use Rattle.indexmap.specs.IndexSet.{insert_all}
use Rattle.cv_spec_text.specs.Keywords.{is_custom}
use Rattle.cv_doc.specs.declared.command.Command.{Command}
use Rattle.cv_doc.specs.declared.command.Command.TheVariants as command
use Rattle.cv_doc.specs.Members.{is_name}
use Rattle.cv_doc.specs.Reading.{Shape}
use Rattle.cv_valuation.specs.declared.key.Key.{Key}
use Rattle.cv_valuation.specs.declared.key.Key.TheVariants.{Custom, Table}
use Rattle.cv_valuation.specs.Keys.{key_named, same_key}
use Rattle.cv_props.specs.Registered.{Registered}
use Rattle.cv_props.specs.Registration.{viewport}
use Rattle.cv_props.specs.Sheets.{registry_of}
use Rattle.cv_props.specs.Winners.{Declarations}
use Rattle.cv_tree.specs.Styles.{declarations_of, rules_in}

-- the keys of declarations, one element after another
abbrev pub keys_in : List Declarations → List Key
keys_in all = flat_map keys_of all

-- the keys of all winning declarations
abbrev pub declared_keys : Shape → List Key
declared_keys document = keys_in (map declarations_of document.elements)

-- the keys, each once, in the order in which they are first seen
abbrev pub first_seen : List Key → List Key
first_seen keys = insert_all same_key [] keys

-- each is the name of a property
abbrev pub AreNames : List (List ℕ) → Type 0
AreNames names = All (λ name. is_name name ≡ true) names

-- the properties of these names
abbrev pub named_keys : List (List ℕ) → List Key
named_keys names = filter_map key_named names

-- the names to show, or where the document leaves them open the names of the winning declarations in first-seen order
abbrev pub keys_shown : Option (List (List ℕ)) → List Key → List Key
keys_shown None declared = first_seen declared
keys_shown (Some names) declared = named_keys names

abbrev pub shown_of : Shape → List Key
shown_of document = keys_shown document.show (declared_keys document)

-- ---- the names that are counted

abbrev pub name_of_key : Key → Option (List ℕ)
name_of_key (Custom name) = Some name
name_of_key (Table property) = None

-- the name that a command speaks of
abbrev pub name_of_command : Command → Option (List ℕ)
name_of_command (command.Get element name) = Some name
name_of_command (command.GetAll element name) = Some name
name_of_command (command.Has element name) = Some name
name_of_command (command.Set element name value) = Some name
name_of_command (command.Append element name value) = Some name
name_of_command (command.Delete element name) = Some name
name_of_command (command.Computed element name) = Some name
name_of_command (command.Reify element name) = Some name
name_of_command _ = None

abbrev pub names_shown : Option (List (List ℕ)) → List (List ℕ)
names_shown None = []
names_shown (Some names) = names

-- the names of a registry, of declarations, of `show` and of commands
abbrev pub names_in : Registered → List Declarations → Option (List (List ℕ)) → List Command → List (List ℕ)
names_in registered all shown commands = keys_of registered ++ filter_map name_of_key (keys_in all) ++ names_shown shown ++ filter_map name_of_command commands

-- the names, and behind them the custom ones of others that aren't among them, each once
abbrev pub with_names : List (List ℕ) → List (List ℕ) → List (List ℕ)
with_names names others = insert_all bytes_eq names (filter is_custom others)

-- the different custom names of the document's valid rules, winning declarations, `show` and commands, as they come first
abbrev pub counted_names : Shape → List (List ℕ)
counted_names document = with_names [] (names_in (registry_of (viewport document.width document.height) (rules_in document.sheet)) (map declarations_of document.elements) document.show document.commands)

-- how many these are
abbrev pub counted : Shape → ℕ
counted document = length (counted_names document)
