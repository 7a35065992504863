-- The commands of a session, as a document has them. They are this project's own.
use Rattle.std.specs.Prelude.{ℕ, ◌++◌, List, [], Option, None, Some, Result, Ok, Err, codes, bytes_eq, if◌then◌else◌, option_and_then, option_map}
use Rattle.std.specs.Option.{option_map_or}
use Rattle.std.specs.Fmt.{decimal}
use Rattle.serde_json.specs.Data.{Data, Items}
use Rattle.serde_json.specs.Find.{get, as_array, as_str}
use Rattle.cv_doc.specs.declared.refusal.What.TheVariants.{Commands}
use Rattle.cv_doc.specs.declared.command.Command.{Command}
use Rattle.cv_doc.specs.declared.command.Command.TheVariants as command
use Rattle.cv_doc.specs.declared.command.Verb.{Verb}
use Rattle.cv_doc.specs.declared.command.Verb.TheVariants.{Get, GetAll, Has, Set, Append, Delete, Clear, Size, Entries, Computed, Reify, Unwatch}
use Rattle.cv_doc.specs.Json.{text_of, whole_up_to}
use Rattle.cv_doc.specs.Members.{counted}
use Rattle.cv_doc.specs.Refusals.{Refusal, field, all_from}

-- what the word of the member `do` asks for
abbrev pub verb_named : List ℕ → Option Verb
verb_named word =
    if bytes_eq word (codes "get") then Some Get
    else if bytes_eq word (codes "getAll") then Some GetAll
    else if bytes_eq word (codes "has") then Some Has
    else if bytes_eq word (codes "set") then Some Set
    else if bytes_eq word (codes "append") then Some Append
    else if bytes_eq word (codes "delete") then Some Delete
    else if bytes_eq word (codes "clear") then Some Clear
    else if bytes_eq word (codes "size") then Some Size
    else if bytes_eq word (codes "entries") then Some Entries
    else if bytes_eq word (codes "computed") then Some Computed
    else if bytes_eq word (codes "reify") then Some Reify
    else if bytes_eq word (codes "unwatch") then Some Unwatch
    else None

-- a whole number below 2 ^ 32
abbrev pub number_in : List ℕ → Data → Option ℕ
number_in key d = whole_up_to 4294967295 (get key d)

-- the number of an element, and a name
abbrev pub with_name : Data → Option (ℕ × List ℕ)
with_name d =
    option_and_then (λ element. option_map (λ name. (element, name)) (text_of (get (codes "name") d)))
    (number_in (codes "element") d)

-- the number of an element, a name and a value
abbrev pub with_value : Data → Option (ℕ × List ℕ × List ℕ)
with_value d =
    option_and_then (λ named. option_map (λ value. (named.0, named.1, value)) (text_of (get (codes "value") d)))
    (with_name d)

abbrev pub on_name : (ℕ → List ℕ → Command) → Data → Option Command
on_name make d = option_map (λ named. make named.0 named.1) (with_name d)

abbrev pub on_value : (ℕ → List ℕ → List ℕ → Command) → Data → Option Command
on_value make d = option_map (λ given. make given.0 given.1 given.2) (with_value d)

abbrev pub on_element : (ℕ → Command) → Data → Option Command
on_element make d = option_map make (number_in (codes "element") d)

-- the command, where its members are there and of their kinds
abbrev pub command_with : Verb → Data → Option Command
command_with Get d = on_name command.Get d
command_with GetAll d = on_name command.GetAll d
command_with Has d = on_name command.Has d
command_with Set d = on_value command.Set d
command_with Append d = on_value command.Append d
command_with Delete d = on_name command.Delete d
command_with Clear d = on_element command.Clear d
command_with Size d = on_element command.Size d
command_with Entries d = on_element command.Entries d
command_with Computed d = on_name command.Computed d
command_with Reify d = on_name command.Reify d
command_with Unwatch d = option_map command.Unwatch (number_in (codes "watcher") d)

abbrev pub command_of : Data → Option Command
command_of d =
    option_and_then (λ verb. command_with verb d)
    (option_and_then verb_named (option_and_then as_str (get (codes "do") d)))

-- ---- the commands of a document

abbrev pub most_commands : ℕ
most_commands = 4096

abbrev pub command_path : ℕ → List ℕ
command_path i = codes "commands/" ++ decimal i

abbrev pub command_in : ℕ → Data → Result Command Refusal
command_in i d = option_map_or Ok (command_of d) (Err (field (command_path i)))

abbrev pub commands_of : Items → Result (List Command) Refusal
commands_of ds = counted most_commands Commands ds (all_from command_in 0 ds)

-- the commands, empty where they are absent
abbrev pub commands_in : Option Data → Result (List Command) Refusal
commands_in None = Ok []
commands_in (Some d) = option_map_or commands_of (as_array d) (Err (field (codes "commands")))
