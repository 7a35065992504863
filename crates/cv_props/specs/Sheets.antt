-- The rules of a sheet: what they register, and notes on those that are ignored (CSS Syntax 3, "Parse a stylesheet"; Properties and Values
-- API 1, "The @property Rule").
use Rattle.std.specs.Prelude.{ℕ, fold, if◌then◌else◌, List, [], ◌∷◌, bytes_eq, map, Option, Some, None, Result, Ok, Err}
use Rattle.std.specs.List.{enumerate_from, filter_map, flat_map}
use Rattle.std.specs.Map.{keys_of}
use Rattle.indexmap.specs.IndexMap.{insert_entry}
use Rattle.cv_component.specs.declared.sheet.Rule.{Rule}
use Rattle.cv_var.specs.Names.{firsts}
use Rattle.cv_calc.specs.declared.context.Context.{Context}
use Rattle.cv_props.specs.declared.entry.Entry.{Entry}
use Rattle.cv_props.specs.declared.note.Note.{Note}
use Rattle.cv_props.specs.declared.note.NotePlace.TheVariants as places
use Rattle.cv_props.specs.declared.note.Why.{Why}
use Rattle.cv_props.specs.Registered.{Registered}
use Rattle.cv_props.specs.Registration.{registration, right, last_said}

-- what the valid rules register, in order
abbrev pub registrations : Context → List Rule → Registered
registrations x all = filter_map (λ rule. right (registration x rule)) all

abbrev pub entry_for : List ℕ → List ℕ × Entry → Option Entry
entry_for name (other, entry) = if bytes_eq name other then Some entry else None

-- what is registered of a name: what the last valid rule of that name says
abbrev pub registered : Context → List Rule → List ℕ → Option Entry
registered x all name = last_said (entry_for name) (registrations x all)

-- the registered names, each at the place at which it was first registered
abbrev pub registered_names : Context → List Rule → List (List ℕ)
registered_names x all = firsts (keys_of (registrations x all))

abbrev pub ignored : ℕ → Result (List ℕ × Entry) Why → List Note
ignored number (Ok entry) = []
ignored number (Err why) = record { place = places.Rule number; why = why } ∷ []

-- the notes on the rules that are ignored, in order; rules are numbered from 0, ignored ones too
abbrev pub notes_on_rules : Context → List Rule → List Note
notes_on_rules x all = flat_map (λ (number, rule). ignored number (registration x rule)) (enumerate_from 0 all)

-- what is registered once one more rule is read: a name that was there keeps its place
abbrev pub with_registration : Registered → Result (List ℕ × Entry) Why → Registered
with_registration all (Ok (name, entry)) = insert_entry bytes_eq all name entry
with_registration all (Err why) = all

-- what the rules register, one rule after another
abbrev pub registry_of : Context → List Rule → Registered
registry_of x all = fold (λ some rule. with_registration some (registration x rule)) [] all
