use Rattle.std.proofs.Common.{◌≡◌, ℕ, List, take}
use Rattle.std.specs.Prelude.{All}
use Rattle.std.specs.Map.{keys_of}
use Rattle.cv_props.specs.Registered.{IsRegistered}
use Rattle.cv_props.specs.Sheets.{notes_on_rules, registered, registered_names, registrations, registry_of}
use Rattle.cv_props.specs.Registered.{entry_of}
use Rattle.cv_props.proofs.registry.of_rules.Given as goal

abbrev pub invariant-loop-number : goal.invariant-loop-number
invariant-loop-number l = record {
  kept : All IsRegistered l.entries.entries;
  entries : (name : List ℕ) → entry_of l.entries.entries name ≡ registered l.x (take l.number l.all) name;
  order : keys_of l.entries.entries ≡ registered_names l.x (take l.number l.all);
  registry : l.entries.entries ≡ registry_of l.x (take l.number l.all);
  notes : l.notes.items ≡ notes_on_rules l.x (take l.number l.all);
}
