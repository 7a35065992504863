use Rattle.std.specs.Prelude.{map, option_map}
use Rattle.std.proofs.Common.{◌≡◌, ◌++◌, drop}
use Rattle.cv_om.specs.UnitMap.{all_entries, negative_entry}
use Rattle.cv_om.proofs.unit_map.inverse_powers.Given as goal

abbrev pub invariant-loop-entry : goal.invariant-loop-entry
invariant-loop-entry l = option_map (λ ps. l.units ++ ps) (all_entries (map negative_entry (drop l.entry-index l.a))) ≡ all_entries (map negative_entry l.a)
