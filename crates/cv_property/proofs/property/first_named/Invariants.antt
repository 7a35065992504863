use Rattle.std.proofs.Common.{◌≡◌, drop, map}
use Rattle.std.specs.Prelude.{find}
use Rattle.cv_property.specs.Table.{is_name_of}
use Rattle.cv_property.proofs.property.first_named.Given as goal

abbrev pub invariant-loop-row : goal.invariant-loop-row
invariant-loop-row l = find (is_name_of l.text) (map (λ r. r.property) (drop l.row-index l.rows)) ≡ find (is_name_of l.text) (map (λ r. r.property) l.rows)
