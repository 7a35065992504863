use Rattle.std.proofs.Common.{◌≡◌, ◌++◌, ◌-◌, ◌≤◌, map, Some}
use Rattle.cv_var.specs.Flat.{flattened}
use Rattle.cv_var.specs.Places.{flat_at, stretch}
use Rattle.cv_var.specs.References.{pieces_of}
use Rattle.cv_var.proofs.parts.+parts_of.Given as goal

abbrev pub decreases-parts_of : goal.decreases-parts_of
decreases-parts_of l = l.end - l.start

abbrev pub invariant-parts : goal.invariant-parts
invariant-parts l = record {
  parts : map (flat_at l.tokens) l.parts.items ++ map Some (flattened (pieces_of (stretch l.tokens l.at l.end))) ≡ map Some (flattened (pieces_of (stretch l.tokens l.start l.end)));
  after : l.start ≤ l.at;
  within : l.at ≤ l.end;
}

abbrev pub decreases-parts : goal.decreases-parts
decreases-parts l = l.end - l.at
