use Rattle.std.proofs.Common.{◌≡◌, ◌++◌, ◌≤◌, ◌-◌, length, map, drop}
use Rattle.cv_component.specs.Items.{items}
use Rattle.cv_component.specs.Shared.{piece_of}
use Rattle.cv_component.proofs.shared.shared_declarations.Given as goal

abbrev pub invariant-items : goal.invariant-items
invariant-items l = record {
  items : map piece_of l.all.items ++ items (drop l.start l.list) ≡ items l.list;
  within : l.start ≤ length l.list;
}

abbrev pub decreases-items : goal.decreases-items
decreases-items l = length l.list - l.start
