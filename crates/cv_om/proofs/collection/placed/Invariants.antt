use Rattle.std.specs.Prelude.{map, Ok}
use Rattle.std.proofs.Common.{◌≡◌, take}
use Rattle.cv_om.specs.Refusal.{all_of}
use Rattle.cv_om.specs.Conversion.{placed_item}
use Rattle.cv_om.proofs.collection.placed.Given as goal

abbrev pub invariant-loop-item : goal.invariant-loop-item
invariant-loop-item l = all_of (map (placed_item l.units) (take l.item-index l.row)) ≡ Ok l.all
