use Rattle.std.specs.Prelude.{map, Ok}
use Rattle.std.proofs.Common.{◌≡◌, ◌++◌, take}
use Rattle.cv_om.specs.Refusal.{all_of}
use Rattle.cv_om.specs.SumValue.{Row, item_product}
use Rattle.cv_om.proofs.products.push_products.Given as goal

abbrev pub invariant-loop-other : goal.invariant-loop-other
invariant-loop-other l = (done : Row) × (all_of (map (item_product l.s) (take l.other-index l.others)) ≡ Ok done) × (l.row ≡ l.initial.row ++ done)
