use Rattle.std.specs.Prelude.{Ok}
use Rattle.std.proofs.Common.{◌≡◌, take}
use Rattle.cv_om.specs.Refusal.{all_of}
use Rattle.cv_om.specs.SumValue.{item_products}
use Rattle.cv_om.proofs.products.times.Given as goal

abbrev pub invariant-loop-item : goal.invariant-loop-item
invariant-loop-item l = all_of (item_products (take l.item-index l.row) l.others) ≡ Ok l.products
