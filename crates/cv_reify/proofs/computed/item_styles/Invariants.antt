use Rattle.std.specs.Prelude.{map}
use Rattle.std.proofs.Common.{◌≡◌, take}
use Rattle.cv_reify.specs.ComputedStyle.{item_style}
use Rattle.cv_reify.proofs.computed.item_styles.Given as goal

abbrev pub invariant-loop-item : goal.invariant-loop-item
invariant-loop-item l = l.all ≡ map item_style (take l.item-index l.items)
