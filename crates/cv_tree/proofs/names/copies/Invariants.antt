use Rattle.std.proofs.Common.{◌≡◌, take}
use Rattle.cv_tree.proofs.names.copies.Given as goal

abbrev pub invariant-loop-key : goal.invariant-loop-key
invariant-loop-key l = l.all.items ≡ take l.key-index l.keys
