-- So many ends are there.
use Rattle.std.proofs.Common.{◌≡◌, ◌+◌, ◌<◌, ℕ, get_or, length}
use Rattle.cv_walk.proofs.ending.own_ends.Given as goal

abbrev pub invariant-loop-index : goal.invariant-loop-index
invariant-loop-index l = (length l.ends.items ≡ l.index) × ((i : ℕ) → i < l.index → get_or l.ends.items i 0 ≡ i + 1)
