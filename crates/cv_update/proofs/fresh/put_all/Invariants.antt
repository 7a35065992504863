use Rattle.std.proofs.Common.{◌≡◌, ◌+◌, length}
use Rattle.cv_update.specs.Renewed.{put_from}
use Rattle.cv_update.proofs.fresh.put_all.Given as goal

abbrev pub invariant-loop-next : goal.invariant-loop-next
invariant-loop-next l = (l.place ≡ l.start + length l.yielded) × (l.all ≡ put_from l.fn.all l.start l.yielded)
