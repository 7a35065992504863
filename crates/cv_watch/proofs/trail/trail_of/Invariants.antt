-- The lines of the changes so far.
use Rattle.std.proofs.Common.{◌≡◌, take}
use Rattle.cv_watch.specs.Texts.{trail_text}
use Rattle.cv_watch.proofs.trail.trail_of.Given as goal

abbrev pub invariant-loop-change : goal.invariant-loop-change
invariant-loop-change l = l.text.items ≡ trail_text (take l.change-index l.changes)
