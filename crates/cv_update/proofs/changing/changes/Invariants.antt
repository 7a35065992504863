use Rattle.std.proofs.Common.{◌≡◌, ◌++◌, ◌+◌}
use Rattle.std.specs.Prelude.{map}
use Rattle.cv_update.specs.Changes.{changes, left_from}
use Rattle.cv_update.specs.Names.{key_of}
use Rattle.cv_update.specs.Renewed.{with_fresh}
use Rattle.cv_update.proofs.changing.changes.Given as goal

abbrev pub invariant-loop-place : goal.invariant-loop-place
invariant-loop-place l = l.all.items ++ left_from (map key_of l.names) l.old l.fresh (l.fresh.start + l.place) ≡ changes (map key_of l.names) l.old (with_fresh l.old l.fresh)
