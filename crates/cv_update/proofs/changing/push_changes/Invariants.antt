use Rattle.std.proofs.Common.{◌≡◌, ◌++◌, take}
use Rattle.std.specs.Prelude.{map}
use Rattle.cv_update.specs.Changes.{changes_on}
use Rattle.cv_update.specs.Names.{key_of}
use Rattle.cv_update.proofs.changing.push_changes.Given as goal

abbrev pub invariant-loop-named : goal.invariant-loop-named
invariant-loop-named l = l.all.items ≡ l.fn.all.items ++ changes_on (map key_of (take l.named-index l.names)) l.element l.old l.new
