use Rattle.std.proofs.Common.{◌≡◌, take}
use Rattle.std.specs.Map.{keys_of}
use Rattle.indexmap.specs.IndexSet.{insert_all}
use Rattle.cv_valuation.specs.Keys.{same_key}
use Rattle.cv_tree.proofs.names.add_keys.Given as goal

abbrev pub invariant-loop-place : goal.invariant-loop-place
invariant-loop-place l = l.seen.keys ≡ insert_all same_key l.fn.seen.keys (keys_of (take l.place l.declarations))
