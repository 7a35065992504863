use Rattle.std.proofs.Common.{◌≡◌, [], length}
use Rattle.indexmap.specs.IndexSet.{insert_all}
use Rattle.cv_valuation.specs.Keys.{same_key}
use Rattle.cv_tree.specs.Names.{keys_in}
use Rattle.cv_tree.proofs.names.first_seen.Given as goal

abbrev pub invariant-loop-declarations : goal.invariant-loop-declarations
invariant-loop-declarations l = insert_all same_key l.seen.keys (keys_in l.rest) ≡ insert_all same_key [] (keys_in l.all)

abbrev pub decreases-loop-declarations : goal.decreases-loop-declarations
decreases-loop-declarations l = length l.rest
