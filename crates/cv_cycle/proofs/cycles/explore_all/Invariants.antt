use Rattle.std.proofs.Common.{ℕ, ◌≡◌, ◌+◌, ◌<◌}
use Rattle.std.specs.Prelude.{sum}
use Rattle.cv_cycle.specs.Marks.{IsMarked}
use Rattle.cv_cycle.specs.Search.{IsSearch}
use Rattle.cv_cycle.proofs.cycles.explore_all.Given as goal

abbrev pub invariant-loop-root : goal.invariant-loop-root
invariant-loop-root g l = record {
  search : IsSearch l.graph l.walk;
  path : l.walk.height ≡ 0;
  met : (node : ℕ) → node < l.root → IsMarked l.walk.met node;
  steps : l.steps + sum l.fn.walk.reads ≡ l.fn.steps + sum l.walk.reads;
}
