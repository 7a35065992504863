use Rattle.std.proofs.Common.{sym, ap, subst, arith}
use Rattle.std.specs.Prelude.{sum}
use Rattle.cv_cycle.specs.Marks.{IsMarked}
use Rattle.cv_cycle.specs.Search.{IsSearch}
use Rattle.cv_cycle.proofs.Beginning.{begin_search, begin_room, begin_root, begin_keeps, few_reads}
use Rattle.cv_cycle.proofs.cycles.explore.Goals as goal

pub enter-requires-clause-room : goal.enter-requires-clause-room
enter-requires-clause-room g c = begin_room _ _ c.requires.search c.requires.path _ c.requires.root c.requires.unmet

pub loop-walk-init : goal.loop-walk-init
loop-walk-init g c = record {
  search = subst (λ x. IsSearch c.args.graph.now x) (sym c.enter.ensures) (begin_search _ _ c.requires.search c.requires.path _ c.requires.root c.requires.unmet);
  root = subst (λ x. IsMarked x.met c.args.root) (sym c.enter.ensures) (begin_root _ _ c.requires.search c.requires.path _ c.requires.root c.requires.unmet);
  met = λ node old. subst (λ x. IsMarked x.met node) (sym c.enter.ensures) (begin_keeps _ _ c.requires.search c.requires.path _ c.requires.root c.requires.unmet node old);
  steps = omega (arith, ap (λ x. sum x.reads) c.enter.ensures);
}

pub loop-walk-smaller : goal.loop-walk-smaller
loop-walk-smaller g c = omega (arith, few_reads _ _ c.advance.ensures.search, c.advance.ensures.asked)
