use Rattle.std.proofs.Common.{◌≡◌, length, refl, sym, ◌∙◌, subst, arith}
use Rattle.cv_cycle.specs.Reversing.{IsReversed}
use Rattle.cv_cycle.proofs.Turning.{reversed_none}
use Rattle.cv_cycle.proofs.reversing.reversed.Goals as goal

pub loop-from-init : goal.loop-from-init
loop-from-init g c = record {
  back = reversed_none c.args.graph.now c.args.through.now c.nodes-count.result c.in_ok-back.back c.in_ok-back.ensures.edgeless;
  nodes = c.in_ok-back.ensures.count ∙ c.nodes-count.ensures.count;
}

pub returns-clause-back : goal.returns-clause-back
returns-clause-back g c =
    let whole : c.loop-from.from ≡ length c.args.graph.now = omega (arith, c.loop-from-test.false, c.loop-from.auto.from-end, c.nodes-count.ensures.count) in
    subst (λ n. IsReversed c.args.graph.now c.args.through.now n c.loop-from.back) whole c.loop-from.invariant.back
