use Rattle.std.proofs.Common.{◌≡◌, ◌<◌, ◌≤◌, length, refl, sym, ◌∙◌, arith}
use Rattle.cv_graph.specs.Edges.{targets}
use Rattle.cv_cycle.proofs.Along.{target_below}
use Rattle.cv_cycle.proofs.Distinct.{has_room}
use Rattle.cv_cycle.proofs.Spreading.{few_targets}
use Rattle.cv_cycle.proofs.Turning.{turned_none, turned_one, turned_all, new_there, below_there}
use Rattle.cv_cycle.proofs.reversing.reverse_row.Goals as goal

pub loop-edge-init : goal.loop-edge-init
loop-edge-init g c = record { back = turned_none c.args.graph.now c.args.through.now c.args.from c.args.back.now c.requires.back; nodes = refl }

pub turn-requires-clause-to : goal.turn-requires-clause-to
turn-requires-clause-to g c =
    let below = target_below c.args.graph.now c.args.from c.loop-edge.edge c.in-Some.to c.requires.valid c.requires.from (sym c.in-Some.ensures.edge) in
    omega (arith, below, c.requires.nodes, c.loop-edge.invariant.nodes)

pub turn-requires-clause-through : goal.turn-requires-clause-through
turn-requires-clause-through g c =
    let below = target_below c.args.graph.now c.args.from c.loop-edge.edge c.in-Some.to c.requires.valid c.requires.from (sym c.in-Some.ensures.edge) in
    omega (arith, below, c.requires.through)

pub turn-requires-clause-room : goal.turn-requires-clause-room
turn-requires-clause-room g c =
    let room = has_room (targets c.loop-edge.back c.in-Some.to) c.args.from (c.loop-edge.invariant.back.once c.in-Some.to) (new_there c.args.graph.now c.args.through.now c.args.from c.loop-edge.edge c.in-Some.to (sym c.in-Some.ensures.edge) c.loop-edge.back c.loop-edge.invariant.back c.requires.once) (length c.args.graph.now) (below_there c.args.graph.now c.args.through.now c.args.from c.loop-edge.edge c.in-Some.to (sym c.in-Some.ensures.edge) c.loop-edge.back c.loop-edge.invariant.back (length c.args.graph.now) c.requires.from) c.requires.from in
    omega (arith, room, c.requires.few)

pub loop-edge-preserved : goal.loop-edge-preserved
loop-edge-preserved g c = record {
  back = turned_one c.args.graph.now c.args.through.now c.args.from c.loop-edge.edge c.in-Some.to (sym c.in-Some.ensures.edge) c.loop-edge.back c.loop-edge.invariant.back c.requires.once c.turn.new.back c.in_ok-turn-in-Some.ensures.on c.in_ok-turn-in-Some.ensures.off c.in_ok-turn-in-Some.ensures.others;
  nodes = c.in_ok-turn-in-Some.ensures.count ∙ c.loop-edge.invariant.nodes;
}

pub returns-in-None-clause-back : goal.returns-in-None-clause-back
returns-in-None-clause-back g c =
    turned_all c.args.graph.now c.args.through.now c.args.from c.loop-edge.edge (c.in-None.ensures.none.0 refl) c.loop-edge.back c.loop-edge.invariant.back

pub returns-clause-back : goal.returns-clause-back
returns-clause-back g c =
    turned_all c.args.graph.now c.args.through.now c.args.from c.loop-edge.edge (let few = few_targets c.args.graph.now c.args.from c.requires.valid c.requires.from in omega (arith, few, c.loop-edge-test.false)) c.loop-edge.back c.loop-edge.invariant.back
