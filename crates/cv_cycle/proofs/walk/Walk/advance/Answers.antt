use Rattle.std.proofs.Common.{sym}
use Rattle.cv_cycle.proofs.Advancing as advancing
use Rattle.cv_cycle.proofs.walk.Walk.advance.Goals as goal

pub top-top-requires-clause-path : goal.top-top-requires-clause-path
top-top-requires-clause-path g c = advancing.path_room _ c.requires.valid _ c.requires.search c.requires.path

pub node_at-node-requires : goal.node_at-node-requires
node_at-node-requires g c = advancing.end_room _ c.requires.valid _ c.requires.search c.requires.path _ c.top-top.ensures

pub ask-requires-clause-node : goal.ask-requires-clause-node
ask-requires-clause-node g c = advancing.node_below _ c.requires.valid _ c.requires.search c.requires.path _ c.top-top.ensures _ c.node_at-node.ensures

pub ask-requires-clause-few : goal.ask-requires-clause-few
ask-requires-clause-few g c = advancing.few_asked _ c.requires.valid _ c.requires.search c.requires.path _ c.top-top.ensures _ c.node_at-node.ensures

pub leave-requires-clause-count : goal.leave-requires-clause-count
leave-requires-clause-count g c = advancing.leave_count _ c.requires.valid _ c.requires.search c.requires.path _ c.top-top.ensures _ c.node_at-node.ensures _ c.ask.ensures.asked

pub leave-requires-clause-top : goal.leave-requires-clause-top
leave-requires-clause-top g c = advancing.leave_top _ c.requires.valid _ c.requires.search c.requires.path _ c.top-top.ensures _ c.node_at-node.ensures _ c.ask.ensures.asked

pub leave-requires-clause-nodes : goal.leave-requires-clause-nodes
leave-requires-clause-nodes g c = advancing.stack_nodes _ c.requires.valid _ c.requires.search c.requires.path _ c.top-top.ensures _ c.node_at-node.ensures _ c.ask.ensures.asked

pub leave-requires-clause-room : goal.leave-requires-clause-room
leave-requires-clause-room g c = advancing.leave_room _ c.requires.valid _ c.requires.search c.requires.path _ c.top-top.ensures _ c.node_at-node.ensures _ c.ask.ensures.asked

pub follow-requires-clause-to : goal.follow-requires-clause-to
follow-requires-clause-to g c = advancing.target_met _ c.requires.valid _ c.requires.search c.requires.path _ c.top-top.ensures _ c.node_at-node.ensures _ c.ask.ensures.asked _ (sym c.in-Some.ensures.edge)

pub follow-requires-clause-count : goal.follow-requires-clause-count
follow-requires-clause-count g c = advancing.follow_count _ c.requires.valid _ c.requires.search c.requires.path _ c.top-top.ensures _ c.node_at-node.ensures _ c.ask.ensures.asked

pub follow-requires-clause-room : goal.follow-requires-clause-room
follow-requires-clause-room g c = advancing.follow_room _ c.requires.valid _ c.requires.search c.requires.path _ c.top-top.ensures _ c.node_at-node.ensures _ c.ask.ensures.asked _ (sym c.in-Some.ensures.edge)

pub returns-in-None-clause-search : goal.returns-in-None-clause-search
returns-in-None-clause-search g c = advancing.left_search _ c.requires.valid _ c.requires.search c.requires.path _ c.top-top.ensures _ c.node_at-node.ensures _ c.ask.ensures.asked (sym c.in-None.ensures.edge) _ c.leave.ensures

pub returns-in-None-clause-asked : goal.returns-in-None-clause-asked
returns-in-None-clause-asked g c = advancing.left_asked _ c.requires.valid _ c.requires.search c.requires.path _ c.top-top.ensures _ c.node_at-node.ensures _ c.ask.ensures.asked (sym c.in-None.ensures.edge) _ c.leave.ensures

pub returns-in-Some-clause-search : goal.returns-in-Some-clause-search
returns-in-Some-clause-search g c = advancing.followed_search _ c.requires.valid _ c.requires.search c.requires.path _ c.top-top.ensures _ c.node_at-node.ensures _ c.ask.ensures.asked _ (sym c.in-Some.ensures.edge) _ c.follow.ensures

pub returns-in-Some-clause-asked : goal.returns-in-Some-clause-asked
returns-in-Some-clause-asked g c = advancing.followed_asked _ c.requires.valid _ c.requires.search c.requires.path _ c.top-top.ensures _ c.node_at-node.ensures _ c.ask.ensures.asked _ (sym c.in-Some.ensures.edge) _ c.follow.ensures
