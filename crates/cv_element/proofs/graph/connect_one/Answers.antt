use Rattle.std.proofs.Common.{◌≡◌, ◌<◌, ℕ, length, Some, sym, inl, inr, refl, ◌∙◌, subst, arith}
use Rattle.cv_graph.specs.Edges.{targets}
use Rattle.cv_element.specs.Places.{IsFound}
use Rattle.cv_element.proofs.Counting.{has_room}
use Rattle.cv_element.proofs.graph.connect_one.Goals as goal

pub add_edge-requires-clause-room : goal.add_edge-requires-clause-room
add_edge-requires-clause-room c =
    let at = subst (λ o. IsFound c.args.decls.now c.args.reference.now o) c.in-Some.is c.in_ok-found.ensures in
    let room = has_room (targets c.args.graph.now c.args.from) c.in-Some.to c.requires.once (λ has. c.requires.new c.in-Some.to has at.1) (length c.args.decls.now) c.requires.numbers at.0 in
    omega (arith, room)
