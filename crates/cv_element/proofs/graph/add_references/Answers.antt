use Rattle.std.proofs.Common.{ℕ, List, ◌≤◌, ◌↔◌, length, Some, sym, ◌∙◌, ap, subst, arith}
use Rattle.std.specs.Prelude.{Contains, slice_get}
use Rattle.cv_spec_element.specs.Pieces.{RefersTo}
use Rattle.cv_graph.specs.Edges.{targets}
use Rattle.cv_var.specs.References.{pieces_of}
use Rattle.cv_element.specs.Counting.{declared_count, references_in}
use Rattle.cv_element.proofs.Graphing.{references_are}
use Rattle.cv_element.proofs.graph.add_references.Goals as goal

pub returns-clause-edges : goal.returns-clause-edges
returns-clause-edges c =
    references_are c.args.decls.now c.args.place c.at.result.0.now c.at.result.1.now c.at.ensures.entry c.deref.result.now (λ name. subst (λ (l : List (List ℕ)). Contains l name ↔ RefersTo (pieces_of c.at.result.1.now.value) name) (sym c.deref.ensures.value) (c.in_ok-references.ensures.refers name)) (targets c.connect.new.graph c.args.place) c.in_ok-connect.ensures.edges

pub returns-clause-bound : goal.returns-clause-bound
returns-clause-bound c =
    let names = c.deref.ensures.value ∙ c.in_ok-references.ensures.names in
    subst (λ n. length (targets c.connect.new.graph c.args.place) ≤ n) (ap (declared_count c.args.decls.now) names ∙ ap (references_in c.args.decls.now) (sym c.at.ensures.entry)) c.in_ok-connect.ensures.bound
