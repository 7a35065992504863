use Rattle.std.proofs.Common.{ℕ, List, length, refl, sym, ◌∙◌, ap, subst, arith}
use Rattle.std.specs.Prelude.{eqb}
use Rattle.std.specs.List.{IsDistinct}
use Rattle.cv_graph.specs.Edges.{targets}
use Rattle.cv_element.proofs.Counting.{once-none}
use Rattle.cv_element.proofs.Loading.{index_is}
use Rattle.cv_element.proofs.Graphing.{connects_step, connects_few, connects_once, none_connected, unmet, all_connected, all_few}
use Rattle.cv_element.proofs.graph.connect.Goals as goal

pub loop-place-init : goal.loop-place-init
loop-place-init c = record {
  edges = none_connected c.args.decls.now (targets c.args.graph.now c.args.from) c.requires.none;
  once = subst (IsDistinct eqb) (sym c.requires.none) once-none;
  few = omega (arith, ap (λ (row : List ℕ). length row) c.requires.none);
  others = λ node apart. refl;
  count = refl;
}

pub connect_one-requires-clause-numbers : goal.connect_one-requires-clause-numbers
connect_one-requires-clause-numbers c = λ to has. ((c.loop-place.invariant.edges to).0 has).below

pub connect_one-requires-clause-new : goal.connect_one-requires-clause-new
connect_one-requires-clause-new c = unmet c.properties_are_found.ensures c.args.decls.now c.len.ensures.once c.args.references.now c.loop-place.place (omega arith) c.index-references-place.result (index_is c.args.references.now c.loop-place.place c.index-references-place.result c.index-references-place.is (omega arith)) (targets c.loop-place.graph c.args.from) (targets c.loop-place.graph c.args.from) c.loop-place.invariant.edges c.requires.distinct

pub loop-place-preserved : goal.loop-place-preserved
loop-place-preserved c = record {
  edges = connects_step c.properties_are_found.ensures c.args.decls.now c.len.ensures.once c.args.references.now c.loop-place.place (omega arith) c.index-references-place.result (index_is c.args.references.now c.loop-place.place c.index-references-place.result c.index-references-place.is (omega arith)) (targets c.loop-place.graph c.args.from) (targets c.connect_one.new.graph c.args.from) c.loop-place.invariant.edges c.in_ok-connect_one.ensures.connects;
  once = connects_once c.properties_are_found.ensures c.args.decls.now c.len.ensures.once c.args.references.now c.loop-place.place (omega arith) c.index-references-place.result (index_is c.args.references.now c.loop-place.place c.index-references-place.result c.index-references-place.is (omega arith)) (targets c.loop-place.graph c.args.from) (targets c.connect_one.new.graph c.args.from) c.loop-place.invariant.edges c.requires.distinct c.in_ok-connect_one.ensures.connects c.loop-place.invariant.once;
  few = connects_few c.properties_are_found.ensures c.args.decls.now c.len.ensures.once c.args.references.now c.loop-place.place (omega arith) c.index-references-place.result (index_is c.args.references.now c.loop-place.place c.index-references-place.result c.index-references-place.is (omega arith)) (targets c.loop-place.graph c.args.from) (targets c.connect_one.new.graph c.args.from) c.loop-place.invariant.edges c.in_ok-connect_one.ensures.connects c.loop-place.invariant.few;
  others = λ node apart. c.in_ok-connect_one.ensures.others node apart ∙ c.loop-place.invariant.others node apart;
  count = c.in_ok-connect_one.ensures.count ∙ c.loop-place.invariant.count;
}

pub returns-clause-edges : goal.returns-clause-edges
returns-clause-edges c = all_connected c.args.decls.now c.args.references.now c.loop-place.place (omega arith) (targets c.loop-place.graph c.args.from) c.loop-place.invariant.edges

pub returns-clause-bound : goal.returns-clause-bound
returns-clause-bound c = all_few c.args.decls.now c.args.references.now c.loop-place.place (omega arith) (targets c.loop-place.graph c.args.from) c.loop-place.invariant.few
