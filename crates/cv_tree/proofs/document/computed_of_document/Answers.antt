use Rattle.std.proofs.Common.{List, length, subst}
use Rattle.std.specs.Prelude.{IfOk, map}
use Rattle.cv_doc.specs.Reading.{shape_of}
use Rattle.cv_props.specs.Winners.{Declarations}
use Rattle.cv_tree.specs.Tree.{AreComputed, parent_of, the_tree, tree_of}
use Rattle.cv_tree.proofs.Documents.{single_result}
use Rattle.cv_tree.proofs.document.computed_of_document.Goals as goal

pub returns-clause-single : goal.returns-clause-single
returns-clause-single c =
    let document = c.args.document.now in
    let contents = c.args.contents.now in
    single_result (shape_of document) c.args.limit contents c.requires.sound c.requires.contents (λ all. all.items) c.computed_of.result
    (subst (λ (d : List Declarations). IfOk c.computed_of.result (λ all. AreComputed (the_tree contents.registry (map parent_of document.elements.items) d document.width document.height) c.args.limit (length document.elements.items) all.items)) c.deref.ensures.value c.computed_of.ensures.computed)
    c.computed_of.ensures.stand
    (c.trees_have_one_result.ensures.computed (tree_of (shape_of document)) c.args.limit)
