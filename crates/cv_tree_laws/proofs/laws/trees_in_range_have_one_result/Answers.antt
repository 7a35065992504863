use Rattle.cv_tree_laws.proofs.Existing.{ElementsAreComputed, result}
use Rattle.cv_tree_laws.proofs.laws.trees_in_range_have_one_result.Goals as goal

pub returns : goal.returns
returns c = λ tree limit is_tree declared in_range.
    let elements : ElementsAreComputed = record { one_result = c.elements_have_one_result.ensures.one_result; stands = c.elements_have_one_result.ensures.stands } in
    result elements tree limit is_tree declared in_range (c.trees_have_one_result.ensures.computed tree limit is_tree)
