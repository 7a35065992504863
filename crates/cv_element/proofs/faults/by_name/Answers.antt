use Rattle.std.proofs.Common.{rules, map, IsPermutation, IsSortedBy, subst}
use Rattle.std.proofs.lemmas.List.Sorted.{answers_always}
use Rattle.cv_spec_valuation.specs.Computed.{IsByName}
use Rattle.cv_element.specs.FaultNames.{named}
use Rattle.cv_element.proofs.Sorting.{before, before_ranks, same, ordered, answered}
use Rattle.cv_element.proofs.faults.by_name.Goals as goal

pub returns-clause-same : goal.returns-clause-same
returns-clause-same c =
    let moved : IsPermutation (map named c.args.faults.now) c.sort_by.new.self.items = subst (λ list. IsPermutation list c.sort_by.new.self.items) c.in_ok-all.ensures c.sort_by.ensures.permutation in
    answered c.without_names.result c.deref.result.now c.sort_by.new.self.items (IsPermutation c.args.faults.now) c.without_names.ensures c.deref.ensures.value (same c.args.faults.now c.sort_by.new.self.items moved)

pub returns-clause-ordered : goal.returns-clause-ordered
returns-clause-ordered c =
    let moved : IsPermutation (map named c.args.faults.now) c.sort_by.new.self.items = subst (λ list. IsPermutation list c.sort_by.new.self.items) c.in_ok-all.ensures c.sort_by.ensures.permutation in
    let up : IsSortedBy before c.sort_by.new.self.items = c.in_ok-sort_by.ensures.sorted before before_ranks (answers_always _ _ _ (λ f a r g h. search rules)) in
    answered c.without_names.result c.deref.result.now c.sort_by.new.self.items IsByName c.without_names.ensures c.deref.ensures.value (ordered c.args.faults.now c.sort_by.new.self.items moved up)
