use Rattle.std.proofs.Common.{rules, IsSortedBy}
use Rattle.std.proofs.lemmas.List.Sorted.{answers_always}
use Rattle.cv_update.specs.Names.{IsNamed, IsSpelled}
use Rattle.cv_update.proofs.Naming.{before, before_ranks, both_keys, both_named, still, told}
use Rattle.cv_update.proofs.names.names_of.Goals as goal

pub returns-clause-named : goal.returns-clause-named
returns-clause-named c =
    still IsNamed c.append.new.self.items c.sort_by.new.self.items c.in_ok-sort_by.ensures.permutation
    (both_named IsNamed c.in_ok-all.all.items c.in_ok-ordinary.ordinary.items c.append.new.self.items c.in_ok-append.ensures.items c.in_ok-all.ensures.named c.in_ok-ordinary.ensures.named)

pub returns-clause-told : goal.returns-clause-told
returns-clause-told c =
    let up : IsSortedBy before c.sort_by.new.self.items = c.in_ok-sort_by.ensures.sorted before before_ranks (answers_always _ _ _ (λ f a r g h. search rules)) in
    told c.args.custom.now c.append.new.self.items c.sort_by.new.self.items
    (both_keys c.args.custom.now c.in_ok-all.all.items c.in_ok-ordinary.ordinary.items c.append.new.self.items c.in_ok-append.ensures.items c.in_ok-all.ensures.keys c.in_ok-ordinary.ensures.keys)
    c.in_ok-sort_by.ensures.permutation
    (still IsSpelled c.append.new.self.items c.sort_by.new.self.items c.in_ok-sort_by.ensures.permutation
    (both_named IsSpelled c.in_ok-all.all.items c.in_ok-ordinary.ordinary.items c.append.new.self.items c.in_ok-append.ensures.items c.in_ok-all.ensures.spelled c.in_ok-ordinary.ensures.spelled))
    up
