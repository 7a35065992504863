use Rattle.std.proofs.Common.{◌≡◌, ◌<◌, Some, None, sym, ap, ◌∙◌, subst, length}
use Rattle.std.specs.Prelude.{IfSome}
use Rattle.std.specs.List.{slice_index_or}
use Rattle.std.proofs.lemmas.Option.{slice_get-get_or}
use Rattle.cv_tree.specs.Tree.{parent_in}
use Rattle.cv_tree.specs.Walking.{values_before}
use Rattle.cv_tree.proofs.Next.{next_of, next_out}
use Rattle.cv_tree.proofs.Trees.{values_get}
use Rattle.cv_tree.proofs.tree.Computing.computed.Goals as goal

pub returns-in-Some-clause-computed : goal.returns-in-Some-clause-computed
returns-in-Some-clause-computed c =
    let s = c.args.self.now in
    let decls = slice_index_or s.declarations.now c.args.index c.index-self-index.result in
    let declares = slice_get-get_or s.declarations.now c.args.index c.index-self-index.result c.requires.declared in
    let below : c.in-Some.parent < length s.all.items = subst (λ p. IfSome p (λ at. at < length s.all.items)) c.in-Some.is c.requires.earlier in
    let there = slice_get-get_or s.all.items c.in-Some.parent c.index.result.now below ∙ ap Some (sym c.index.ensures) in
    let same = sym (values_get s.all.items c.in-Some.parent c.index.result.now there) ∙ sym (ap (parent_in (values_before s)) c.in-Some.is) in
    next_of s c.args.index c.args.parent decls c.place-place.result (Some c.index.result.now.values) c.computed_under.result declares same c.place-place.ensures.place c.computed_under.ensures.computed c.computed_under.ensures.stand

pub returns-in-Some-clause-range : goal.returns-in-Some-clause-range
returns-in-Some-clause-range c =
    let s = c.args.self.now in
    let decls = slice_index_or s.declarations.now c.args.index c.index-self-index.result in
    let declares = slice_get-get_or s.declarations.now c.args.index c.index-self-index.result c.requires.declared in
    let below : c.in-Some.parent < length s.all.items = subst (λ p. IfSome p (λ at. at < length s.all.items)) c.in-Some.is c.requires.earlier in
    let there = slice_get-get_or s.all.items c.in-Some.parent c.index.result.now below ∙ ap Some (sym c.index.ensures) in
    let same = sym (values_get s.all.items c.in-Some.parent c.index.result.now there) ∙ sym (ap (parent_in (values_before s)) c.in-Some.is) in
    next_out s c.args.index c.args.parent decls c.place-place.result (Some c.index.result.now.values) c.computed_under.result declares same c.place-place.ensures.place c.computed_under.ensures.range

pub returns-in-None-clause-computed : goal.returns-in-None-clause-computed
returns-in-None-clause-computed c =
    let s = c.args.self.now in
    let decls = slice_index_or s.declarations.now c.args.index c.index-self-index.result in
    let declares = slice_get-get_or s.declarations.now c.args.index c.index-self-index.result c.requires.declared in
    next_of s c.args.index c.args.parent decls c.place-place.result None c.computed_under-in-None.result declares (sym (ap (parent_in (values_before s)) c.in-None.is)) c.place-place.ensures.place c.computed_under-in-None.ensures.computed c.computed_under-in-None.ensures.stand

pub returns-in-None-clause-range : goal.returns-in-None-clause-range
returns-in-None-clause-range c =
    let s = c.args.self.now in
    let decls = slice_index_or s.declarations.now c.args.index c.index-self-index.result in
    let declares = slice_get-get_or s.declarations.now c.args.index c.index-self-index.result c.requires.declared in
    next_out s c.args.index c.args.parent decls c.place-place.result None c.computed_under-in-None.result declares (sym (ap (parent_in (values_before s)) c.in-None.is)) c.place-place.ensures.place c.computed_under-in-None.ensures.range
