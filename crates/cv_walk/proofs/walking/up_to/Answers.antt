use Rattle.std.proofs.Common.{sym, arith, subst}
use Rattle.std.proofs.lemmas.List.{length-take}
use Rattle.cv_walk.specs.Extents.{EndsAt}
use Rattle.cv_walk.proofs.Near.{end_within, start_within, subtree_near}
use Rattle.cv_walk.proofs.walking.up_to.Goals as goal

pub slice_bounds-result-end : goal.slice_bounds-result-end
slice_bounds-result-end c =
    let ends = subst (EndsAt c.args.elements.now c.args.start) (sym c.end.ensures) (c.requires.extents.ends c.args.start c.requires.there) in
    omega (arith, length-take c.end.result c.args.elements.now, end_within c.args.start c.end.result c.args.elements.now ends)

pub returns-clause-there : goal.returns-clause-there
returns-clause-there c =
    let ends = subst (EndsAt c.args.elements.now c.args.start) (sym c.end.ensures) (c.requires.extents.ends c.args.start c.requires.there) in
    omega (
      arith,
      length-take c.end.result c.args.elements.now,
      end_within c.args.start c.end.result c.args.elements.now ends,
      start_within c.args.start c.end.result c.args.elements.now c.requires.there ends,
    )

pub returns-clause-same : goal.returns-clause-same
returns-clause-same c =
    let ends = subst (EndsAt c.args.elements.now c.args.start) (sym c.end.ensures) (c.requires.extents.ends c.args.start c.requires.there) in
    subtree_near c.args.start c.end.result c.args.elements.now (end_within c.args.start c.end.result c.args.elements.now ends) ends
