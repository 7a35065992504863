use Rattle.std.proofs.Common.{◌∙◌, sym, arith}
use Rattle.cv_calcread.specs.Answer.{is_marked}
use Rattle.cv_calcread.proofs.Searches.{mark_here, mark_later, marks_none, places_none, below}
use Rattle.cv_calcread.proofs.places.divisor_place.Goals as goal

pub returns-then-i-places : goal.returns-then-i-places
returns-then-i-places c = sym (places_none (is_marked c.args.wanted) c.args.marks.now c.args.places.now c.loop-i.i (omega (arith, c.if-i-places.true))) ∙ c.loop-i.invariant.1

pub returns-then-is_marked : goal.returns-then-is_marked
returns-then-is_marked c =
    sym (mark_here (is_marked c.args.wanted) c.args.marks.now c.args.places.now c.loop-i.i _ c.loop-i-test.true (below _ _ c.loop-i.invariant.0 c.if-i-places.false) (sym c.is_marked.ensures ∙ c.if-is_marked.true))
    ∙ c.loop-i.invariant.1

pub loop-i-preserved : goal.loop-i-preserved
loop-i-preserved c = (
  omega (arith, below _ _ c.loop-i.invariant.0 c.if-i-places.false),
  sym (mark_later (is_marked c.args.wanted) c.args.marks.now c.args.places.now c.loop-i.i _ c.loop-i-test.true (below _ _ c.loop-i.invariant.0 c.if-i-places.false) (sym c.is_marked.ensures ∙ c.if-is_marked.false))
      ∙ c.loop-i.invariant.1,
)

pub returns : goal.returns
returns c = sym (marks_none (is_marked c.args.wanted) c.args.marks.now c.args.places.now c.loop-i.i c.loop-i-test.false) ∙ c.loop-i.invariant.1
