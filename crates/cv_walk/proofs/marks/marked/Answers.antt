use Rattle.std.proofs.Common.{ap, ◌∙◌}
use Rattle.cv_walk.proofs.Marking.{begun_marking, ended_marking, next_marked, next_unmarked}
use Rattle.cv_walk.proofs.marks.marked.Goals as goal
use Rattle.cv_walk.proofs.marks.marked.Goals.{then-is_below+in_ok-mark, else-is_below}

pub loop-element-init : goal.loop-element-init
loop-element-init c = begun_marking c.args.start c.args.elements.now c.new-marks.result.items c.push.new.self.items c.new-marks.ensures.items c.in_ok-push.ensures.items c.requires

pub loop-element-preserved : goal.loop-element-preserved
loop-element-preserved c = elim c.if-is_below.branch [
  | then-is_below+in_ok-mark w ↦ next_marked c.args.start c.args.elements.now c.loop-element.marks.items c.loop-element.place c.in-Some.element.now c.loop-element.rest.now c.in-Some.after.now c.loop-element.invariant c.in-Some.ensures.cases.0
      c.is_below.result c.deref.result.now c.if-is_below.marks.items c.deref.ensures.value c.is_below.ensures w.if-is_below.true (ap (λ v. v.items) w.marks-is ∙ w.in_ok-mark.ensures)
  | else-is_below w ↦ next_unmarked c.args.start c.args.elements.now c.loop-element.marks.items c.loop-element.place c.in-Some.element.now c.loop-element.rest.now c.in-Some.after.now c.loop-element.invariant c.in-Some.ensures.cases.0
      c.is_below.result c.deref.result.now c.if-is_below.marks.items c.deref.ensures.value c.is_below.ensures w.if-is_below.false (ap (λ v. v.items) w.marks-is)
]

pub returns : goal.returns
returns c = ended_marking c.args.start c.args.elements.now c.loop-element.marks.items c.loop-element.place c.loop-element.rest.now c.loop-element.invariant c.in_default.ensures.cases
