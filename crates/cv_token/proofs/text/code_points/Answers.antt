use Rattle.std.proofs.Common.{◌++◌, ap, sym, ◌∙◌, map-id}
use Rattle.std.proofs.lemmas.Iterator.{YieldsList-from_chars}
use Rattle.std.proofs.lemmas.Iterator.Consumers.{YieldsList-end}
use Rattle.std.specs.Prelude.{false}
use Rattle.cv_token.specs.LineBreaks.{points_after, pushed}
use Rattle.cv_token.proofs.LineBreaks.{points_after-push, returned-push, all_points}
use Rattle.cv_token.proofs.text.code_points.Goals as goal

pub loop-c-preserved : goal.loop-c-preserved
loop-c-preserved c = record {
  points =
      c.in_ok-push_point.ensures
      ∙ ap (λ points. points ++ pushed c.loop-c.after_return c.in-Some.c) c.loop-c.invariant.points
      ∙ ap (λ after. points_after false c.loop-c.yielded ++ pushed after c.in-Some.c) c.loop-c.invariant.after_return
      ∙ sym (points_after-push false c.loop-c.yielded c.in-Some.c);
  after_return = sym (returned-push false c.loop-c.yielded c.in-Some.c);
}

pub returns : goal.returns
returns c =
    let end = YieldsList-end (YieldsList-from_chars c.args.text.now c.utf8.text cc) c.loop-c.yielded _ c.loop-c.yielded_by _ _ c.in-None.is c.next.ensures.steps in
    c.loop-c.invariant.points ∙ ap (points_after false) (sym (map-id c.loop-c.yielded) ∙ end.0) ∙ all_points _
