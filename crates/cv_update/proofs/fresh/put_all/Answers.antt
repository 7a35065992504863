use Rattle.std.proofs.Common.{arith, ap, sym, ◌∙◌, length-append, [], ◌∷◌}
use Rattle.cv_update.specs.Fresh.{put_one}
use Rattle.cv_update.proofs.Putting.{next_put, put_none}
use Rattle.cv_update.proofs.fresh.put_all.Goals as goal

pub loop-next-init : goal.loop-next-init
loop-next-init c = (omega arith, sym (put_none c.args.all.now c.args.start))

pub loop-next-preserved : goal.loop-next-preserved
loop-next-preserved c = (
  omega (arith, length-append c.loop-next.yielded (c.in-Some.next ∷ []), c.loop-next.invariant.0),
  c.put_one.ensures ∙ ap (λ l. put_one l c.loop-next.place c.in-Some.next) c.loop-next.invariant.1 ∙ sym (next_put c.args.all.now c.args.start c.loop-next.place c.loop-next.yielded c.in-Some.next c.loop-next.invariant.0),
)
