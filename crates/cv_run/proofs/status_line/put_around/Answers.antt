use Rattle.cv_run.specs.StatusLines.{ended}
use Rattle.cv_run.proofs.Taken.{TookText_behind}
use Rattle.cv_run.proofs.status_line.put_around.Goals as goal

pub returns-clause-taken : goal.returns-clause-taken
returns-clause-taken g c =
    TookText_behind (g.E.Sink.taken c.args.err.now) (g.E.Sink.taken c.put_text.new.err) (g.E.Sink.taken c.put_ended.new.err) c.args.front.now (ended c.args.text.now) c.put_ended.result
    c.in-Ok.ensures.taken.whole c.put_ended.ensures.taken
