use Rattle.std.proofs.Common.{[], ◌∷◌}
use Rattle.cv_spec_text.specs.Characters.{line_feed}
use Rattle.cv_run.proofs.Taken.{TookText_behind}
use Rattle.cv_run.proofs.status_line.put_ended.Goals as goal

pub returns-clause-taken : goal.returns-clause-taken
returns-clause-taken g c =
    TookText_behind (g.E.Sink.taken c.args.err.now) (g.E.Sink.taken c.put_text.new.err) (g.E.Sink.taken c.put_line_feed.new.err) c.args.text.now (line_feed ∷ []) c.put_line_feed.result
    c.in-Ok.ensures.taken.whole c.put_line_feed.ensures.taken
