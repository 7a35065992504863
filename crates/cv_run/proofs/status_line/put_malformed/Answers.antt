use Rattle.std.proofs.Common.{codes}
use Rattle.cv_run.proofs.Taken.{path_line}
use Rattle.cv_run.proofs.status_line.put_malformed.Goals as goal

pub returns-in-Field-clause-taken : goal.returns-in-Field-clause-taken
returns-in-Field-clause-taken g c =
    rw c.in-Field.is
    (path_line (g.E.Sink.taken c.args.err.now) (g.E.Sink.taken c.put_around.new.err) c.put_around.result (codes "cssvars: malformed: field ") c.as_bytes.result.now c.text.result.now c.in-Field.path
    c.as_bytes.ensures.value c.text.utf8 c.text.ensures c.put_around.ensures.taken)

pub returns-in-BadViewport-clause-taken : goal.returns-in-BadViewport-clause-taken
returns-in-BadViewport-clause-taken g c = rw c.in-BadViewport.is c.put_text-in-BadViewport.ensures.taken
