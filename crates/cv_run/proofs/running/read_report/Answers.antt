use Rattle.std.proofs.Common.{ap, Err, subst, sym}
use Rattle.cv_io.specs.Streams.{GaveAll}
use Rattle.cv_doc.specs.Reading.{document_of}
use Rattle.cv_run.specs.Fates.{fate_of_reading}
use Rattle.cv_run.proofs.Given.{ends_early, gave, oversized_given, stopped_given, tells_given, too_long, too_many}
use Rattle.cv_run.proofs.running.read_report.Goals as goal

pub returns-in-Err-TooLong-clause-refused : goal.returns-in-Err-TooLong-clause-refused
returns-in-Err-TooLong-clause-refused g c = too_long (g.S.Source.left c.args.src.now) (c.in-Err-TooLong.ensures.held (ap Err c.in-Err-TooLong.field-0-is))

pub returns-clause-tells : goal.returns-clause-tells
returns-clause-tells g c =
    tells_given (g.S.Source.left c.args.src.now) (fate_of_reading (document_of c.deref.result.now)) c.args.limit c.report_of.result
    (rw c.deref.ensures.value (gave (g.S.Source.left c.args.src.now) (g.S.Source.left c.read_all.new.src) c.in-Ok.bytes.items c.in-Ok.ensures.all c.in-Ok.ensures.most))
    c.report_of.ensures.tells

pub returns-clause-refused : goal.returns-clause-refused
returns-clause-refused g c =
    stopped_given (g.S.Source.left c.args.src.now) (fate_of_reading (document_of c.deref.result.now)) c.args.limit _ c.report_of.result
    (rw c.deref.ensures.value (gave (g.S.Source.left c.args.src.now) (g.S.Source.left c.read_all.new.src) c.in-Ok.bytes.items c.in-Ok.ensures.all c.in-Ok.ensures.most))
    c.report_of.ensures.refused

pub returns-clause-early : goal.returns-clause-early
returns-clause-early g c = ends_early (fate_of_reading (document_of c.deref.result.now)) c.args.limit c.report_of.result c.report_of.ensures.refused

pub returns-in-Err-TooLong-clause-parts : goal.returns-in-Err-TooLong-clause-parts
returns-in-Err-TooLong-clause-parts g c = too_many (g.S.Source.left c.args.src.now) (c.in-Err-TooLong.ensures.held (ap Err c.in-Err-TooLong.field-0-is))

pub returns-clause-parts : goal.returns-clause-parts
returns-clause-parts g c =
    (oversized_given (g.S.Source.left c.args.src.now) (g.S.Source.left c.read_all.new.src) c.deref.result.now c.args.limit c.report_of.result (subst (GaveAll (g.S.Source.left c.args.src.now) (g.S.Source.left c.read_all.new.src)) (sym c.deref.ensures.value) c.in-Ok.ensures.all) c.report_of.ensures.counted c.report_of.ensures.refused)
