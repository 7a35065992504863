use Rattle.cv_report.specs.Report.{notes_text}
use Rattle.cv_reify_report.specs.Report.{elements_text}
use Rattle.cv_reify_report.proofs.Took.{TookText-behind}
use Rattle.cv_reify_report.proofs.writing.reify_report.Goals as goal

pub returns-clause-part : goal.returns-clause-part
returns-clause-part g c =
    let took = TookText-behind (g.O.Sink.taken c.args.out.now) (g.O.Sink.taken c.write_notes.new.out) (g.O.Sink.taken c.write_elements.new.out) (notes_text c.args.notes.now) (elements_text c.args.shown.now c.args.declarations.now c.args.all.now) c.write_elements.result c.in-Ok.ensures.taken.whole c.write_elements.ensures.taken in
    took.part
