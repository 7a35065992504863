use Rattle.std.proofs.Common.{ap, refl, Err}
use Rattle.cv_doc.specs.Reading.{shape_of}
use Rattle.cv_run.proofs.Reporting.{are_sized}
use Rattle.cv_run.proofs.report.report_of_contents.Goals as goal

pub returns-clause-tells : goal.returns-clause-tells
returns-clause-tells c = record {
  document = shape_of c.args.document.now;
  document_computed = refl;
  single = c.in-Ok.ensures.single;
  notes = c.requires.contents.notes;
  shown = c.requires.contents.shown;
  declarations = c.requires.contents.declarations;
  all = c.in-Ok.ensures.computed;
}

pub returns-clause-sized : goal.returns-clause-sized
returns-clause-sized c =
    let contents = c.args.contents in
    are_sized (shape_of c.args.document.now) c.args.limit (record { notes = contents.notes; shown = contents.shown; declarations = contents.declarations; all = c.in-Ok.all })
    c.in-Ok.ensures.computed c.requires.contents.declarations c.in-Ok.ensures.few

pub returns-in-Err-Range-clause-refused : goal.returns-in-Err-Range-clause-refused
returns-in-Err-Range-clause-refused c = record {
  document = shape_of c.args.document.now;
  document_computed = refl;
  out = c.in-Err-Range.ensures.range c.in-Err-Range.element c.in-Err-Range.property (ap Err c.in-Err-Range.field-0-is);
}
