use Rattle.std.proofs.Common.{◌≤◌, take}
use Rattle.std.specs.Io.KnownBytes.{Appends}
use Rattle.cv_report.specs.Report.{notes_text}
use Rattle.cv_reify_report.proofs.writing.write_notes.Given as goal

abbrev pub invariant-loop-note : goal.invariant-loop-note
invariant-loop-note g l = record {
  taken : Appends (g.O.Sink.taken l.fn.out) (g.O.Sink.taken l.out) (notes_text (take l.note-index l.notes));
  later : g.O.Sink.faults l.fn.out ≤ g.O.Sink.faults l.out;
}
