use Rattle.std.proofs.Common.{◌≤◌, take}
use Rattle.std.specs.Io.KnownBytes.{Appends}
use Rattle.cv_reify_report.specs.Report.{element_text}
use Rattle.cv_reify_report.proofs.writing.write_element.Given as goal

abbrev pub invariant-loop-key : goal.invariant-loop-key
invariant-loop-key g l = record {
  taken : Appends (g.O.Sink.taken l.fn.out) (g.O.Sink.taken l.out) (element_text (take l.key-index l.shown) (l.element, (l.declared, l.computed)));
  later : g.O.Sink.faults l.fn.out ≤ g.O.Sink.faults l.out;
}
