use Rattle.std.proofs.Common.{◌≤◌, take}
use Rattle.std.specs.List.{flat_map, enumerate_from, zip}
use Rattle.std.specs.Io.KnownBytes.{Appends}
use Rattle.cv_reify_report.specs.Report.{element_text}
use Rattle.cv_reify_report.proofs.writing.write_elements.Given as goal

abbrev pub invariant-loop-element : goal.invariant-loop-element
invariant-loop-element g l = record {
  taken : Appends (g.O.Sink.taken l.fn.out) (g.O.Sink.taken l.out) (flat_map (element_text l.shown) (take l.element (enumerate_from 0 (zip l.declarations l.all))));
  later : g.O.Sink.faults l.fn.out ≤ g.O.Sink.faults l.out;
}
