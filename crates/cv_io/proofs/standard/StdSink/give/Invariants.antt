use Rattle.std.proofs.Common.{◌<◌, ◌≤◌}
use Rattle.std.specs.Io.KnownBytes.{Keeps}
use Rattle.cv_io.specs.Causes.{Rose}
use Rattle.cv_io.proofs.standard.StdSink.give.Given as goal

abbrev pub invariant-loop-turn : goal.invariant-loop-turn
invariant-loop-turn g l = record {
  later : l.initial.self.faults ≤ l.self.faults;
  rose : 0 < l.turn → Rose l.initial.self.faults l.self.faults;
  kept : Keeps (g.W.Write.contents l.initial.self.writer) (g.W.Write.contents l.self.writer);
}
