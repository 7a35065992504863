use Rattle.std.proofs.Common.{◌≡◌, take}
use Rattle.cv_valuation.specs.declared.key.Key.{Key}
use Rattle.cv_report.specs.Report.{cause_of}
use Rattle.cv_report.proofs.causes.Causes.of.Given as goal

abbrev pub invariant-loop-key : goal.invariant-loop-key
invariant-loop-key l = (key : Key) → cause_of key l.first.entries ≡ cause_of key (take l.key-index l.faults)
