use Rattle.std.proofs.Common.{◌≡◌, take}
use Rattle.cv_valuation.proofs.computed.copied.Given as goal

abbrev pub invariant-loop-key : goal.invariant-loop-key
invariant-loop-key l = l.all ≡ take l.key-index l.faults
