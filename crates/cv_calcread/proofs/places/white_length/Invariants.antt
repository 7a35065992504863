use Rattle.std.proofs.Common.{◌≡◌, ◌+◌, ◌-◌, ◌≤◌, drop}
use Rattle.cv_calcread.specs.Answer.{white_length}
use Rattle.cv_calcread.proofs.places.white_length.Given as goal

abbrev pub invariant-loop-i : goal.invariant-loop-i
invariant-loop-i l = (l.fn.from ≤ l.i) × (white_length (drop l.fn.from l.tokens) ≡ (l.i - l.fn.from) + white_length (drop l.i l.tokens))
