use Rattle.std.proofs.Common.{◌≡◌, drop}
use Rattle.cv_value.specs.Matching.{components}
use Rattle.cv_value.proofs.matching.first_matching.Given as goal

abbrev pub invariant-loop-next : goal.invariant-loop-next
invariant-loop-next l = components l.x l.tokens (drop l.next-index l.components) ≡ components l.x l.tokens l.components
