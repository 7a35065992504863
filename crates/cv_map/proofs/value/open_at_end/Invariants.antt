use Rattle.std.proofs.Common.{◌≡◌, [], drop}
use Rattle.cv_component.specs.Nesting.{nesting_past}
use Rattle.cv_map.proofs.value.open_at_end.Given as goal

abbrev pub invariant-loop-token : goal.invariant-loop-token
invariant-loop-token l = nesting_past l.nesting (drop l.token-index l.tokens) ≡ nesting_past [] l.tokens
