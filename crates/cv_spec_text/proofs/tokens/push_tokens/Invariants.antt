use Rattle.std.proofs.Common.{◌≡◌, ◌++◌, take}
use Rattle.cv_spec_text.proofs.tokens.push_tokens.Given as goal

abbrev pub invariant-loop-token : goal.invariant-loop-token
invariant-loop-token l = l.all.items ≡ l.initial.all.items ++ take l.token-index l.tokens
