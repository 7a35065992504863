use Rattle.std.proofs.Common.{◌≡◌, drop}
use Rattle.cv_property.specs.Grammar.{by_grammar}
use Rattle.cv_property.proofs.reading.by_grammar.Given as goal

abbrev pub invariant-loop-next : goal.invariant-loop-next
invariant-loop-next l = by_grammar (drop l.next-index l.alternatives) l.x l.tokens ≡ by_grammar l.alternatives l.x l.tokens
