use Rattle.std.proofs.Common.{◌≡◌, ◌++◌, length, map}
use Rattle.cv_component.specs.Parts.{separates, parts}
use Rattle.cv_component.proofs.splitting.parts.Given as goal

abbrev pub invariant-parts : goal.invariant-parts
invariant-parts l = map (λ p. p.now) l.all.items ++ parts (separates l.separator) l.rest ≡ parts (separates l.separator) l.tokens

abbrev pub decreases-parts : goal.decreases-parts
decreases-parts l = length l.rest
