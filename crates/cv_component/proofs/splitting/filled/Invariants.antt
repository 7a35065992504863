use Rattle.std.proofs.Common.{◌≡◌, ◌++◌, drop, map}
use Rattle.cv_component.specs.Parts.{filled}
use Rattle.cv_component.proofs.splitting.filled.Given as goal

abbrev pub invariant-loop-part : goal.invariant-loop-part
invariant-loop-part l = map (λ p. p.now) l.all.items ++ filled (map (λ p. p.now) (drop l.part-index l.parts)) ≡ filled (map (λ p. p.now) l.parts)
