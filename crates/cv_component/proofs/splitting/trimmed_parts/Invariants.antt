use Rattle.std.proofs.Common.{◌≡◌, take, map}
use Rattle.cv_component.specs.Parts.{trim}
use Rattle.cv_component.proofs.splitting.trimmed_parts.Given as goal

abbrev pub invariant-loop-part : goal.invariant-loop-part
invariant-loop-part l = map (λ p. p.now) l.all.items ≡ map trim (map (λ p. p.now) (take l.part-index l.parts))
