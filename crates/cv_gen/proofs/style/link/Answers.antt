use Rattle.std.proofs.Common.{append_assoc}
use Rattle.cv_gen.specs.Generated.{link}
use Rattle.cv_gen.proofs.style.link.Goals as goal

pub returns : goal.returns
unfolding link
returns c = simp append_assoc c.format.ensures.ok
