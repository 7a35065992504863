use Rattle.cv_property.proofs.Words.{made}
use Rattle.cv_property.proofs.initial.word.Goals as goal

pub returns : goal.returns
returns c = made c.of.result _ _ c.text.ensures.text c.text.ensures.ascii c.of.ensures
