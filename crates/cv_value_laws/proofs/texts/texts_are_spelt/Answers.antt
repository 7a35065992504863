use Rattle.cv_value_laws.proofs.WellFormed as texts
use Rattle.cv_value_laws.proofs.texts.texts_are_spelt.Goals as goal

pub returns : goal.returns
returns c = texts.texts_are_spelt
