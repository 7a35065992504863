use Rattle.cv_value_laws.proofs.CleanLists as texts
use Rattle.cv_value_laws.proofs.texts.texts_are_clean.Goals as goal

pub returns : goal.returns
returns c = texts.texts_are_clean
