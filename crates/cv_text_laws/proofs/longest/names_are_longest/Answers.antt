use Rattle.cv_text_laws.proofs.Names.{names_are_longest}
use Rattle.cv_text_laws.proofs.longest.names_are_longest.Goals as goal

pub returns : goal.returns
returns c = names_are_longest
