use Rattle.cv_text_laws.proofs.Names.{whitespace_is_longest}
use Rattle.cv_text_laws.proofs.longest.whitespace_is_longest.Goals as goal

pub returns : goal.returns
returns c = whitespace_is_longest
