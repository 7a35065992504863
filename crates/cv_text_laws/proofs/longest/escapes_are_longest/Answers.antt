use Rattle.cv_text_laws.proofs.Escapes.{longest_escape, no_escape_is_missed}
use Rattle.cv_text_laws.proofs.longest.escapes_are_longest.Goals as goal

pub returns-clause-longest : goal.returns-clause-longest
returns-clause-longest c = longest_escape

pub returns-clause-none : goal.returns-clause-none
returns-clause-none c = no_escape_is_missed
