use Rattle.cv_syntax_laws.proofs.Said.{said}
use Rattle.cv_syntax_laws.proofs.Only.{only}
use Rattle.cv_syntax_laws.proofs.laws.syntax_strings_are_said.Goals as goal

pub returns : goal.returns
returns c = record { said = said; only = only }
