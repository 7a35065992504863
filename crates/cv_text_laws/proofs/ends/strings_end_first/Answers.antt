use Rattle.cv_text_laws.proofs.Strings.{strings_end_first, strings_take_quotes}
use Rattle.cv_text_laws.proofs.ends.strings_end_first.Goals as goal

pub returns-clause-ends : goal.returns-clause-ends
returns-clause-ends c = strings_end_first

pub returns-clause-takes : goal.returns-clause-takes
returns-clause-takes c = strings_take_quotes
