use Rattle.cv_text_laws.proofs.Urls.{urls_end_first, urls_take_closing}
use Rattle.cv_text_laws.proofs.ends.urls_end_first.Goals as goal

pub returns-clause-ends : goal.returns-clause-ends
returns-clause-ends c = urls_end_first

pub returns-clause-takes : goal.returns-clause-takes
returns-clause-takes c = urls_take_closing
