use Rattle.cv_text_laws.proofs.Comments.{comments_end_first, comments_take_closing}
use Rattle.cv_text_laws.proofs.ends.comments_end_first.Goals as goal

pub returns-clause-ends : goal.returns-clause-ends
returns-clause-ends c = comments_end_first

pub returns-clause-takes : goal.returns-clause-takes
returns-clause-takes c = comments_take_closing
