use Rattle.cv_run.proofs.Reporting.{one_text}
use Rattle.cv_run.proofs.laws.runs_have_one_text.Goals as goal

pub returns : goal.returns
returns c = one_text c.words_say_one_thing.ensures.single
