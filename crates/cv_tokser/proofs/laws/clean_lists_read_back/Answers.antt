use Rattle.cv_tokser.proofs.CleanBack.{clean_back}
use Rattle.cv_tokser.proofs.laws.clean_lists_read_back.Goals as goal

pub returns : goal.returns
returns c = clean_back
