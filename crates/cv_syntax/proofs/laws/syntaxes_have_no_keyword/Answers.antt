use Rattle.cv_syntax.proofs.Keywords as keywords
use Rattle.cv_syntax.proofs.laws.syntaxes_have_no_keyword.Goals as goal

pub returns : goal.returns
returns c = keywords.syntaxes_have_no_keyword
