use Rattle.cv_value_laws.proofs.Matches as matches
use Rattle.cv_value_laws.proofs.contexts.matches_ignore_contexts.Goals as goal

pub returns : goal.returns
returns c = matches.matches_ignore_contexts
