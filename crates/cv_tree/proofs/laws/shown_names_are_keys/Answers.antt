use Rattle.cv_tree.proofs.Shown.{all_are_named, names_are_keys}
use Rattle.cv_tree.proofs.laws.shown_names_are_keys.Goals as goal

pub returns-clause-named : goal.returns-clause-named
returns-clause-named c = names_are_keys

pub returns-clause-all : goal.returns-clause-all
returns-clause-all c = all_are_named
