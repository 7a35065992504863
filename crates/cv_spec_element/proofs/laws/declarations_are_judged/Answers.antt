use Rattle.cv_spec_element.proofs.Causes.{used, refused_is, ranged_is}
use Rattle.cv_spec_element.proofs.laws.declarations_are_judged.Goals as goal

pub returns-clause-used : goal.returns-clause-used
returns-clause-used g c = λ e values p outcome uses. used e values p outcome uses

pub returns-clause-refused : goal.returns-clause-refused
returns-clause-refused g c = λ e values p cause invalid. refused_is e values p cause invalid

pub returns-clause-ranged : goal.returns-clause-ranged
returns-clause-ranged g c = λ e values p ranged. ranged_is e values p ranged
