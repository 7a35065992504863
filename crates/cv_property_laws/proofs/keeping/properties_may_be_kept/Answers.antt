use Rattle.cv_property_laws.proofs.KeptValues.{properties_may_be_kept}
use Rattle.cv_property_laws.proofs.keeping.properties_may_be_kept.Goals as goal

pub returns : goal.returns
returns c = properties_may_be_kept c.items_are_free.ensures
