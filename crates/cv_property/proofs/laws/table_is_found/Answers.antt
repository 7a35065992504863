use Rattle.cv_property.proofs.TableTest as table
use Rattle.cv_property.proofs.laws.table_is_found.Goals as goal

pub returns : goal.returns
returns c = table.table_is_found
