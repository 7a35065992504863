use Rattle.cv_valuation.proofs.TableTest as table
use Rattle.cv_valuation.proofs.laws.properties_are_found.Goals as goal

pub returns : goal.returns
returns c = table.properties_are_found c.table_is_found.ensures
