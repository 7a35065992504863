use Rattle.cv_calc.specs.Names.{unit_with_name, first_named}
use Rattle.cv_calc.proofs.Units.{name_back, unit_is, unit_found}
use Rattle.cv_calc.proofs.names.unit_named.Goals as goal

pub returns-clause-only_where : goal.returns-clause-only_where
unfolding unit_with_name first_named
returns-clause-only_where c = unit_is c.args.name.now c.first_of.result c.first_of.ensures

pub returns-clause-exactly_where : goal.returns-clause-exactly_where
unfolding unit_with_name first_named
returns-clause-exactly_where c = unit_found c.args.name.now c.first_of.result c.first_of.ensures

pub returns-clause-back : goal.returns-clause-back
returns-clause-back c = name_back
