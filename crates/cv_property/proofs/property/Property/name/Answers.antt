use Rattle.std.proofs.Common.{sym, ap, subst}
use Rattle.std.specs.Prelude.{IsAscii}
use Rattle.cv_property.proofs.Names.{names_are_ascii}
use Rattle.cv_property.proofs.property.Property.name.Goals as goal

pub returns-clause-ascii : goal.returns-clause-ascii
returns-clause-ascii c = subst IsAscii (sym (ap (λ e. e.1.name) c.row.ensures)) (names_are_ascii c.args.self)
