use Rattle.std.proofs.Common.{sym, ◌∙◌}
use Rattle.cv_property.specs.Table.{numbered, properties}
use Rattle.cv_update.proofs.Naming.{not_none}
use Rattle.cv_update.proofs.names.ordinary.Goals as goal

pub returns-in-None : goal.returns-in-None
unfolding numbered
returns-in-None c = absurd (not_none properties c.args.number c.requires (sym c.in-None.is ∙ c.numbered.ensures))
