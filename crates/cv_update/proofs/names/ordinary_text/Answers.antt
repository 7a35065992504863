use Rattle.std.proofs.Common.{subst}
use Rattle.std.specs.Prelude.{IsUtf8}
use Rattle.cv_property.specs.Table.{name_of}
use Rattle.cv_update.proofs.Written.{spelled_of}
use Rattle.cv_update.proofs.names.ordinary_text.Goals as goal

pub returns-clause-spelled : goal.returns-clause-spelled
returns-clause-spelled c = spelled_of c.of.result c.name.result.now (name_of c.args.property) (subst IsUtf8 c.name.ensures.name c.name.utf8) c.name.ensures.name c.of.ensures
