use Rattle.std.proofs.Common.{refl}
use Rattle.cv_update.proofs.Written.{spelled_of}
use Rattle.cv_update.proofs.names.name_of.Goals as goal

pub returns-clause-spelled : goal.returns-clause-spelled
returns-clause-spelled c = spelled_of c.text_of.result c.args.bytes.now c.args.bytes.now c.requires refl c.text_of.ensures
