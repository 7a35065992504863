use Rattle.std.specs.Prelude.{chars}
use Rattle.cv_map.proofs.Found.{kept_named}
use Rattle.cv_map.proofs.map.key_of.Goals as goal

pub returns-clause-kept : goal.returns-clause-kept
returns-clause-kept c = kept_named (chars c.args.name.now) c.named.result c.named.ensures
