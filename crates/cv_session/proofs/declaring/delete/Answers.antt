use Rattle.std.proofs.Common.{rules}
use Rattle.cv_valuation.specs.Keys.{key_named}
use Rattle.cv_session.proofs.Making.{delete_among}
use Rattle.cv_session.proofs.declaring.delete.Goals as goal

pub returns-in-Ok-clause-among : goal.returns-in-Ok-clause-among
returns-in-Ok-clause-among c = λ keys among. delete_among keys c.args.map.now (key_named c.args.name.now) c.delete.new.self (search rules) among
