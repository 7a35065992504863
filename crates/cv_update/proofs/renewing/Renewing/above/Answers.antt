use Rattle.cv_update.specs.Walking.{now_of}
use Rattle.cv_update.proofs.Next.{stand_at}
use Rattle.cv_update.proofs.renewing.Renewing.above.Goals as goal

pub returns-in-Some-clause-stands : goal.returns-in-Some-clause-stands
returns-in-Some-clause-stands c = stand_at c.args.self.now.renewal.now.registry.now (now_of c.args.self.now) c.in-Some.parent c.values.result.now c.requires.stand c.values.ensures
