use Rattle.std.proofs.Common.{refl}
use Rattle.cv_update.proofs.Next.{kept_new}
use Rattle.cv_update.proofs.renewing.Renewing.keep.Goals as goal

pub returns-in-Ok-clause-ok : goal.returns-in-Ok-clause-ok
returns-in-Ok-clause-ok c =
    kept_new c.args.self.now (record { alloc = c.args.self.now.alloc; renewal = c.args.self.now.renewal; fresh = c.keep.new.self }) c.args.index c.args.computed c.requires refl c.keep.ensures.start c.in-Ok.ensures.all
