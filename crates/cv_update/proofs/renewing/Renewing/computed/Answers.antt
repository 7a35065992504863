use Rattle.std.specs.Option.{option_copied}
use Rattle.cv_update.proofs.Next.{next_out}
use Rattle.cv_update.proofs.renewing.Renewing.computed.Goals as goal

pub returns-clause-range : goal.returns-clause-range
returns-clause-range c =
    next_out c.args.self.now c.args.index c.args.parent c.declarations-declarations.result.now c.place-place.result (option_copied c.above-values.result) c.computed_alone.result
    c.declarations-declarations.ensures.declares c.above-values.ensures.values c.place-place.ensures.place c.computed_alone.ensures.range
