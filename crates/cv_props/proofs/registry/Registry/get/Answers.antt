use Rattle.cv_props.proofs.Naming.{kept_found}
use Rattle.cv_props.proofs.registry.Registry.get.Goals as goal

pub returns-clause-kept : goal.returns-clause-kept
returns-clause-kept c = kept_found c.self.inside.entries.entries c.args.name.now c.get.result c.self.invariant.0 c.get.ensures.value
