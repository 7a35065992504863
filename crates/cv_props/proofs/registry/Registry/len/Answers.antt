use Rattle.std.proofs.Common.{ap, ◌∙◌}
use Rattle.cv_props.specs.Registered.{IsRegistered, entry_of}
use Rattle.cv_props.proofs.Naming.{lookup_name}
use Rattle.cv_props.proofs.registry.Registry.len.Goals as goal

pub returns-clause-entries : goal.returns-clause-entries
returns-clause-entries c name entry found =
    lookup_name IsRegistered c.self.inside.entries.entries name entry c.self.invariant.0 (ap (λ registered. entry_of registered name) c.self.view_is ∙ found)
