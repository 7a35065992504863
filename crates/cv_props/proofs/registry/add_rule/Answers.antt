use Rattle.std.proofs.Common.{sym, subst}
use Rattle.std.specs.Prelude.{All}
use Rattle.cv_props.specs.Registered.{IsRegistered}
use Rattle.cv_props.proofs.Naming.{All-insert_name}
use Rattle.cv_props.proofs.registry.add_rule.Goals as goal

pub returns-in_ok-insert-in-Ok-clause-kept : goal.returns-in_ok-insert-in-Ok-clause-kept
returns-in_ok-insert-in-Ok-clause-kept c all =
    subst (All IsRegistered) (sym c.in_ok-insert-in-Ok.ensures.entries) (All-insert_name IsRegistered c.args.entries.now.entries c.in-Ok.name c.in-Ok.entry all c.in-Ok.ensures.kept)
