use Rattle.std.proofs.Common.{length, subst}
use Rattle.std.specs.Option.{option_copied}
use Rattle.cv_element.specs.Starting.{AreReset}
use Rattle.cv_element.proofs.Starts.{starts_are, starts_stand}
use Rattle.cv_element.proofs.starting.started.Goals as goal

pub returns-clause-start : goal.returns-clause-start
returns-clause-start c =
    starts_are c.args.registry.now c.len.ensures.once (option_copied c.args.parent) c.in_ok-values.values c.reset_names.new.values c.in_ok-values.ensures
    (subst (λ b. AreReset c.args.registry.now b (length c.args.registry.now) c.in_ok-values.values c.reset_names.new.values) c.is_top.ensures c.in_ok-reset_names.ensures)

pub returns-clause-stand : goal.returns-clause-stand
returns-clause-stand c =
    starts_stand c.args.registry.now c.len.ensures.once (option_copied c.args.parent) c.in_ok-values.values c.reset_names.new.values c.in_ok-values.ensures
    (subst (λ b. AreReset c.args.registry.now b (length c.args.registry.now) c.in_ok-values.values c.reset_names.new.values) c.is_top.ensures c.in_ok-reset_names.ensures)
    c.properties_may_be_kept.ensures c.len.ensures.entries c.requires.parent
