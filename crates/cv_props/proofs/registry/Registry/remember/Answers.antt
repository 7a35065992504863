use Rattle.std.proofs.Common.{◌∙◌, sym}
use Rattle.cv_props.proofs.Inheriting.{value_met}
use Rattle.cv_props.proofs.registry.Registry.remember.Goals as goal

pub keep-kept-requires : goal.keep-kept-requires
keep-kept-requires c =
    value_met c.args.property c.args.x.now c.args.list.now c.args.value.now (sym c.takes_inherited.ensures ∙ c.if-takes_inherited.false) c.requires
