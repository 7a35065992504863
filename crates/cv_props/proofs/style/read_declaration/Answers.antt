use Rattle.std.proofs.Common.{ap, sym, ◌∙◌}
use Rattle.cv_valuation.specs.Keys.{key_named}
use Rattle.cv_props.proofs.Items.{is_key-named}
use Rattle.cv_props.proofs.style.read_declaration.Goals as goal

pub returns-clause-kept : goal.returns-clause-kept
returns-clause-kept c =
    (is_key-named c.args.name.now c.in-Some.key (sym (sym c.in-Some.is ∙ c.in_ok-key.ensures ∙ ap key_named c.text.ensures)), sym c.in_ok-may_be_value.ensures ∙ c.if-not-branch.false)
