use Rattle.std.proofs.Common.{◌≡◌, None, sym, ◌∙◌, ap, subst}
use Rattle.std.specs.Prelude.{All}
use Rattle.cv_spec_text.specs.Splits.{IsSpelt}
use Rattle.cv_element.specs.Keywords.{alone}
use Rattle.cv_element.proofs.Keeping.{tokens_stand}
use Rattle.cv_element.proofs.judging.judge.Goals as goal

pub returns-then-is_loose-clause-kept : goal.returns-then-is_loose-clause-kept
returns-then-is_loose-clause-kept c =
    let same : c.tokens.result.now ≡ c.trim_run-trimmed.result = c.tokens.ensures.tokens in
    let none : alone c.trim_run-trimmed.result ≡ None = ap alone (sym same) ∙ sym c.in_default.ensures in
    tokens_stand c.args.registry.now c.args.key.now c.args.list c.trim_run-trimmed.result c.trim_run-trimmed.ensures c.requires.key (sym c.is_loose.ensures ∙ c.if-is_loose.true) c.tokens.ensures.spelt c.requires.plain none
