use Rattle.std.proofs.Common.{subst, sym, ap, ◌∙◌, ◌++◌}
use Rattle.std.specs.Prelude.{IsUtf8}
use Rattle.cv_valuation.specs.Valuations.{outcome_text}
use Rattle.cv_update.proofs.Texts.{written_text}
use Rattle.cv_update.proofs.changing.text_of.Goals as goal

pub returns-clause-utf8 : goal.returns-clause-utf8
returns-clause-utf8 c =
    subst IsUtf8 (sym (c.in_ok-outcome_text.ensures.ok ∙ ap (λ front. front ++ outcome_text c.args.outcome.now) c.new-text.ensures.items))
    (written_text c.values_may_be_kept.ensures c.args.key.now c.args.outcome.now c.requires)
