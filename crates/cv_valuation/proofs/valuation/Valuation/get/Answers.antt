use Rattle.std.proofs.Common.{◌∙◌, ap, sym, unwrap_or}
use Rattle.std.specs.Option.{option_copied}
use Rattle.cv_valuation.specs.declared.outcome.Outcome.TheVariants.{Invalid}
use Rattle.cv_valuation.specs.Valuations.{outcome_at}
use Rattle.cv_valuation.proofs.Rows.{outcome_at-values_by}
use Rattle.cv_valuation.proofs.valuation.Valuation.get.Goals as goal

pub returns-in-Some-clause-outcome : goal.returns-in-Some-clause-outcome
returns-in-Some-clause-outcome c =
    sym (ap (λ found. unwrap_or (option_copied found) Invalid) c.in-Some.is)
    ∙ c.found_by.ensures
    ∙ sym (outcome_at-values_by c.self.inside.custom c.self.inside.inherited c.self.inside.own c.args.key.now)
    ∙ ap (λ values. outcome_at values c.args.key.now) c.self.view_is

pub returns-in-None-clause-outcome : goal.returns-in-None-clause-outcome
returns-in-None-clause-outcome c =
    c.self.invariant.1
    ∙ sym (ap (λ found. unwrap_or (option_copied found) Invalid) c.in-None.is)
    ∙ c.found_by.ensures
    ∙ sym (outcome_at-values_by c.self.inside.custom c.self.inside.inherited c.self.inside.own c.args.key.now)
    ∙ ap (λ values. outcome_at values c.args.key.now) c.self.view_is
