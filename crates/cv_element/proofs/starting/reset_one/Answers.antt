use Rattle.std.proofs.Common.{not, ap, ◌∙◌}
use Rattle.cv_valuation.specs.declared.key.Key.TheVariants.{Custom}
use Rattle.cv_valuation.specs.Valuations.{with_outcome}
use Rattle.cv_element.proofs.Fonts.{or_left, or_right}
use Rattle.cv_element.proofs.Starts.{reset_on}
use Rattle.cv_element.proofs.starting.reset_one.Goals as goal
use Rattle.cv_element.proofs.starting.reset_one.Goals.{then-all-via-then-all, then-all-via-else-all+then-not-entry}

pub returns-in_ok-put : goal.returns-in_ok-put
returns-in_ok-put c = λ before now.
    reset_on c.args.registry.now c.len.ensures.once c.args.all c.outcomes_are_by_key.ensures before c.args.values.now c.put.new.self c.args.place c.at.result.0.now c.at.result.1.now c.at.ensures.entry now
    (elim c.then-all.branch [
      | then-all-via-then-all w ↦ or_left c.args.all (not c.at.result.1.now.inherits) w.if-all.true
      | then-all-via-else-all+then-not-entry w ↦ or_right c.args.all (not c.at.result.1.now.inherits) (ap not w.if-not-entry.true)
    ])
    (c.in_ok-put.ensures.ok ∙ ap (λ n. with_outcome c.args.values.now (Custom n) c.in_ok-outcome.outcome) c.in_ok-copy.ensures ∙ ap (with_outcome c.args.values.now (Custom c.at.result.0.now)) c.in_ok-outcome.ensures)
