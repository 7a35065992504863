use Rattle.std.proofs.Common.{◌∙◌, ap, subst}
use Rattle.cv_valuation.specs.declared.key.Key.TheVariants.{Custom}
use Rattle.cv_valuation.specs.Valuations.{with_outcome}
use Rattle.cv_valuation.specs.Tries.{Sets}
use Rattle.cv_valuation.proofs.Rows.{kept-with, sets-custom, values_by-with}
use Rattle.cv_valuation.proofs.valuation.Valuation.put_custom.Goals as goal

pub invariant_of-self : goal.invariant_of-self
invariant_of-self c =
    let old = c.self.inside.custom in
    let new = c.in_ok-self-inside.field-0 in
    let key = Custom c.args.name in
    let sets = subst (λ path. Sets old new path key c.args.outcome) c.path_of-path.ensures c.in_ok-self-inside.ensures in (
      kept-with old c.self.inside.inherited c.self.inside.own new c.self.inside.inherited c.self.inside.own key c.args.outcome
          (sets-custom old new c.self.inside.inherited c.self.inside.own c.args.name c.args.outcome sets) c.self.invariant.0 c.requires,
      c.self.invariant.1,
    )

pub returns-clause-ok : goal.returns-clause-ok
returns-clause-ok c =
    let old = c.self.inside.custom in
    let new = c.in_ok-self-inside.field-0 in
    let key = Custom c.args.name in
    let sets = subst (λ path. Sets old new path key c.args.outcome) c.path_of-path.ensures c.in_ok-self-inside.ensures in
    values_by-with old c.self.inside.inherited c.self.inside.own new c.self.inside.inherited c.self.inside.own key c.args.outcome
    (sets-custom old new c.self.inside.inherited c.self.inside.own c.args.name c.args.outcome sets)
    ∙ ap (λ values. with_outcome values key c.args.outcome) c.self.view_is
