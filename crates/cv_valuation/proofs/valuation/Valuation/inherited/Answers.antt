use Rattle.std.proofs.Common.{◌∙◌, refl, ap}
use Rattle.cv_valuation.specs.Starts.{inherited_at}
use Rattle.cv_valuation.specs.Rows.{values_by}
use Rattle.cv_valuation.proofs.Rows.{inherits-kept, inherits-shared, outcome_at-values_by}
use Rattle.cv_valuation.proofs.valuation.Valuation.inherited.Goals as goal

pub invariant_of-result : goal.invariant_of-result
invariant_of-result c = (
  inherits-kept c.self.inside.custom _ c.self.inside.inherited c.self.inside.own _ c.initial.inside.custom c.initial.inside.inherited c.initial.inside.own _
      c.in_ok-shared.ensures c.in_ok-share.ensures c.in_ok-share-2.ensures c.self.invariant.0 c.initial.invariant.0,
  refl,
)

pub returns : goal.returns
returns c key =
    let initial = values_by c.initial.inside.custom c.initial.inside.inherited c.initial.inside.own in
    outcome_at-values_by c.in_ok-shared.field-0 c.in_ok-share.field-0 c.in_ok-share-2.field-0 key
    ∙ inherits-shared c.self.inside.custom c.in_ok-shared.field-0 c.self.inside.inherited c.self.inside.own c.in_ok-share.field-0 c.initial.inside.custom c.initial.inside.inherited c.initial.inside.own c.in_ok-share-2.field-0
    c.in_ok-shared.ensures c.in_ok-share.ensures c.in_ok-share-2.ensures key
    ∙ ap (λ values. inherited_at values initial key) c.self.view_is
    ∙ ap (λ values. inherited_at c.args.self.now values key) c.initial.view_is
