use Rattle.std.proofs.Common.{◌∙◌, refl, subst, sym}
use Rattle.cv_valuation.specs.Valuations.{MayKeep}
use Rattle.cv_valuation.proofs.Rows.{same-shared, values_by-same}
use Rattle.cv_valuation.proofs.valuation.Valuation.copy.Goals as goal

pub invariant_of-result : goal.invariant_of-result
invariant_of-result c =
    ((λ key. subst (MayKeep key) (sym (same-shared c.self.inside.custom _ c.self.inside.inherited _ c.self.inside.own _ c.in_ok-shared.ensures c.in_ok-share.ensures c.in_ok-share-2.ensures key)) (c.self.invariant.0 key)), refl)

pub returns : goal.returns
returns c =
    values_by-same c.self.inside.custom c.self.inside.inherited c.self.inside.own _ _ _
    (same-shared c.self.inside.custom _ c.self.inside.inherited _ c.self.inside.own _ c.in_ok-shared.ensures c.in_ok-share.ensures c.in_ok-share-2.ensures)
    ∙ c.self.view_is
