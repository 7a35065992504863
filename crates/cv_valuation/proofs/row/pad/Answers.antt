use Rattle.std.proofs.Common.{◌∙◌, ◌∷◌, [], ap, length, length-append, arith}
use Rattle.cv_valuation.specs.declared.outcome.Outcome.TheVariants.{Invalid}
use Rattle.cv_valuation.specs.Rows.{in_row}
use Rattle.cv_valuation.proofs.InRows.{in_row-push}
use Rattle.cv_valuation.proofs.row.pad.Goals as goal

pub loop-preserved : goal.loop-preserved
loop-preserved c =
    let is = c.in_ok-push.ensures.items in
    record {
      same = λ place. ap (λ row. in_row row place) is ∙ in_row-push c.loop.all.items place ∙ c.loop.invariant.same place;
      counted = omega (arith, ap length is, length-append c.loop.all.items (Invalid ∷ []), c.loop.invariant.counted);
    }
