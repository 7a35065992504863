use Rattle.std.proofs.Common.{◌∙◌, ap, ◌≡◌, arith}
use Rattle.cv_valuation.specs.Starts.{initial_or}
use Rattle.cv_valuation.specs.Valuations.{outcome_at}
use Rattle.cv_valuation.proofs.Begun.{begun}
use Rattle.cv_valuation.proofs.Beginning.{begun_all, begun_next, begun_none}
use Rattle.cv_valuation.proofs.valuation.Valuation.initial.Goals as goal

pub loop-number-init : goal.loop-number-init
loop-number-init c key = ap (λ values. outcome_at values key) c.new-values.ensures ∙ begun_none key

pub loop-number-preserved : goal.loop-number-preserved
loop-number-preserved c key =
    c.in_ok-put_initial.ensures key
    ∙ ap (initial_or c.loop-number.number key) (c.loop-number.invariant key)
    ∙ begun_next c.loop-number.number key

pub returns : goal.returns
returns c key =
    let end : c.loop-number.number ≡ 35 = omega (arith, c.loop-number-test.false, c.loop-number.auto) in
    c.loop-number.invariant key ∙ ap (λ number. begun number key) end ∙ begun_all key
