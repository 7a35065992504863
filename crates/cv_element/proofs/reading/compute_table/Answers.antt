use Rattle.std.proofs.Common.{◌≡◌, sym, ◌∙◌, ap, subst}
use Rattle.cv_numeric.specs.declared.matched.Matched.TheVariants.{Fit}
use Rattle.cv_value.specs.Kept.{MayBeKept}
use Rattle.cv_element.proofs.Computing.{computed_kept, computed_met}
use Rattle.cv_element.proofs.reading.compute_table.Goals as goal

pub remember-requires : goal.remember-requires
remember-requires c =
    let initial = subst MayBeKept (sym c.in_ok-initial.ensures) (c.properties_may_be_kept.ensures.initial c.args.property) in
    computed_met c.properties_may_be_kept.ensures c.args.property c.args.x.now c.tokens.result.now c.args.list.now c.tokens.ensures.tokens c.inherited.result.now (c.inherited.ensures.kept initial) c.in-Ok.value c.in-Ok.ensures.ok

pub returns-in-Ok-clause-kept : goal.returns-in-Ok-clause-kept
returns-in-Ok-clause-kept c =
    λ v is.
    let same : c.in-Ok.value ≡ v = cc in
    let initial = subst MayBeKept (sym c.in_ok-initial.ensures) (c.properties_may_be_kept.ensures.initial c.args.property) in
    subst MayBeKept same (computed_kept c.properties_may_be_kept.ensures c.args.property c.args.x.now c.tokens.result.now c.inherited.result.now (c.inherited.ensures.kept initial) c.in-Ok.value c.in-Ok.ensures.ok)
