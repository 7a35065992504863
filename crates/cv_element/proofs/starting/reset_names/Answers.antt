use Rattle.std.proofs.Common.{◌≡◌, length, subst, arith}
use Rattle.cv_element.specs.Starting.{AreReset}
use Rattle.cv_element.proofs.Starts.{reset_none}
use Rattle.cv_element.proofs.starting.reset_names.Goals as goal

pub loop-place-init : goal.loop-place-init
loop-place-init c = reset_none c.args.registry.now c.args.all c.args.values.now

pub loop-place-preserved : goal.loop-place-preserved
loop-place-preserved c = c.in_ok-reset_one.ensures c.args.values.now c.loop-place.invariant

pub returns : goal.returns
returns c =
    let whole : c.loop-place.place ≡ length c.args.registry.now = omega arith in
    subst (λ n. AreReset c.args.registry.now c.args.all n c.args.values.now c.loop-place.values) whole c.loop-place.invariant
