use Rattle.cv_var.proofs.Finding.{StandsAt-inner}
use Rattle.cv_var.proofs.reference.reference_in.Goals as goal

pub returns-in-Some-2 : goal.returns-in-Some-2
returns-in-Some-2 c =
    let found = rw c.in-Some-2.is at (c.in_ok-fallback_in-in-Some.ensures.found c.in-Some.field-0-0.now) in
    let within = rw c.in-Some-2.is at c.in_ok-fallback_in-in-Some.ensures.within in
    rw c.moved.ensures (StandsAt-inner c.args.inner.now c.trim_front-front.result.now c.in-Some.rest.now c.in-Some.field-0-0.now c.in-Some-2.fallback c.trim_front-front.ensures.trimmed c.trim_front-front.ensures.end c.trim_front-front.ensures.within c.in-Some.ensures.found c.in-Some.ensures.named c.in-Some.ensures.end c.in-Some.ensures.within found within)
