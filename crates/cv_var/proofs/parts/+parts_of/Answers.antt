use Rattle.std.proofs.Common.{◌-◌, drop, length-take, arith}
use Rattle.cv_var.proofs.Stretches.{length-stretch}
use Rattle.cv_var.proofs.PartSteps.{parts_read, parts_end, parts-token, name-fits, step-bare, step-fallback, fallback-within, fallback-smaller}
use Rattle.cv_var.proofs.parts.+parts_of.Goals as goal
use Rattle.cv_var.proofs.parts.+parts_of.Goals.{in-None-fallback+in_ok-push-in-None-fallback, in-Some-fallback+in_ok-inner-in-Some-fallback+in_ok-push_reference-in-Some-fallback}

pub parts-preserved-in-None : goal.parts-preserved-in-None
parts-preserved-in-None t c =
    let none = rw c.in-None.is at c.in_ok-reference_at.ensures.found in
    record {
      parts =
          rw c.in_ok-push-in-None.ensures.items
          (parts_read c.args.tokens.now _ _ _ _ _ c.parts.invariant.parts (parts-token c.args.tokens.now c.parts.at c.args.end c.parts-test.true c.requires.within none));
      after = omega (arith, c.parts.invariant.after);
      within = omega (arith, c.parts-test.true);
    }

pub overflow_add-name : goal.overflow_add-name
overflow_add-name t c =
    let stands = rw c.in-Some.is at c.in_ok-reference_at.ensures.found in
    let fits = name-fits c.args.tokens.now c.parts.at c.args.end c.parts-test.true c.requires.within c.in-Some.found stands in
    omega arith

pub parts_of-requires : goal.parts_of-requires
parts_of-requires t c =
    let stands = rw c.in-Some.is at c.in_ok-reference_at.ensures.found in
    let within = fallback-within c.args.tokens.now c.parts.at c.args.end c.parts-test.true c.requires.within c.in-Some.found stands c.in-Some-fallback.extent c.in-Some-fallback.is in
    let smaller = fallback-smaller c.args.tokens.now c.parts.at c.args.end c.parts-test.true c.requires.within c.in-Some.found stands c.in-Some-fallback.extent c.in-Some-fallback.is in
    (omega (arith, smaller, c.decreases, c.parts.invariant.after), (omega (arith, within.0), within.1))

pub parts-preserved : goal.parts-preserved
parts-preserved t c =
    let stands = rw c.in-Some.is at c.in_ok-reference_at.ensures.found in
    let size = length-stretch c.args.tokens.now c.parts.at c.args.end (omega (arith, c.parts-test.true)) c.requires.within in
    record {
      parts =
          elim c.match-found.branch [
            | in-None-fallback+in_ok-push-in-None-fallback w ↦
                rw (w.parts-is, w.in_ok-push-in-None-fallback.ensures.items, c.function_size-at.ensures.size)
                (parts_read c.args.tokens.now _ _ _ _ _ c.parts.invariant.parts (step-bare c.args.tokens.now c.parts.at c.args.end c.parts-test.true c.requires.within c.in-Some.found stands w.in-None-fallback.is))
            | in-Some-fallback+in_ok-inner-in-Some-fallback+in_ok-push_reference-in-Some-fallback w ↦
                rw (w.parts-is, w.in_ok-push_reference-in-Some-fallback.ensures, c.function_size-at.ensures.size)
                (parts_read c.args.tokens.now _ _ _ _ _ c.parts.invariant.parts (step-fallback c.args.tokens.now c.parts.at c.args.end c.parts-test.true c.requires.within c.in-Some.found stands w.in-Some-fallback.extent w.in-Some-fallback.is _ w.in_ok-inner-in-Some-fallback.ensures))
          ];
      after = omega (arith, c.parts.invariant.after);
      within = omega (arith, c.function_size-at.ensures.within, c.parts-test.true, size);
    }

pub returns : goal.returns
returns t c = parts_end c.args.tokens.now _ _ _ c.parts.invariant.parts (omega (arith, c.parts-test.false, length-take (c.args.end - c.parts.at) (drop c.parts.at c.args.tokens.now)))
