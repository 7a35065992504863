use Rattle.std.proofs.Common.{◌≡◌, ◌-◌, length, Some, None, refl, sym, ◌∙◌, ap, drop, length-take, ◌++◌, arith}
use Rattle.std.proofs.lemmas.Option.{slice_get_read}
use Rattle.cv_var.specs.Places.{stretch}
use Rattle.cv_var.specs.References.{reference_at}
use Rattle.cv_var.proofs.Stretches.{length-stretch}
use Rattle.cv_var.proofs.PartSteps.{placed, name-fits, fallback-within, fallback-smaller}
use Rattle.cv_var.proofs.SegmentSteps.{added, segments_end, segments-token, segments-reference, inner}
use Rattle.cv_var.proofs.segment.+segments_between.Goals as goal
use Rattle.cv_var.proofs.segment.+segments_between.Goals.{in-None-fallback, in-Some-fallback+in_ok-segments_between-in-Some-fallback}

pub tokens-preserved-in-None : goal.tokens-preserved-in-None
tokens-preserved-in-None t c =
    let none : reference_at (stretch c.args.tokens.now c.tokens.place c.args.end) ≡ None = rw c.in-None.is at c.in_ok-reference_at.ensures.found in
    let here = slice_get_read c.args.tokens.now (length c.args.tokens.now) c.tokens.place c.index-tokens-place.result refl (omega (arith, c.tokens-test.true, c.requires.within)) c.index-tokens-place.is in
    record {
      segments =
          rw (c.in_ok-push-in-None.ensures.ok, c.in_ok-copy-in-None.ensures)
          (ap (λ ss. c.tokens.segments.items ++ ss) (sym (segments-token c.args.tokens.now c.tokens.place c.args.end c.tokens-test.true c.requires.within c.tokens.text c.index-tokens-place.result here none))
          ∙ c.tokens.invariant.segments);
      after = omega (arith, c.tokens.invariant.after);
      within = omega (arith, c.tokens-test.true);
    }

pub overflow_add-found : goal.overflow_add-found
overflow_add-found t c =
    let stands = rw c.in-Some.is at c.in_ok-reference_at.ensures.found in
    let fits = name-fits c.args.tokens.now c.tokens.place c.args.end c.tokens-test.true c.requires.within c.in-Some.found stands in
    omega arith

pub push_reference-requires : goal.push_reference-requires
push_reference-requires t c =
    let stands = rw c.in-Some.is at c.in_ok-reference_at.ensures.found in
    let there = placed c.args.tokens.now c.tokens.place c.args.end c.tokens-test.true c.requires.within c.in-Some.found stands in
    rw there.named refl

pub segments_between-requires : goal.segments_between-requires
segments_between-requires t c =
    let stands = rw c.in-Some.is at c.in_ok-reference_at.ensures.found in
    let within = fallback-within c.args.tokens.now c.tokens.place c.args.end c.tokens-test.true c.requires.within c.in-Some.found stands c.in-Some-fallback.extent c.in-Some-fallback.is in
    let smaller = fallback-smaller c.args.tokens.now c.tokens.place c.args.end c.tokens-test.true c.requires.within c.in-Some.found stands c.in-Some-fallback.extent c.in-Some-fallback.is in
    (omega (arith, smaller, c.decreases, c.tokens.invariant.after), (omega (arith, within.0), within.1))

pub tokens-preserved : goal.tokens-preserved
tokens-preserved t c =
    let stands = rw c.in-Some.is at c.in_ok-reference_at.ensures.found in
    let size = length-stretch c.args.tokens.now c.tokens.place c.args.end (omega (arith, c.tokens-test.true)) c.requires.within in
    let there = placed c.args.tokens.now c.tokens.place c.args.end c.tokens-test.true c.requires.within c.in-Some.found stands in
    let fallback_is : c.match-found.fallback ≡ inner c.args.tokens.now c.tokens.place c.args.end c.tokens-test.true c.requires.within c.in-Some.found.fallback =
    elim c.match-found.branch [
      | in-None-fallback w ↦ w.fallback-is ∙ ap (inner c.args.tokens.now c.tokens.place c.args.end c.tokens-test.true c.requires.within) (sym w.in-None-fallback.is)
      | in-Some-fallback+in_ok-segments_between-in-Some-fallback w ↦ w.fallback-is ∙ ap Some (w.from_vec.ensures ∙ w.in_ok-segments_between-in-Some-fallback.ensures) ∙ ap (inner c.args.tokens.now c.tokens.place c.args.end c.tokens-test.true c.requires.within) (sym w.in-Some-fallback.is)
    ] in
    record {
      segments =
          rw (c.in_ok-push_reference-in-Some.ensures there.name there.named, c.in_ok-push_text-in-Some.ensures, c.new-text-in-Some.ensures, c.function_size.ensures.size)
          (added c.tokens.segments.items c.tokens.text _ _
          ∙ ap (λ ss. c.tokens.segments.items ++ ss) (sym (segments-reference c.args.tokens.now c.tokens.place c.args.end c.tokens-test.true c.requires.within c.in-Some.found stands c.tokens.text c.match-found.fallback fallback_is))
          ∙ c.tokens.invariant.segments);
      after = omega (arith, c.tokens.invariant.after);
      within = omega (arith, c.function_size.ensures.within, c.tokens-test.true, size);
    }

pub returns : goal.returns
returns t c =
    c.in_ok-push_text.ensures
    ∙ segments_end c.tokens.segments.items _ c.tokens.text _ c.tokens.invariant.segments (omega (arith, c.tokens-test.false, length-take (c.args.end - c.tokens.place) (drop c.tokens.place c.args.tokens.now)))
