use Rattle.std.proofs.Common.{◌≡◌, ℕ, ◌∙◌, ◌+◌, length, List, ap, arith}
use Rattle.std.proofs.lemmas.List.{length_push}
use Rattle.cv_spec_valuation.specs.Registered.{is_loose}
use Rattle.cv_element.specs.Settling.{key_at}
use Rattle.cv_element.proofs.Looping.{flags_more}
use Rattle.cv_element.proofs.held.loose_places.Goals as goal

pub loop-place-preserved : goal.loop-place-preserved
loop-place-preserved c = record {
  count = ap (λ (l : List _). length l) c.in_ok-push.ensures.items ∙ length_push c.loop-place.flags.items c.loose_at-here.result ∙ ap (λ n. n + 1) c.loop-place.invariant.count;
  flags = flags_more (λ i b. b ≡ is_loose c.args.registry.now (key_at c.args.decls.now i)) c.loop-place.flags.items c.push.new.self.items c.loose_at-here.result c.loop-place.place c.loop-place.invariant.count c.in_ok-push.ensures.items c.loop-place.invariant.flags c.loose_at-here.ensures;
}

pub returns-clause-flags : goal.returns-clause-flags
returns-clause-flags c = λ place below. c.loop-place.invariant.flags place (omega (arith, below))

pub returns-clause-count : goal.returns-clause-count
returns-clause-count c = omega (arith, c.loop-place.invariant.count)
