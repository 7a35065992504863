use Rattle.std.proofs.Common.{◌≡◌, ◌↔◌, ℕ, ◌∙◌, ◌+◌, true, length, [], ◌∷◌, ◌++◌, List, ap, arith}
use Rattle.std.proofs.lemmas.List.{length_push}
use Rattle.std.specs.Option.{option_copied}
use Rattle.cv_spec_valuation.specs.Element.{the_element}
use Rattle.cv_element.specs.Holding.{BeginsFont}
use Rattle.cv_element.proofs.Looping.{flags_more}
use Rattle.cv_element.proofs.held.beginnings.Goals as goal

pub loop-place-preserved : goal.loop-place-preserved
loop-place-preserved c = record {
  count = ap (λ (l : List _). length l) c.in_ok-push.ensures.items ∙ length_push c.loop-place.flags.items c.in_ok-begins.begins ∙ ap (λ n. n + 1) c.loop-place.invariant.count;
  flags = flags_more (λ i b. (most : ℕ) → (b ≡ true) ↔ BeginsFont (the_element c.args.registry.now c.args.decls.now (option_copied c.args.parent) c.args.at.now most) c.args.decls.now i) c.loop-place.flags.items c.push.new.self.items c.in_ok-begins.begins c.loop-place.place c.loop-place.invariant.count c.in_ok-push.ensures.items c.loop-place.invariant.flags c.in_ok-begins.ensures;
}

pub returns-clause-flags : goal.returns-clause-flags
returns-clause-flags c = λ place below most. c.loop-place.invariant.flags place (omega (arith, below)) most

pub returns-clause-count : goal.returns-clause-count
returns-clause-count c = omega (arith, c.loop-place.invariant.count)
