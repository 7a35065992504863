use Rattle.std.proofs.Common.{◌∙◌, ◌++◌, ◌+◌, sym, ap}
use Rattle.cv_calcread.specs.Answer.{is_solidus}
use Rattle.cv_calcread.proofs.Searches.{divisor_here, divisor_later, divisors_none, places_more, places_end}
use Rattle.cv_calcread.proofs.places.divisor_places.Goals as goal

pub loop-i-preserved-then-not-is_solidus : goal.loop-i-preserved-then-not-is_solidus
loop-i-preserved-then-not-is_solidus c =
    ap (λ rest. c.loop-i.places.items ++ rest) (sym (divisor_later c.args.tokens.now c.loop-i.i _ c.loop-i-test.true (ap is_solidus (sym c.index-tokens-i.is) ∙ sym c.is_solidus.ensures ∙ c.if-not-is_solidus.true)))
    ∙ c.loop-i.invariant

pub loop-i-preserved : goal.loop-i-preserved
loop-i-preserved c =
    places_more _ _ _ _ _ _ c.in_ok-push.ensures.items (ap (λ n. c.loop-i.i + 1 + n) c.white_length.ensures.size)
    (ap (λ rest. c.loop-i.places.items ++ rest) (sym (divisor_here c.args.tokens.now c.loop-i.i _ c.loop-i-test.true (ap is_solidus (sym c.index-tokens-i.is) ∙ sym c.is_solidus.ensures ∙ c.if-not-is_solidus.false)))
    ∙ c.loop-i.invariant)

pub returns : goal.returns
returns c = places_end _ _ _ (divisors_none c.args.tokens.now c.loop-i.i c.loop-i-test.false _) c.loop-i.invariant
