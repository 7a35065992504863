use Rattle.std.proofs.Common.{◌∙◌, sym, ap}
use Rattle.cv_calcread.specs.Answer.{is_wide}
use Rattle.cv_calcread.proofs.Searches.{wide_here, wide_later, wide_none}
use Rattle.cv_calcread.proofs.places.wide_place.Goals as goal

pub returns-then-is_wide : goal.returns-then-is_wide
returns-then-is_wide c = sym (wide_here c.args.tokens.now c.loop-i.i _ c.loop-i-test.true (ap is_wide (sym c.index-tokens-i.is) ∙ sym c.is_wide.ensures ∙ c.if-is_wide.true)) ∙ c.loop-i.invariant

pub loop-i-preserved : goal.loop-i-preserved
loop-i-preserved c = sym (wide_later c.args.tokens.now c.loop-i.i _ c.loop-i-test.true (ap is_wide (sym c.index-tokens-i.is) ∙ sym c.is_wide.ensures ∙ c.if-is_wide.false)) ∙ c.loop-i.invariant

pub returns : goal.returns
returns c = sym (wide_none c.args.tokens.now c.loop-i.i c.loop-i-test.false _) ∙ c.loop-i.invariant
