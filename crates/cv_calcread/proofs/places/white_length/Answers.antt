use Rattle.std.proofs.Common.{◌∙◌, sym, ap, arith}
use Rattle.cv_calcread.specs.Answer.{is_white}
use Rattle.cv_calcread.proofs.Searches.{white_here, white_later, white_none, white_end, white_more, white_last}
use Rattle.cv_calcread.proofs.places.white_length.Goals as goal

pub returns-then-not-is_white-clause-size : goal.returns-then-not-is_white-clause-size
returns-then-not-is_white-clause-size c =
    white_end _ c.loop-i.i c.args.from _ c.loop-i.invariant.1
    (white_here c.args.tokens.now c.loop-i.i _ c.loop-i-test.true (ap is_white (sym c.index-tokens-i.is) ∙ sym c.is_white.ensures ∙ c.if-not-is_white.true))

pub loop-i-preserved : goal.loop-i-preserved
loop-i-preserved c = (
  omega (arith, c.loop-i.invariant.0),
  white_more _ c.loop-i.i c.args.from _ _ c.loop-i.invariant.0 c.loop-i.invariant.1
      (white_later c.args.tokens.now c.loop-i.i _ c.loop-i-test.true (ap is_white (sym c.index-tokens-i.is) ∙ sym c.is_white.ensures ∙ c.if-not-is_white.false)),
)

pub returns-clause-size : goal.returns-clause-size
returns-clause-size c =
    white_last _ c.loop-i.i c.args.from _ _ c.loop-i.invariant.1 (white_none c.args.tokens.now c.loop-i.i c.loop-i-test.false) c.loop-i-test.false
    (c.loop-i.auto.i-end c.requires)
