use Rattle.std.proofs.Common.{arith}
use Rattle.cv_io.proofs.KnownBytes.{GaveMoreThan-front}
use Rattle.cv_io.proofs.source.read_all.Goals as goal

pub returns-then-count-most-clause-too_long : goal.returns-then-count-most-clause-too_long
returns-then-count-most-clause-too_long g c is_too_long =
    GaveMoreThan-front _ _ _ _ _ _ _ c.loop-count.invariant.so_far c.in-Ok.ensures.bytes.0 c.in-Ok.ensures.bound.0 (omega (arith, c.loop-count.invariant.bound, c.if-count-most.true))
