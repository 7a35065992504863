use Rattle.std.proofs.Common.{arith}
use Rattle.cv_var.specs.Flat.{flattened}
use Rattle.cv_var.specs.References.{pieces_of}
use Rattle.cv_element.specs.Holding.{piece_is_keyword}
use Rattle.cv_element.proofs.Looping.{piece_next, any_end}
use Rattle.cv_element.proofs.held.declares_keyword.Goals as goal

pub loop-number-preserved : goal.loop-number-preserved
loop-number-preserved c =
    piece_next piece_is_keyword (flattened (pieces_of c.args.declared.now)) c.loop-number.number (omega arith) c.loop-number.has c.keyword_at-here.result c.either-has.result c.loop-number.invariant c.keyword_at-here.ensures c.either-has.ensures

pub returns : goal.returns
returns c = any_end piece_is_keyword (flattened (pieces_of c.args.declared.now)) c.loop-number.number (omega arith) c.loop-number.has c.loop-number.invariant
