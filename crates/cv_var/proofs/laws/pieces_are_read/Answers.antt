use Rattle.cv_var.proofs.PiecesRead.{pieces_are_read}
use Rattle.cv_var.proofs.laws.pieces_are_read.Goals as goal

pub returns : goal.returns
returns c = pieces_are_read
