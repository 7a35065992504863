use Rattle.std.proofs.Common.{◌≡◌, take}
use Rattle.std.specs.List.{list_any}
use Rattle.cv_var.specs.Flat.{flattened}
use Rattle.cv_var.specs.References.{pieces_of}
use Rattle.cv_element.specs.Holding.{piece_is_keyword}
use Rattle.cv_element.proofs.held.declares_keyword.Given as goal

abbrev pub invariant-loop-number : goal.invariant-loop-number
invariant-loop-number l = l.has ≡ list_any piece_is_keyword (take l.number (flattened (pieces_of l.declared)))
