use Rattle.std.proofs.Common.{◌≡◌, drop}
use Rattle.std.specs.Prelude.{fold}
use Rattle.cv_var.specs.Flat.{flattened}
use Rattle.cv_var.specs.Names.{with_name, names_in, firsts}
use Rattle.cv_var.specs.References.{pieces_of}
use Rattle.cv_var.proofs.names.firsts.Given as goal

abbrev pub invariant-loop-number : goal.invariant-loop-number
invariant-loop-number l = fold with_name l.names.keys (names_in (drop l.number (flattened (pieces_of l.declared)))) ≡ firsts (names_in (flattened (pieces_of l.declared)))
