use Rattle.std.proofs.Common.{◌≡◌}
use Rattle.std.specs.Prelude.{map}
use Rattle.std.specs.List.{range_with_len}
use Rattle.cv_gen.specs.Generated.{element_of}
use Rattle.cv_gen.proofs.document.elements.Given as goal

abbrev pub invariant-loop-index : goal.invariant-loop-index
invariant-loop-index l = l.elements.items ≡ map element_of (range_with_len 0 l.index)
