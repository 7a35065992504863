use Rattle.std.proofs.Common.{◌≡◌, take, map}
use Rattle.cv_component.specs.Shared.{piece_of}
use Rattle.cv_props.specs.Registration.{last_said, syntax_in}
use Rattle.cv_props.proofs.descriptors.last_syntax.Given as goal

abbrev pub invariant-loop-piece : goal.invariant-loop-piece
invariant-loop-piece l = l.last ≡ last_said syntax_in (map piece_of (take l.piece-index l.block))
