use Rattle.std.proofs.Common.{◌≡◌, take, map}
use Rattle.std.specs.Option.{option_copied}
use Rattle.cv_component.specs.Shared.{piece_of}
use Rattle.cv_props.specs.Registration.{last_said, initial_in}
use Rattle.cv_props.proofs.descriptors.last_initial.Given as goal

abbrev pub invariant-loop-piece : goal.invariant-loop-piece
invariant-loop-piece l = option_copied l.last ≡ last_said initial_in (map piece_of (take l.piece-index l.block))
