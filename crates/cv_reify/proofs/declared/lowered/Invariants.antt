use Rattle.std.specs.Prelude.{map}
use Rattle.std.specs.Char.{to_ascii_lowercase}
use Rattle.std.proofs.Common.{◌≡◌, take}
use Rattle.cv_reify.proofs.declared.lowered.Given as goal

abbrev pub invariant-loop-character : goal.invariant-loop-character
invariant-loop-character l = l.lower ≡ map to_ascii_lowercase (take l.character-index l.characters)
