use Rattle.std.proofs.Common.{◌≡◌, take}
use Rattle.std.specs.Prelude.{encode_utf8_all}
use Rattle.cv_spec_text.proofs.name.short_of.Given as goal

abbrev pub invariant-loop-character : goal.invariant-loop-character
invariant-loop-character l = l.short.bytes ≡ encode_utf8_all (take l.character-index l.characters)
