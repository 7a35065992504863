use Rattle.std.proofs.Common.{◌∙◌, ap}
use Rattle.cv_color.specs.Hex.{hex}
use Rattle.cv_color.proofs.Digits.{hex-chars}
use Rattle.cv_color.proofs.hexadecimal.hex.Goals as goal

pub returns : goal.returns
returns c = c.of_bytes.ensures ∙ ap hex c.as_bytes.ensures.value ∙ hex-chars _ c.text.utf8 ∙ ap hex c.text.ensures
