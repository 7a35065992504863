use Rattle.std.proofs.Common.{◌∙◌, ap, sym}
use Rattle.std.specs.Prelude.{encode_utf8_all}
use Rattle.std.proofs.lemmas.Str.{encodes-chars}
use Rattle.cv_update.proofs.names.bytes_of.Goals as goal

pub returns : goal.returns
returns c = c.as_bytes.ensures.value ∙ sym (encodes-chars c.text.result.now c.text.utf8) ∙ ap encode_utf8_all c.text.ensures
