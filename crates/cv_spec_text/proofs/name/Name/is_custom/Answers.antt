use Rattle.std.proofs.Common.{◌∙◌, ap}
use Rattle.cv_spec_text.specs.Keywords.{is_custom}
use Rattle.cv_spec_text.proofs.Custom.{is_custom-chars}
use Rattle.cv_spec_text.proofs.name.Name.is_custom.Goals as goal

pub returns : goal.returns
returns c = c.begins_custom.ensures ∙ ap is_custom c.as_bytes.ensures.value ∙ is_custom-chars _ c.text.utf8 ∙ ap is_custom c.text.ensures
