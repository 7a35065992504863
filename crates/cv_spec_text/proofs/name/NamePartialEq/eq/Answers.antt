use Rattle.std.proofs.Common.{◌∙◌}
use Rattle.cv_spec_text.proofs.Encoding.{bytes_eq-chars}
use Rattle.cv_spec_text.proofs.name.NamePartialEq.eq.Goals as goal

pub returns : goal.returns
returns c = rw (← c.text.ensures, ← c.text-2.ensures) (c.eq.ensures ∙ bytes_eq-chars _ _ c.text.utf8 c.text-2.utf8)
