use Rattle.std.proofs.Common.{rules}
use Rattle.std.proofs.lemmas.Str.{encodes-chars}
use Rattle.cv_spec_text.proofs.name.NameHash.hash.Goals as goal

pub returns : goal.returns
returns g c = rw (← c.text.ensures, encodes-chars c.text.result.now c.text.utf8) (search rules)
