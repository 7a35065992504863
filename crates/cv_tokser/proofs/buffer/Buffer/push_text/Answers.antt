use Rattle.std.proofs.Common.{subst}
use Rattle.std.specs.Prelude.{IsUtf8, string_bytes}
use Rattle.cv_tokser.proofs.Appended.{grown, chars-grown}
use Rattle.cv_tokser.proofs.buffer.Buffer.push_text.Goals as goal

pub returns : goal.returns
returns c =
    rw (← c.self.view_is)
    (chars-grown c.push_str.result (string_bytes c.self.inside.text) c.args.text.now (string_bytes c.push_str.new.self) (subst IsUtf8 c.as_str.ensures.value c.as_str.utf8)
    (grown c.push_str.result (string_bytes c.self.inside.text) c.args.text.now (string_bytes c.push_str.new.self) c.push_str.ensures.bytes))
