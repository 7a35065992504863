use Rattle.std.proofs.Common.{rules, subst}
use Rattle.std.specs.Prelude.{IsUtf8, string_bytes, encode_utf8}
use Rattle.cv_spec_text.proofs.Encoding.{chars-push}
use Rattle.cv_tokser.proofs.Appended.{grown}
use Rattle.cv_tokser.proofs.buffer.Buffer.push.Goals as goal

pub returns : goal.returns
returns c =
    rw (← c.self.view_is)
    (chars-push c.push.result (string_bytes c.self.inside.text) (string_bytes c.push.new.self) c.args.character (subst IsUtf8 c.as_str.ensures.value c.as_str.utf8) (search (rules, c.ranges.character))
    (grown c.push.result (string_bytes c.self.inside.text) (encode_utf8 c.args.character) (string_bytes c.push.new.self) c.push.ensures.bytes))
