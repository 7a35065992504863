use Rattle.std.proofs.Common.{rules}
use Rattle.std.proofs.lemmas.Str.{chars-nil}
use Rattle.cv_tokser.proofs.buffer.Buffer.new.Goals as goal

pub returns : goal.returns
returns c = search (rules, chars-nil)
