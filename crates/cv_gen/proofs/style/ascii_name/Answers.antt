use Rattle.std.specs.Prelude.{IfOk}
use Rattle.std.proofs.Common.{◌≡◌, subst, List, ℕ}
use Rattle.std.proofs.lemmas.Str.{chars-IsAscii}
use Rattle.cv_gen.proofs.style.ascii_name.Goals as goal

pub returns : goal.returns
returns c = subst (λ (w : List ℕ). IfOk c.of.result (λ name. name ≡ w)) (chars-IsAscii c.args.text.now c.requires) c.of.ensures
