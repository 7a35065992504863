use Rattle.std.specs.Prelude.{map}
use Rattle.std.proofs.Common.{◌≡◌, ◌++◌, drop}
use Rattle.cv_reify.specs.Text.{joined, separated}
use Rattle.cv_session.specs.Texts.{entry_text}
use Rattle.cv_session.proofs.reading.push_entries.Given as goal

abbrev pub invariant-loop-place : goal.invariant-loop-place
invariant-loop-place l = l.text.items ++ separated l.separator (map entry_text (drop l.place l.decls)) ≡ l.initial.text.items ++ joined (map entry_text l.decls)
