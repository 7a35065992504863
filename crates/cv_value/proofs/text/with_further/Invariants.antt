use Rattle.std.proofs.Common.{◌≡◌, ◌++◌, drop}
use Rattle.cv_value.specs.Text.{separator, further_text}
use Rattle.cv_value.proofs.text.with_further.Given as goal

abbrev pub invariant-loop-item : goal.invariant-loop-item
invariant-loop-item l = l.all.items ++ further_text (separator l.commas) (drop l.item-index l.items) ≡ l.initial.all.items ++ further_text (separator l.commas) l.items
