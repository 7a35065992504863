use Rattle.std.specs.Prelude.{map}
use Rattle.std.proofs.Common.{◌≡◌, ◌++◌, drop}
use Rattle.cv_om.specs.Text.{row_tokens, written}
use Rattle.cv_om.proofs.text.+write.Given as goal

abbrev pub invariant-push_row-loop-child : goal.invariant-push_row-loop-child
invariant-push_row-loop-child l = l.out.items ++ row_tokens l.place l.further (map written (drop l.child-index l.children)) ≡ l.initial.out.items ++ row_tokens l.fn.first l.further (map written l.children)
