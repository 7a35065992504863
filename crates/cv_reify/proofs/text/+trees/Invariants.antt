use Rattle.std.specs.Prelude.{map}
use Rattle.std.proofs.Common.{◌≡◌, ◌++◌, drop}
use Rattle.cv_reify.specs.Text.{joined, separated, tree_text}
use Rattle.cv_reify.proofs.text.+trees.Given as goal

abbrev pub invariant-push_trees-loop-child : goal.invariant-push_trees-loop-child
invariant-push_trees-loop-child l = l.text.items ++ separated l.separator (map tree_text (drop l.child-index l.children)) ≡ l.initial.text.items ++ joined (map tree_text l.children)
