use Rattle.std.specs.Prelude.{map}
use Rattle.std.specs.List.{list_any}
use Rattle.std.proofs.Common.{◌≡◌, drop}
use Rattle.cv_reify.specs.Arguments.{is_wide_argument}
use Rattle.cv_reify.proofs.arguments.has_wide_argument.Given as goal

abbrev pub invariant-loop-list : goal.invariant-loop-list
invariant-loop-list l = list_any is_wide_argument (map (λ list. list.now) (drop l.list-index l.lists)) ≡ list_any is_wide_argument (map (λ list. list.now) l.lists)
