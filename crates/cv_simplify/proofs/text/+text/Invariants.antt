use Rattle.std.specs.Prelude.{fold, map}
use Rattle.std.proofs.Common.{◌≡◌, take}
use Rattle.cv_simplify.specs.declared.place.Place.TheVariants.{Whole, Argument}
use Rattle.cv_simplify.specs.Text.{written, with_child, with_rank, ranked}
use Rattle.cv_simplify.specs.Starts.{behind}
use Rattle.cv_simplify.proofs.text.+text.Given as goal

abbrev pub invariant-write_ranked-loop-child : goal.invariant-write_ranked-loop-child
invariant-write_ranked-loop-child l =
    record { line = l.out.items; started = l.started } ≡ fold (with_rank l.further l.rank_now) (record { line = l.initial.out.items; started = l.initial.started }) (map written (take l.child-index l.children))

abbrev pub invariant-write_line-loop-rank_now : goal.invariant-write_line-loop-rank_now
invariant-write_line-loop-rank_now l = record { line = l.out.items; started = l.started } ≡ behind l.initial.out.items (ranked l.further (map written l.children) l.rank_now)

abbrev pub invariant-write_arguments-loop-child : goal.invariant-write_arguments-loop-child
invariant-write_arguments-loop-child l =
    record { line = l.out.items; started = l.started } ≡ fold (with_child Whole Argument) (record { line = l.initial.out.items; started = l.initial.started }) (map written (take l.child-index l.children))
