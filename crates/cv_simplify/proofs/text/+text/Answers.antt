use Rattle.std.specs.Prelude.{map, fold}
use Rattle.std.proofs.Common.{false, ◌∙◌, ap}
use Rattle.std.proofs.lemmas.List.{take_all}
use Rattle.cv_simplify.specs.declared.place.Place.TheVariants.{Whole, Argument}
use Rattle.cv_simplify.specs.Text.{written, with_child}
use Rattle.cv_simplify.proofs.Appends.{rank_start, rank_more, arguments_whole}
use Rattle.cv_simplify.proofs.text.+text.Goals as goal

pub write_line-loop-rank_now-init : goal.write_line-loop-rank_now-init
write_line-loop-rank_now-init t c = rank_start c.args.further c.args.out.now.items (map written c.args.children.now)

pub write_line-loop-rank_now-preserved : goal.write_line-loop-rank_now-preserved
write_line-loop-rank_now-preserved t c =
    rank_more c.args.further c.loop-rank_now.rank_now c.args.out.now.items _ _ (map written c.args.children.now) c.loop-rank_now.invariant c.in_ok-started.ensures

pub write_arguments-returns : goal.write_arguments-returns
write_arguments-returns t c =
    arguments_whole c.args.out.now.items c.loop-child.out.items c.loop-child.started (map written c.args.children.now)
    (c.loop-child.invariant
    ∙ ap (λ cs. fold (with_child Whole Argument) (record { line = c.args.out.now.items; started = false }) (map written cs)) (take_all c.loop-child.child-index c.args.children.now c.loop-child-test.false))
