use Rattle.std.proofs.Common.{arith, ap, ◌∙◌, ◌++◌, ◌+◌}
use Rattle.std.specs.Prelude.{map}
use Rattle.cv_update.specs.Changes.{left_from}
use Rattle.cv_update.specs.Names.{key_of}
use Rattle.cv_update.proofs.Differences.{begun_changes, ended_changes}
use Rattle.cv_update.proofs.changing.changes.Goals as goal

pub loop-place-init : goal.loop-place-init
loop-place-init c = begun_changes (map key_of c.args.names.now) c.args.old.now c.args.fresh.now.start c.args.fresh.now.all.items (c.args.fresh.now.start + 0) c.new-all.result.items c.new-all.ensures.items (omega arith)

pub loop-place-preserved : goal.loop-place-preserved
loop-place-preserved c =
    ap (λ n. c.push_at.new.all.items ++ left_from (map key_of c.args.names.now) c.args.old.now c.args.fresh.now n) {x = c.args.fresh.now.start + (c.loop-place.place + 1)} {y = c.args.fresh.now.start + c.loop-place.place + 1} (omega arith)
    ∙ c.in_ok-push_at.ensures ∙ c.loop-place.invariant

pub returns : goal.returns
returns c = ended_changes (map key_of c.args.names.now) c.args.old.now c.args.fresh.now.start c.args.fresh.now.all.items (c.args.fresh.now.start + c.loop-place.place) c.loop-place.all.items (omega (arith, c.loop-place-test.false, c.len-place-end.ensures)) c.loop-place.invariant
