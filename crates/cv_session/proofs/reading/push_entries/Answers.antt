use Rattle.cv_session.proofs.Entries.{entry_pushed}
use Rattle.cv_session.proofs.reading.push_entries.Goals as goal

pub loop-place-preserved : goal.loop-place-preserved
loop-place-preserved c =
    entry_pushed c.args.decls.now c.loop-place.place c.at.result.0.now c.at.result.1.now _ _ _ _ _ c.at.ensures.entry c.in_ok-extend_from_slice.ensures.items
    c.in_ok-push_entry.ensures c.loop-place.invariant
