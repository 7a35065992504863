use Rattle.std.proofs.Common.{get_or, refl}
use Rattle.cv_props.specs.declared.note.Note.{Note}
use Rattle.cv_props.specs.declared.note.NotePlace.TheVariants.{Rule}
use Rattle.cv_props.specs.declared.note.Why.TheVariants.{Skipped}
use Rattle.cv_report.specs.Report.{note_line}
use Rattle.cv_reify_report.proofs.Took.{TookPrefix-more}
use Rattle.cv_reify_report.proofs.writing.write_notes.Goals as goal

-- what stands past the end of a list
past : Note
past = record { place = Rule 0; why = Skipped }

pub returns-in-Err-clause-taken : goal.returns-in-Err-clause-taken
unfolding past
returns-in-Err-clause-taken g c = record {
  whole = tt;
  part = TookPrefix-more note_line c.args.notes.now c.loop-note.note-index past (get_or c.args.notes.now c.loop-note.note-index past) c.loop-note-test.true refl
      (g.O.Sink.taken c.args.out.now) (g.O.Sink.taken c.loop-note.out) (g.O.Sink.taken c.write_note.new.out) c.loop-note.invariant.taken c.in-Err.ensures.taken.part;
}
