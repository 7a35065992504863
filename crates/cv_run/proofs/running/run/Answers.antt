use Rattle.std.proofs.Common.{subst, ◌⊎◌}
use Rattle.std.specs.Prelude.{IfSome}
use Rattle.cv_words.specs.Words.{texts_of}
use Rattle.std.specs.Io.KnownBytes.{Keeps}
use Rattle.cv_run.specs.Outcome.{HasWritten, HasWrittenFront, IsOutOfRange}
use Rattle.cv_run.specs.StatusLines.{line_of}
use Rattle.cv_run.proofs.Taken.{took_prefix}
use Rattle.cv_run.proofs.running.run.Goals as goal

pub returns-clause-line : goal.returns-clause-line
returns-clause-line g c = took_prefix (g.E.Sink.taken c.args.err.now) (g.E.Sink.taken c.put_line.new.err) (line_of c.answer-status.result) c.put_line.result c.put_line.ensures.taken

pub returns-clause-range : goal.returns-clause-range
returns-clause-range g c = λ element property is.
    subst (λ w. IfSome (g.S.Source.left c.args.src.now) (λ given. IsOutOfRange (texts_of w) given element property)) c.deref.ensures.value (c.answer-status.ensures.range element property is)

pub returns-clause-done : goal.returns-clause-done
returns-clause-done g c = λ is.
    subst (λ w. IfSome (g.S.Source.left c.args.src.now) (λ given. HasWritten (texts_of w) given (g.O.Sink.taken c.args.out.now) (g.O.Sink.taken c.answer-status.new.out))) c.deref.ensures.value (c.answer-status.ensures.done is)

pub returns-clause-cut_short : goal.returns-clause-cut_short
returns-clause-cut_short g c = λ is.
    subst (λ w. IfSome (g.S.Source.left c.args.src.now) (λ given. HasWrittenFront (texts_of w) given (g.O.Sink.taken c.args.out.now) (g.O.Sink.taken c.answer-status.new.out))) c.deref.ensures.value (c.answer-status.ensures.cut_short is)

pub returns-clause-no_memory : goal.returns-clause-no_memory
returns-clause-no_memory g c = λ is.
    subst (λ w. IfSome (g.S.Source.left c.args.src.now) (λ given. Keeps (g.O.Sink.taken c.args.out.now) (g.O.Sink.taken c.answer-status.new.out) ⊎ HasWrittenFront (texts_of w) given (g.O.Sink.taken c.args.out.now) (g.O.Sink.taken c.answer-status.new.out))) c.deref.ensures.value (c.answer-status.ensures.no_memory is)
