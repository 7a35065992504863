use Rattle.std.proofs.Common.{◌∙◌, ap, arith, subst}
use Rattle.std.specs.Io.KnownBytes.{Appends}
use Rattle.std.specs.Option.{option_copied}
use Rattle.cv_io.specs.Streams.{TookPrefix}
use Rattle.cv_report.specs.Report.{cause_of, value_lines}
use Rattle.cv_report.proofs.Finding.{lines_of_cause}
use Rattle.cv_report.proofs.Took.{Appends-more, TookPrefix-more}
use Rattle.cv_report.proofs.writing.write_element.Goals as goal

pub returns-in-Err-clause-taken : goal.returns-in-Err-clause-taken
returns-in-Err-clause-taken g c =
    let key = c.key-item.result in
    let cause = c.get.ensures ∙ c.in_ok-causes.ensures key ∙ ap (cause_of key) c.as_slice.ensures in
    let lines = lines_of_cause c.args.element key c.args.computed.now (option_copied c.get.result) cause in
    record {
      whole = tt;
      part = TookPrefix-more (λ key. value_lines c.args.element key c.args.computed.now) c.args.shown.now c.loop-key.key-index key key c.loop-key-test.true c.key-item.is
          (g.O.Sink.taken c.args.out.now) (g.O.Sink.taken c.loop-key.out) (g.O.Sink.taken c.write_values.new.out) c.loop-key.invariant.taken
          (subst (TookPrefix (g.O.Sink.taken c.loop-key.out) (g.O.Sink.taken c.write_values.new.out)) lines c.in-Err.ensures.taken.part);
    }

pub loop-key-preserved : goal.loop-key-preserved
loop-key-preserved g c =
    let key = c.key-item.result in
    let cause = c.get.ensures ∙ c.in_ok-causes.ensures key ∙ ap (cause_of key) c.as_slice.ensures in
    let lines = lines_of_cause c.args.element key c.args.computed.now (option_copied c.get.result) cause in
    record {
      taken = Appends-more (λ key. value_lines c.args.element key c.args.computed.now) c.args.shown.now c.loop-key.key-index key key c.loop-key-test.true c.key-item.is
          (g.O.Sink.taken c.args.out.now) (g.O.Sink.taken c.loop-key.out) (g.O.Sink.taken c.write_values.new.out) c.loop-key.invariant.taken
          (subst (Appends (g.O.Sink.taken c.loop-key.out) (g.O.Sink.taken c.write_values.new.out)) lines c.in-Ok.ensures.taken.whole);
      later = omega (arith, c.loop-key.invariant.later, c.in-Ok.ensures.cause.later);
    }
