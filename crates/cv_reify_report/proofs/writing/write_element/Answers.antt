use Rattle.std.proofs.Common.{arith}
use Rattle.cv_reify_report.specs.Report.{key_lines}
use Rattle.cv_reify_report.proofs.Took.{Appends-more, TookPrefix-more}
use Rattle.cv_reify_report.proofs.writing.write_element.Goals as goal

pub returns-in-Err-clause-taken : goal.returns-in-Err-clause-taken
returns-in-Err-clause-taken g c =
    let key = c.key-item.result in
    record {
      whole = tt;
      part = TookPrefix-more (λ key. key_lines c.args.element key c.args.declared.now c.args.computed.now) c.args.shown.now c.loop-key.key-index key key c.loop-key-test.true c.key-item.is
          (g.O.Sink.taken c.args.out.now) (g.O.Sink.taken c.loop-key.out) (g.O.Sink.taken c.write_key.new.out) c.loop-key.invariant.taken c.in-Err.ensures.taken.part;
    }

pub loop-key-preserved : goal.loop-key-preserved
loop-key-preserved g c =
    let key = c.key-item.result in
    record {
      taken = Appends-more (λ key. key_lines c.args.element key c.args.declared.now c.args.computed.now) c.args.shown.now c.loop-key.key-index key key c.loop-key-test.true c.key-item.is
          (g.O.Sink.taken c.args.out.now) (g.O.Sink.taken c.loop-key.out) (g.O.Sink.taken c.write_key.new.out) c.loop-key.invariant.taken c.in-Ok.ensures.taken.whole;
      later = omega (arith, c.loop-key.invariant.later, c.in-Ok.ensures.cause.later);
    }
