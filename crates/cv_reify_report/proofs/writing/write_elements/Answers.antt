use Rattle.std.proofs.Common.{◌≡◌, subst, take, arith, sym}
use Rattle.std.specs.List.{flat_map, enumerate_from, zip}
use Rattle.std.specs.Io.KnownBytes.{Appends}
use Rattle.std.proofs.lemmas.List.{take_all}
use Rattle.std.proofs.lemmas.List.FromFn.{length-enumerate_from}
use Rattle.std.proofs.lemmas.Slice.Zip.{length-zip}
use Rattle.cv_valuation.specs.declared.computed.Computed.{Computed}
use Rattle.cv_props.specs.Winners.{Declarations}
use Rattle.cv_reify_report.specs.Report.{element_text}
use Rattle.cv_reify_report.proofs.Took.{Appends-more, TookPrefix-more, numbered_at, paired_at}
use Rattle.cv_reify_report.proofs.writing.write_elements.Goals as goal

pub returns-in-Err-clause-taken : goal.returns-in-Err-clause-taken
returns-in-Err-clause-taken g c =
    let i = c.loop-element.element in
    let pair : Declarations × Computed = (c.index-declarations-element.result, c.index-all-element.result) in
    let paired = paired_at c.args.declarations.now c.args.all.now i c.index-declarations-element.result c.index-all-element.result (omega (arith, c.loop-element-test.true, c.requires.paired)) c.loop-element-test.true c.index-declarations-element.is c.index-all-element.is in
    let placed = numbered_at (zip c.args.declarations.now c.args.all.now) i pair paired.0 paired.1 in
    record {
      whole = tt;
      part = TookPrefix-more (element_text c.args.shown.now) (enumerate_from 0 (zip c.args.declarations.now c.args.all.now)) i (i, pair) (i, pair) placed.0 placed.1
          (g.O.Sink.taken c.args.out.now) (g.O.Sink.taken c.loop-element.out) (g.O.Sink.taken c.write_element.new.out) c.loop-element.invariant.taken c.in-Err.ensures.taken.part;
    }

pub loop-element-preserved : goal.loop-element-preserved
loop-element-preserved g c =
    let i = c.loop-element.element in
    let pair : Declarations × Computed = (c.index-declarations-element.result, c.index-all-element.result) in
    let paired = paired_at c.args.declarations.now c.args.all.now i c.index-declarations-element.result c.index-all-element.result (omega (arith, c.loop-element-test.true, c.requires.paired)) c.loop-element-test.true c.index-declarations-element.is c.index-all-element.is in
    let placed = numbered_at (zip c.args.declarations.now c.args.all.now) i pair paired.0 paired.1 in
    record {
      taken = Appends-more (element_text c.args.shown.now) (enumerate_from 0 (zip c.args.declarations.now c.args.all.now)) i (i, pair) (i, pair) placed.0 placed.1
          (g.O.Sink.taken c.args.out.now) (g.O.Sink.taken c.loop-element.out) (g.O.Sink.taken c.write_element.new.out) c.loop-element.invariant.taken c.in-Ok.ensures.taken.whole;
      later = omega (arith, c.loop-element.invariant.later, c.in-Ok.ensures.cause.later);
    }

pub returns-clause-taken : goal.returns-clause-taken
returns-clause-taken g c =
    let numbered = enumerate_from 0 (zip c.args.declarations.now c.args.all.now) in
    let all : take c.loop-element.element numbered ≡ numbered =
    take_all c.loop-element.element numbered (omega (arith, length-enumerate_from 0 (zip c.args.declarations.now c.args.all.now), length-zip c.args.declarations.now c.args.all.now, c.requires.paired, c.loop-element-test.false)) in
    record {
      whole = subst (λ l. Appends (g.O.Sink.taken c.args.out.now) (g.O.Sink.taken c.loop-element.out) (flat_map (element_text c.args.shown.now) l)) all c.loop-element.invariant.taken;
      part = tt;
    }
