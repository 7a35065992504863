use Rattle.std.proofs.Common.{◌∙◌, ap, sym, arith}
use Rattle.std.proofs.lemmas.List.{length-map}
use Rattle.cv_spec_ratio.specs.Ratio.{add}
use Rattle.cv_frac.specs.Bounded.{in_bounds}
use Rattle.cv_valuation.specs.declared.computed.Computed.{Computed}
use Rattle.cv_gen.specs.Summary.{values_of}
use Rattle.cv_gen.proofs.Sums.{bounded_err, bounded_ok, sum_more, sum_none, within_more, within_none}
use Rattle.cv_gen.proofs.totals.total.Goals as goal

pub loop-element-init : goal.loop-element-init
loop-element-init c = record {
  sum = c.whole-sum.ensures ∙ sym (sum_none c.args.property (values_of c.args.all.now));
  within = within_none c.args.property (values_of c.args.all.now);
}

pub loop-element-preserved : goal.loop-element-preserved
loop-element-preserved c =
    let next = sum_more c.args.property c.args.all.now c.loop-element.element c.index-all-element.result c.loop-element.sum c.length_at.result c.loop-element-test.true c.index-all-element.is c.loop-element.invariant.sum c.length_at.ensures in
    let parts = bounded_ok (add c.loop-element.sum c.length_at.result) c.in-Ok.more (sym c.in-Ok.ensures) in
    record {
      sum = parts.1 ∙ next;
      within = within_more c.args.property (values_of c.args.all.now) c.loop-element.element c.loop-element.invariant.within (ap in_bounds (sym next) ∙ parts.0);
    }

pub returns-in-Err-clause-range : goal.returns-in-Err-clause-range
returns-in-Err-clause-range c =
    let next = sum_more c.args.property c.args.all.now c.loop-element.element c.index-all-element.result c.loop-element.sum c.length_at.result c.loop-element-test.true c.index-all-element.is c.loop-element.invariant.sum c.length_at.ensures in (
      c.requires.summed,
      record {
        there = omega (arith, length-map c.args.all.now (λ (x : Computed). x.values));
        before = c.loop-element.invariant.within;
        outside = ap in_bounds (sym next) ∙ bounded_err (add c.loop-element.sum c.length_at.result) c.in-Err.field-0 (sym c.in-Err.ensures);
      },
    )
