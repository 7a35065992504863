use Rattle.std.proofs.Common.{◌≡◌, take}
use Rattle.cv_gen.specs.Summary.{AreWithin, sum_of, values_of}
use Rattle.cv_gen.proofs.totals.total.Given as goal

abbrev pub invariant-loop-element : goal.invariant-loop-element
invariant-loop-element l = record {
  sum : l.sum ≡ sum_of l.property (take l.element (values_of l.all));
  within : AreWithin l.property (values_of l.all) l.element;
}
