use Rattle.std.proofs.Common.{◌≡◌, drop}
use Rattle.cv_simplify.specs.Counted.{all_inside}
use Rattle.cv_om_roundtrip.proofs.bounds.+walk.Given as goal

abbrev pub invariant-calculations-loop-child : goal.invariant-calculations-loop-child
invariant-calculations-loop-child l = all_inside (drop l.child-index l.children) ≡ all_inside l.children
