use Rattle.std.proofs.Common.{◌≡◌, false}
use Rattle.cv_token.specs.LineBreaks.{points_after}
use Rattle.cv_token.proofs.LineBreaks.{returned}
use Rattle.cv_token.proofs.text.code_points.Given as goal

abbrev pub invariant-loop-c : goal.invariant-loop-c
invariant-loop-c l = record {
  points : l.points.items ≡ points_after false l.yielded;
  after_return : l.after_return ≡ returned false l.yielded;
}
