use Rattle.std.proofs.Common.{◌≡◌, ◌≤◌, length, []}
use Rattle.std.specs.Prelude.{max}
use Rattle.cv_component.specs.Nesting.{depth_within}
use Rattle.cv_component.proofs.reach.is_too_deep.Given as goal

abbrev pub invariant-read : goal.invariant-read
invariant-read l = record {
  depth : max 128 (depth_within [] l.tokens) ≡ max 128 (depth_within l.nesting l.rest);
  open_now : length l.nesting ≤ 128;
}

abbrev pub decreases-read : goal.decreases-read
decreases-read l = length l.rest
