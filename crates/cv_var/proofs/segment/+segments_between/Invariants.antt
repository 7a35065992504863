use Rattle.std.proofs.Common.{◌≡◌, ◌++◌, ◌-◌, ◌≤◌}
use Rattle.cv_var.specs.Places.{stretch}
use Rattle.cv_var.specs.References.{pieces_of}
use Rattle.cv_var.specs.Segments.{segments_within, segments_of}
use Rattle.cv_var.proofs.segment.+segments_between.Given as goal

abbrev pub decreases-segments_between : goal.decreases-segments_between
decreases-segments_between l = l.end - l.start

abbrev pub invariant-tokens : goal.invariant-tokens
invariant-tokens l = record {
  segments : l.segments.items ++ segments_within l.text (pieces_of (stretch l.tokens l.place l.end)) ≡ segments_of (pieces_of (stretch l.tokens l.start l.end));
  after : l.start ≤ l.place;
  within : l.place ≤ l.end;
}

abbrev pub decreases-tokens : goal.decreases-tokens
decreases-tokens l = l.end - l.place
