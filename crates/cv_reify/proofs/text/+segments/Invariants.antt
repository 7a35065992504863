use Rattle.std.specs.Prelude.{map}
use Rattle.std.proofs.Common.{◌≡◌, ◌++◌, drop}
use Rattle.cv_reify.specs.Text.{joined, separated, segment_text}
use Rattle.cv_reify.proofs.text.+segments.Given as goal

abbrev pub invariant-push_segments-loop-segment : goal.invariant-push_segments-loop-segment
invariant-push_segments-loop-segment l = l.text.items ++ separated l.separator (map segment_text (drop l.segment-index l.segments)) ≡ l.initial.text.items ++ joined (map segment_text l.segments)
