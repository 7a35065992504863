use Rattle.std.proofs.Common.{◌≡◌, ◌+◌, length, []}
use Rattle.cv_component.specs.TopLevel.{top_length_within}
use Rattle.cv_component.specs.Parts.{separates}
use Rattle.cv_component.proofs.splitting.part_length.Given as goal

abbrev pub invariant-tokens : goal.invariant-tokens
invariant-tokens l = record {
  size : l.taken + top_length_within (separates l.separator) l.nesting l.rest ≡ top_length_within (separates l.separator) [] l.tokens;
  within : l.taken + length l.rest ≡ length l.tokens;
}

abbrev pub decreases-tokens : goal.decreases-tokens
decreases-tokens l = length l.rest
