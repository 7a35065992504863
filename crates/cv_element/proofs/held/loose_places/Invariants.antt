use Rattle.std.proofs.Common.{◌≡◌, ◌<◌, ℕ, false, length, slice_index_or}
use Rattle.cv_spec_valuation.specs.Registered.{is_loose}
use Rattle.cv_element.specs.Settling.{key_at}
use Rattle.cv_element.proofs.held.loose_places.Given as goal

abbrev pub invariant-loop-place : goal.invariant-loop-place
invariant-loop-place l = record {
  count : length l.flags.items ≡ l.place;
  flags : (i : ℕ) → i < l.place → slice_index_or l.flags.items i false ≡ is_loose l.registry (key_at l.decls i);
}
