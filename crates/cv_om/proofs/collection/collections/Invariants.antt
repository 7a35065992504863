use Rattle.std.specs.Prelude.{map, Ok}
use Rattle.std.specs.List.{enumerate_from}
use Rattle.std.proofs.Common.{◌≡◌, take}
use Rattle.cv_om.specs.Refusal.{all_of}
use Rattle.cv_om.specs.Conversion.{collected}
use Rattle.cv_om.proofs.collection.collections.Given as goal

abbrev pub invariant-loop-place : goal.invariant-loop-place
invariant-loop-place l = all_of (map (collected l.values) (take l.place (enumerate_from 0 l.units))) ≡ Ok l.all
