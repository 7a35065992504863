use Rattle.std.specs.Prelude.{fold, Ok}
use Rattle.std.proofs.Common.{◌≡◌, drop}
use Rattle.cv_spec_ratio.specs.Ratio.{zero_ratio}
use Rattle.cv_om.specs.Conversion.{collected_next}
use Rattle.cv_om.proofs.collection.total.Given as goal

abbrev pub invariant-loop-value : goal.invariant-loop-value
invariant-loop-value l = fold (collected_next l.place l.unit) (Ok l.sum) (drop l.value-index l.values) ≡ fold (collected_next l.place l.unit) (Ok zero_ratio) l.values
