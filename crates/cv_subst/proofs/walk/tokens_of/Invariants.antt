use Rattle.std.proofs.Common.{◌≡◌, ◌-◌, ◌≤◌, length, drop, Ok}
use Rattle.std.specs.Prelude.{All}
use Rattle.cv_spec_text.specs.Splits.{IsSpelt}
use Rattle.cv_spec_element.specs.Pieces.{joined}
use Rattle.cv_var.specs.Flat.{flattened}
use Rattle.cv_var.specs.References.{pieces_of}
use Rattle.cv_subst.specs.Flat.{sub_flat}
use Rattle.cv_subst.specs.Values.{value_in}
use Rattle.cv_subst.proofs.walk.tokens_of.Given as goal

abbrev pub invariant-parts : goal.invariant-parts
invariant-parts l = record {
  within : l.number ≤ length (flattened (pieces_of l.declared));
  spelt : All IsSpelt l.all.items;
  front : sub_flat (value_in l.values) 0 (flattened (pieces_of l.declared)) ≡ joined (Ok l.all.items) (sub_flat (value_in l.values) 0 (drop l.number (flattened (pieces_of l.declared))));
}

abbrev pub decreases-parts : goal.decreases-parts
decreases-parts l = length (flattened (pieces_of l.declared)) - l.number
