use Rattle.std.proofs.Common.{◌≡◌, ◌-◌, ◌*◌, ◌^◌, ◌≤◌, List, length, drop, Ok}
use Rattle.cv_spec_text.specs.declared.token.Token.{Token}
use Rattle.cv_spec_element.specs.Pieces.{joined}
use Rattle.cv_var.specs.Flat.{flattened}
use Rattle.cv_var.specs.References.{pieces_of}
use Rattle.cv_subst.specs.Flat.{sub_flat}
use Rattle.cv_subst.specs.Values.{value_in}
use Rattle.cv_subst.proofs.walk.length_of.Given as goal

abbrev pub invariant-parts : goal.invariant-parts
invariant-parts l = record {
  within : l.number ≤ length (flattened (pieces_of l.declared));
  bound : l.total ≤ l.number * 2 ^ 64;
  front : (front : List Token) × (l.total ≡ length front) × (sub_flat (value_in l.values) 0 (flattened (pieces_of l.declared)) ≡ joined (Ok front) (sub_flat (value_in l.values) 0 (drop l.number (flattened (pieces_of l.declared)))));
}

abbrev pub decreases-parts : goal.decreases-parts
decreases-parts l = length (flattened (pieces_of l.declared)) - l.number
