use Rattle.std.proofs.Common.{◌≡◌, take, map}
use Rattle.cv_component.specs.Shared.{piece_of}
use Rattle.cv_props.specs.Kept.{kept_declarations, notes_on}
use Rattle.cv_props.specs.Winners.{winners}
use Rattle.cv_props.proofs.style.of_items.Given as goal

abbrev pub invariant-loop-number : goal.invariant-loop-number
invariant-loop-number l = record {
  declarations : l.decls ≡ winners (kept_declarations (map piece_of (take l.number l.pieces)));
  notes : l.notes.items ≡ notes_on l.element (map piece_of (take l.number l.pieces));
}
