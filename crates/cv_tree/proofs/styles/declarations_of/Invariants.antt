use Rattle.std.proofs.Common.{◌≡◌, ◌+◌, ◌≤◌, ◌++◌, length}
use Rattle.std.specs.Prelude.{All, bytes_eq, map}
use Rattle.indexmap.specs.IndexMap.{get}
use Rattle.cv_tree.specs.Again.{AreRead}
use Rattle.cv_tree.specs.Contents.{most_bytes}
use Rattle.cv_tree.specs.Styles.{declarations_of, elements_notes}
use Rattle.cv_tree.specs.Contents.{AreFew}
use Rattle.cv_tree.proofs.styles.declarations_of.Given as goal

abbrev pub invariant-loop-element : goal.invariant-loop-element
invariant-loop-element l = record {
  count : l.number + length l.rest ≡ length l.elements;
  short : All (λ element. length element.style ≤ most_bytes) l.rest;
  few : All AreFew l.all.items;
  declarations : l.all.items ++ map declarations_of l.rest ≡ map declarations_of l.elements;
  notes : l.notes.items ++ elements_notes l.number l.rest ≡ l.fn.notes.items ++ elements_notes 0 l.elements;
  read : AreRead (get bytes_eq l.places) l.all.items;
}

abbrev pub decreases-loop-element : goal.decreases-loop-element
decreases-loop-element l = length l.rest
