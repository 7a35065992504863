use Rattle.std.proofs.Common.{◌≡◌, ◌∙◌, ◌+◌, ◌++◌, ◌∷◌, [], length, take, map, ap, sym, arith}
use Rattle.std.proofs.lemmas.List.{take_more, length-take-le}
use Rattle.cv_component.specs.Shared.{piece_of}
use Rattle.cv_props.specs.declared.note.NotePlace.TheVariants.{Item}
use Rattle.cv_props.specs.Kept.{note_on, notes_on}
use Rattle.cv_props.specs.Reading.{with_item}
use Rattle.cv_props.specs.Winners.{winners}
use Rattle.cv_props.proofs.Items.{notes_on-piece, winners-piece}
use Rattle.cv_props.proofs.style.of_items.Goals as goal

pub loop-number-init : goal.loop-number-init
unfolding winners
loop-number-init c = record { declarations = c.new-decls.ensures; notes = c.new-notes.ensures.items }

pub loop-number-preserved : goal.loop-number-preserved
loop-number-preserved c =
    let pieces = c.args.pieces.now in
    let number = c.loop-number.number in
    let piece = c.index-pieces-number.result in
    let next : take (number + 1) pieces ≡ take number pieces ++ piece ∷ [] =
    take_more pieces number piece c.loop-number-test.true ∙ ap (λ p. take number pieces ++ p ∷ []) (sym c.index-pieces-number.is) in
    let count : length (take number pieces) ≡ number = length-take-le number pieces (omega arith) in
    record {
      declarations = c.in_ok-read_into.ensures.declarations
          ∙ ap (λ w. with_item w (piece_of piece)) c.loop-number.invariant.declarations
          ∙ sym (winners-piece (take number pieces) (take (number + 1) pieces) piece next);
      notes = c.in_ok-read_into.ensures.notes
          ∙ ap (λ l. l ++ note_on (Item c.args.element number) (piece_of piece)) c.loop-number.invariant.notes
          ∙ sym (notes_on-piece c.args.element (take number pieces) (take (number + 1) pieces) piece next
          ∙ ap (λ n. notes_on c.args.element (map piece_of (take number pieces)) ++ note_on (Item c.args.element n) (piece_of piece)) count);
    }
