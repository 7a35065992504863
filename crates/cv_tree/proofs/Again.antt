-- Styles that were read, and one more.
use Rattle.std.proofs.Common.{◌≡◌, ℕ, zero, suc, ◌+◌, Bool, true, false, cond, List, [], ◌∷◌, ◌++◌, ◌≤◌, length, refl, sym, ap, ◌∙◌, subst, arith, length-append, append-nil}
use Rattle.std.specs.Prelude.{Option, Some, None, Result, Ok, Err, bytes_eq}
use Rattle.std.specs.List.{enumerate_from, flat_map, slice_get}
use Rattle.std.proofs.lemmas.Option.{slice_get_within}
use Rattle.std.proofs.lemmas.Slice.Eq.{bytes_eq-Decides}
use Rattle.cv_component.specs.declared.items.Piece.{Piece}
use Rattle.cv_props.specs.declared.note.Note.{Note}
use Rattle.cv_props.specs.declared.note.NotePlace.TheVariants.{Item}
use Rattle.cv_valuation.specs.declared.key.Key.{Key}
use Rattle.cv_props.specs.declared.decls.Decl.{Decl}
use Rattle.cv_props.specs.declared.note.Why.{Why}
use Rattle.cv_props.specs.Kept.{declared_by_item, note_on, notes_on}
use Rattle.cv_props.specs.Winners.{Declarations}
use Rattle.cv_tree.specs.Again.{AreRead, HasRead, IsAdded, IsQuiet, IsReadOf}
use Rattle.cv_tree.specs.Contents.{AreFew}
use Rattle.cv_tree.specs.Styles.{declarations_in, items_in}
use Rattle.cv_tree.proofs.Growing.{get_front, get_last}

-- ---- notes

noted_by : ℕ → ℕ → Result (Key × Decl) Why → List Note
noted_by element at (Ok declaration) = []
noted_by element at (Err why) = record { place = Item element at; why = why } ∷ []

quiet_result : (a b at : ℕ) (read : Result (Key × Decl) Why) → noted_by a at read ≡ [] → noted_by b at read ≡ []
unfolding noted_by
quiet_result a b at (Ok declaration) none = refl
quiet_result a b at (Err why) none = cc

-- a piece on which an element has no note has none on another
quiet_piece : (a b at : ℕ) (piece : Piece) → note_on (Item a at) piece ≡ [] → note_on (Item b at) piece ≡ []
unfolding noted_by
quiet_piece a b at piece none = quiet_result a b at (declared_by_item piece) none

nothing_before : {X : Type 0} (xs ys : List X) → xs ++ ys ≡ [] → (xs ≡ []) × (ys ≡ [])
nothing_before [] ys none = (refl, none)
nothing_before (x ∷ xs) ys none = cc

notes_from : ℕ → ℕ → List Piece → List Note
notes_from element at pieces = flat_map (λ (number, piece). note_on (Item element number) piece) (enumerate_from at pieces)

quiet_from : (a b at : ℕ) (pieces : List Piece) → notes_from a at pieces ≡ [] → notes_from b at pieces ≡ []
unfolding notes_from
quiet_from a b at [] none = refl
quiet_from a b at (piece ∷ pieces) none =
    let parts = nothing_before (note_on (Item a at) piece) (notes_from a (at + 1) pieces) none in
    ap (λ notes. notes ++ notes_from b (at + 1) pieces) (quiet_piece a b at piece parts.0) ∙ quiet_from a b (at + 1) pieces parts.1

-- a style without a note on the items of one element has none on those of another
pub quiet : (number : ℕ) (style : List ℕ) → notes_on number (items_in style) ≡ [] → IsQuiet style
unfolding notes_from
quiet number style none other = quiet_from number other 0 (items_in style) none

no_more : (xs ys : List Note) → length (xs ++ ys) ≤ length xs → ys ≡ []
no_more xs [] le = refl
no_more xs (y ∷ ys) le = absurd (omega (arith, le, length-append xs (y ∷ ys)))

-- ---- places

module _ (all : List Declarations) (place_of : List ℕ → Option ℕ) (read : AreRead place_of all) where
  -- what was read stands where it stood when one more is added
  pub still_read : (more : Declarations) → AreRead place_of (all ++ more ∷ [])
  still_read more style place at =
      let is = read style place at in
      record {
        declarations = is.declarations;
        at = get_front all (more ∷ []) place (slice_get_within all place is.declarations is.at) ∙ is.at;
        read = is.read;
      }

  -- the added one is found by its text
  pub also_read : (text : List ℕ) (more : Declarations) → IsReadOf text more → (found : List ℕ → Option ℕ) → ((q : List ℕ) → found q ≡ cond (bytes_eq text q) (Some (length all)) (place_of q))
      → AreRead found (all ++ more ∷ [])
  also_read text more is found found_is style place at = by (bytes_eq text style) refl
    where
      by : (same : Bool) → bytes_eq text style ≡ same → HasRead (all ++ more ∷ []) style place
      by true same =
          let texts : text ≡ style = (bytes_eq-Decides text style).0 same in
          let places : Some (length all) ≡ Some place = ap (λ b. cond b (Some (length all)) (place_of style)) (sym same) ∙ sym (found_is style) ∙ at in
          let last : length all ≡ place = cc in
          record {
            declarations = more;
            at = ap (slice_get (all ++ more ∷ [])) (sym last) ∙ get_last all more [];
            read = subst (λ (t : List ℕ). IsReadOf t more) texts is;
          }
      by false same = still_read more style place (ap (λ b. cond b (Some (length all)) (place_of style)) (sym same) ∙ sym (found_is style) ∙ at)

  -- the declarations of an earlier element with the style are added again
  pub found_again : (number : ℕ) (style : List ℕ) (again : Declarations) (notes : List Note) → IsReadOf style again → IsAdded number style all notes place_of (all ++ again ∷ []) notes
  found_again number style again notes is = record {
    declarations = ap (λ d. all ++ d ∷ []) is.declarations;
    few = subst AreFew is.declarations is.few;
    notes = sym (append-nil notes) ∙ ap (λ more. notes ++ more) (sym (is.quiet number));
    read = still_read again;
  }

  module _ (number : ℕ) (style : List ℕ) (more : Declarations) (notes noted : List Note) (is : more ≡ declarations_in style) (few : AreFew more) (noted_is : noted ≡ notes ++ notes_on number (items_in style)) where
    -- the declarations of a style with notes are added
    pub added_with_notes : IsAdded number style all notes place_of (all ++ more ∷ []) noted
    added_with_notes = record {
      declarations = ap (λ d. all ++ d ∷ []) is;
      few = subst AreFew is few;
      notes = noted_is;
      read = still_read more;
    }

    -- the declarations of a style without notes are added, and their place is kept
    pub added_quietly : length noted ≤ length notes → (found : List ℕ → Option ℕ) → ((q : List ℕ) → found q ≡ cond (bytes_eq style q) (Some (length all)) (place_of q))
        → IsAdded number style all notes found (all ++ more ∷ []) noted
    added_quietly le found found_is = record {
      declarations = ap (λ d. all ++ d ∷ []) is;
      few = subst AreFew is few;
      notes = noted_is;
      read = also_read style more (record { declarations = is; few = few; quiet = quiet number style (no_more notes (notes_on number (items_in style)) (omega (arith, le, ap length noted_is))) }) found found_is;
    }
