-- One more item of a style.
use Rattle.std.proofs.Common.{◌≡◌, ℕ, ◌+◌, Bool, true, false, List, [], ◌∷◌, ◌++◌, length, Option, Some, None, Result, Ok, Err, refl, sym, ap, ◌∙◌, append-nil, arith}
use Rattle.std.specs.Prelude.{map, option_map, if◌then◌else◌}
use Rattle.std.specs.List.{flat_map, enumerate_from}
use Rattle.std.proofs.lemmas.Grind.{flat_map-append}
use Rattle.std.proofs.lemmas.List.{map-append, length-map}
use Rattle.cv_component.specs.declared.shared.SharedPiece.{SharedPiece}
use Rattle.cv_component.specs.Shared.{piece_of}
use Rattle.cv_spec_text.specs.Keywords.{is_custom}
use Rattle.cv_property.specs.declared.property.Property.{Property}
use Rattle.cv_component.specs.declared.items.Piece.{Piece}
use Rattle.cv_props.specs.declared.decls.Decl.{Decl}
use Rattle.cv_valuation.specs.declared.key.Key.{Key}
use Rattle.cv_valuation.specs.declared.key.Key.TheVariants.{Custom, Table}
use Rattle.cv_props.specs.declared.note.NotePlace.TheVariants.{Item}
use Rattle.cv_props.specs.declared.note.Why.{Why}
use Rattle.cv_property.specs.Table.{property_named}
use Rattle.cv_valuation.specs.Keys.{is_key, key_named}
use Rattle.cv_props.specs.Kept.{declared_by_item, kept, kept_declarations, note_on, notes_on}
use Rattle.cv_props.specs.Reading.{with_item}
use Rattle.cv_props.specs.Winners.{winners}
use Rattle.cv_props.specs.Declaring.{with_declaration}
use Rattle.cv_props.proofs.Numbered.{enumerate_from-push}
use Rattle.cv_props.proofs.Keeping.{winners-push}

-- the key of a name is one
pub is_key-named : (name : List ℕ) (key : Key) → key_named name ≡ Some key → is_key key ≡ true
unfolding key_named
is_key-named name key named = by (is_custom name) refl (property_named name) named
  where
    by : (b : Bool) → is_custom name ≡ b → (o : Option Property) → (if b then Some (Custom name) else option_map Table o) ≡ Some key → is_key key ≡ true
    by true is o named = let same : Custom name ≡ key = cc in ap is_key (sym same) ∙ is
    by false is (Some property) named = let same : Table property ≡ key = cc in ap is_key (sym same)
    by false is None named = cc

-- the winning declarations once an item is read
pub winners-item : (ps : List Piece) (p : Piece) → winners (kept_declarations (ps ++ p ∷ [])) ≡ with_item (winners (kept_declarations ps)) p
winners-item ps p =
    ap winners (flat_map-append kept ps (p ∷ []) ∙ ap (λ l. kept_declarations ps ++ l) (append-nil (kept p)))
    ∙ by (declared_by_item p)
  where
    by : (declared : Result (Key × Decl) Why)
        → winners (kept_declarations ps ++ (elim declared [ Ok declaration ↦ declaration ∷ [] | Err why ↦ [] ]))
        ≡ (elim declared [ Ok d ↦ with_declaration (winners (kept_declarations ps)) d.0 d.1 | Err why ↦ winners (kept_declarations ps) ])
    by (Ok (key, declaration)) = winners-push (kept_declarations ps) key declaration
    by (Err why) = ap winners (append-nil (kept_declarations ps))

-- the notes once an item is read
pub notes_on-item : (element : ℕ) (ps : List Piece) (p : Piece) → notes_on element (ps ++ p ∷ []) ≡ notes_on element ps ++ note_on (Item element (length ps)) p
notes_on-item element ps p =
    let note = λ (numbered : ℕ × Piece). note_on (Item element numbered.0) numbered.1 in
    ap (flat_map note) (enumerate_from-push 0 ps p)
    ∙ flat_map-append note (enumerate_from 0 ps) ((0 + length ps, p) ∷ [])
    ∙ ap (λ l. notes_on element ps ++ l) (append-nil (note (0 + length ps, p)) ∙ (let same : 0 + length ps ≡ length ps = omega arith in ap (λ k. note (k, p)) same))

-- one more item whose value shares the list
pub winners-piece : (before after : List SharedPiece) (p : SharedPiece) → after ≡ before ++ p ∷ []
    → winners (kept_declarations (map piece_of after)) ≡ with_item (winners (kept_declarations (map piece_of before))) (piece_of p)
winners-piece before after p is =
    ap (λ l. winners (kept_declarations (map piece_of l))) is
    ∙ ap (λ l. winners (kept_declarations l)) (map-append piece_of before (p ∷ []))
    ∙ winners-item (map piece_of before) (piece_of p)

pub notes_on-piece : (element : ℕ) (before after : List SharedPiece) (p : SharedPiece) → after ≡ before ++ p ∷ []
    → notes_on element (map piece_of after) ≡ notes_on element (map piece_of before) ++ note_on (Item element (length before)) (piece_of p)
notes_on-piece element before after p is =
    ap (λ l. notes_on element (map piece_of l)) is
    ∙ ap (notes_on element) (map-append piece_of before (p ∷ []))
    ∙ notes_on-item element (map piece_of before) (piece_of p)
    ∙ ap (λ n. notes_on element (map piece_of before) ++ note_on (Item element n) (piece_of p)) (length-map before piece_of)
