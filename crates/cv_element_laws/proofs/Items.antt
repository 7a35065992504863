-- The values of the items of a list of tokens of texts are made of such tokens.
use Rattle.std.proofs.Common.{ℕ, Bool, true, false, List, [], ◌∷◌, reverse, take, Option, Some, None}
use Rattle.std.specs.Prelude.{All, ◌==◌, if◌then◌else◌, option_map}
use Rattle.std.proofs.lemmas.List.Elements.{All-from_recursion, recursion_from_All, All-nil, All-cons, All-tail, All-take}
use Rattle.cv_spec_text.specs.Characters.{exclamation_mark}
use Rattle.cv_spec_text.specs.Splits.{IsSpelt}
use Rattle.cv_spec_text.specs.declared.token.Token.{Token}
use Rattle.cv_spec_text.specs.declared.token.Token.TheVariants.{Ident, Delim, Colon}
use Rattle.cv_component.specs.declared.items.Piece.{Piece}
use Rattle.cv_component.specs.declared.items.Piece.TheVariants.{Decl, At, Other}
use Rattle.cv_component.specs.Items.{is_important, before_mark, before_importance, unimportant, declaration_by, declared_value, declaration, item, item_length, item_size, begins_item, item_at, items}
use Rattle.cv_component.specs.Nesting.{completed}
use Rattle.cv_component.specs.TopLevel.{trim_front, trim_end}
use Rattle.cv_component.proofs.Spelt.{all_completed}
use Rattle.cv_element_laws.proofs.Pieces.{each-reverse, each-front, each-end}
use Rattle.cv_element_laws.proofs.Runs.{run_values-All}

-- the value of the item is made of tokens of texts
abbrev pub IsSpeltPiece : Piece → Type 0
IsSpeltPiece (Decl name value important) = All IsSpelt value
IsSpeltPiece At = Unit {0}
IsSpeltPiece Other = Unit {0}

spelt_reverse : (list : List Token) → All IsSpelt list → All IsSpelt (reverse list)
spelt_reverse list spelt = All-from_recursion IsSpelt (reverse list) (each-reverse IsSpelt list (recursion_from_All IsSpelt list spelt))

spelt_front : (list : List Token) → All IsSpelt list → All IsSpelt (trim_front list)
spelt_front list spelt = All-from_recursion IsSpelt (trim_front list) (each-front IsSpelt list (recursion_from_All IsSpelt list spelt))

spelt_end : (list : List Token) → All IsSpelt list → All IsSpelt (trim_end list)
spelt_end list spelt = All-from_recursion IsSpelt (trim_end list) (each-end IsSpelt list (recursion_from_All IsSpelt list spelt))

spelt_declared : (list : List Token) → All IsSpelt list → All IsSpelt (declared_value list)
unfolding declared_value
spelt_declared list spelt = spelt_end (trim_front (completed list)) (spelt_front (completed list) (all_completed list spelt))

-- ---- importance

abbrev OfSome : Option (List Token) → Type 0
OfSome None = Unit {0}
OfSome (Some list) = All IsSpelt list

some_if : (b : Bool) (o : Option (List Token)) → OfSome o → OfSome (if b then o else None)
some_if true o spelt = spelt
some_if false o spelt = tt

spelt_mark : (list : List Token) → All IsSpelt list → OfSome (before_mark list)
spelt_mark [] spelt = tt
spelt_mark (Delim c ∷ before) spelt = some_if (c == exclamation_mark) (Some before) (All-tail IsSpelt (Delim c) before spelt)
spelt_mark (_ ∷ before) spelt = tt

spelt_importance : (list : List Token) → All IsSpelt list → OfSome (before_importance list)
spelt_importance [] spelt = tt
spelt_importance (Ident name ∷ before) spelt =
    some_if (is_important name) (before_mark (trim_front before)) (spelt_mark (trim_front before) (spelt_front before (All-tail IsSpelt (Ident name) before spelt)))
spelt_importance (_ ∷ before) spelt = tt

spelt_turned : (o : Option (List Token)) → OfSome o → OfSome (option_map (λ before. reverse (trim_front before)) o)
spelt_turned None spelt = tt
spelt_turned (Some before) spelt = spelt_reverse (trim_front before) (spelt_front before spelt)

spelt_unimportant : (list : List Token) → All IsSpelt list → OfSome (unimportant list)
unfolding unimportant
spelt_unimportant list spelt = spelt_turned (before_importance (reverse list)) (spelt_importance (reverse list) (spelt_reverse list spelt))

-- ---- items

spelt_by : (name : List ℕ) (value : List Token) (o : Option (List Token)) → All IsSpelt value → OfSome o → IsSpeltPiece (declaration_by name value o)
spelt_by name value None spelt rest = spelt
spelt_by name value (Some list) spelt rest = rest

spelt_declaration : (name : List ℕ) (list : List Token) → All IsSpelt list → IsSpeltPiece (declaration name list)
spelt_declaration name [] spelt = tt
spelt_declaration name (Colon ∷ list) spelt =
    let value = spelt_declared list (All-tail IsSpelt Colon list spelt) in
    spelt_by name (declared_value list) (unimportant (declared_value list)) value (spelt_unimportant (declared_value list) value)
spelt_declaration name (_ ∷ list) spelt = tt

spelt_item : (list : List Token) → All IsSpelt list → IsSpeltPiece (item list)
spelt_item [] spelt = tt
spelt_item (Ident name ∷ list) spelt = spelt_declaration name (trim_front list) (spelt_front list (All-tail IsSpelt (Ident name) list spelt))
spelt_item (_ ∷ list) spelt = tt

spelt_item_at : (list : List Token) → All IsSpelt list → All IsSpeltPiece (item_at list)
spelt_item_at list spelt = by (begins_item list)
  where
    by : (b : Bool) → All IsSpeltPiece (if b then item (take (item_length list) list) ∷ [] else [])
    by true = All-cons IsSpeltPiece (item (take (item_length list) list)) [] (spelt_item (take (item_length list) list) (All-take IsSpelt (item_length list) list spelt)) (All-nil IsSpeltPiece)
    by false = All-nil IsSpeltPiece

pub spelt_items : (list : List Token) → All IsSpelt list → All IsSpeltPiece (items list)
spelt_items list spelt = run_values-All item_size item_at IsSpelt IsSpeltPiece spelt_item_at list spelt
