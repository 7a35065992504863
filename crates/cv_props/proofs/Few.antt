-- A style has no more winning declarations than tokens.
use Rattle.std.proofs.Common.{◌≡◌, ◌≤◌, ap, List, [], ◌∷◌, length, filter, filter_map, Bool, not, Option, Some, None, Result, Ok, Err, length-append, arith}
use Rattle.std.specs.Prelude.{IfOk}
use Rattle.std.specs.List.{cons_option}
use Rattle.std.proofs.lemmas.List.Sums.{length-filter, count_by-le-length}
use Rattle.cv_spec_text.specs.declared.token.Token.{Token}
use Rattle.cv_component.specs.declared.items.Piece.{Piece}
use Rattle.cv_component.specs.Items.{items}
use Rattle.cv_props.specs.declared.decls.Decl.{Decl}
use Rattle.cv_valuation.specs.declared.key.Key.{Key}
use Rattle.cv_props.specs.declared.note.Why.{Why}
use Rattle.cv_valuation.specs.Keys.{same_key}
use Rattle.cv_props.specs.Kept.{declared_by_item, kept, kept_declarations}
use Rattle.cv_props.specs.Winners.{Declarations, keys_kept, winners, with_winner}
use Rattle.cv_props.proofs.Split.{few_items}

few_filter : {A : Type 0} (test : A → Bool) (all : List A) → length (filter test all) ≤ length all
few_filter test all = omega (arith, length-filter test all, count_by-le-length test all)

few_filter_map : {A B : Type 0} (f : A → Option B) (all : List A) → length (filter_map f all) ≤ length all
few_filter_map f [] = omega arith
few_filter_map f (x ∷ xs) = by (f x) (few_filter_map f xs)
  where
    by : (o : Option _) → length (filter_map f xs) ≤ length xs → length (cons_option o (filter_map f xs)) ≤ length (x ∷ xs)
    by None rest = omega arith
    by (Some y) rest = omega arith

few_keys : (declarations : Declarations) → length (keys_kept declarations) ≤ length declarations
few_keys [] = omega arith
few_keys ((key, declaration) ∷ rest) = omega (arith, few_keys rest, few_filter (λ other. not (same_key key other)) (keys_kept rest))

few_winners : (declarations : Declarations) → length (winners declarations) ≤ length declarations
unfolding winners
few_winners declarations = omega (arith, few_filter_map (with_winner declarations) (keys_kept declarations), few_keys declarations)

few_kept : (pieces : List Piece) → length (kept_declarations pieces) ≤ length pieces
few_kept [] = omega arith
few_kept (piece ∷ pieces) = omega (arith, length-append (kept piece) (kept_declarations pieces), one (declared_by_item piece), few_kept pieces)
  where
    one : (declared : Result (Key × Decl) Why) → length {A = Key × Decl} (elim declared [ Ok declaration ↦ declaration ∷ [] | Err why ↦ [] ]) ≤ 1
    one (Ok declaration) = omega arith
    one (Err why) = omega arith

few_declarations : (tokens : List Token) → length (winners (kept_declarations (items tokens))) ≤ length tokens
few_declarations tokens = omega (arith, few_winners (kept_declarations (items tokens)), few_kept (items tokens), few_items tokens)

pub few_of_style : {X E : Type 0} (tokens : List Token) (result : Result (Declarations × X) E)
    → IfOk result (λ style. style.0 ≡ winners (kept_declarations (items tokens))) → IfOk result (λ style. length style.0 ≤ length tokens)
few_of_style tokens (Ok style) is = omega (arith, ap length is, few_declarations tokens)
few_of_style tokens (Err e) is = is
