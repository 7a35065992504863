-- A list has a `var()` exactly where its pieces have a reference, if each `var()` of it is one.
use Rattle.std.proofs.Common.{◌≡◌, ℕ, zero, suc, ◌≤◌, Bool, true, false, cond, List, [], ◌∷◌, length, drop, Option, Some, None, refl, sym, ◌∙◌, ap, subst, arith}
use Rattle.std.specs.Prelude.{◌||◌, ◌&&◌, option_map, is_none}
use Rattle.cv_spec_text.specs.declared.token.Token.{Token}
use Rattle.cv_spec_element.specs.Pieces.{Pieces, finish, token, reference, reference_or}
use Rattle.cv_spec_element.specs.Valuation.{has_reference}
use Rattle.cv_var.specs.References.{Reference, is_var, has_var, reference_at, is_bad_var, bad_var, first_piece, function_size, pieces_of, begins_var, inner_to, reference_in, PiecesAreRead}
use Rattle.cv_component.specs.Blocks.{matching}
use Rattle.cv_spec_valuation.specs.Element.{keyed}

none_mapped : (o : Option ℕ) → option_map suc o ≡ None → o ≡ None
none_mapped None is = refl
none_mapped (Some n) is = cc

module _ (laws : PiecesAreRead) where
  -- the front of the list is no reference
  token_first : (t : Token) (rest : List Token) (o : Option Reference) → is_var t ≡ false → o ≡ cond (is_var t) (reference_in (inner_to (t ∷ rest) (matching (t ∷ rest) 0))) None → o ≡ None
  token_first t rest o plain is = is ∙ ap (λ b. cond b (reference_in (inner_to (t ∷ rest) (matching (t ∷ rest) 0))) None) plain

  referring : (r : Option Reference) (t : Token) (rest behind : List Token) → is_none r ≡ false → has_reference (keyed (first_piece r t pieces_of rest behind)) ≡ true
  referring None t rest behind some = cc
  referring (Some (name, None)) t rest behind some = refl
  referring (Some (name, Some fallback)) t rest behind some = refl

  pub reference_var : (list : List Token) → bad_var list ≡ None → has_reference (keyed (pieces_of list)) ≡ has_var list
  reference_var [] none = ap (λ p. has_reference (keyed p)) laws.none
  reference_var (t ∷ rest) none = by_bad (λ rest_none. reference_var rest rest_none) (is_bad_var (t ∷ rest)) refl none
    where
      by_var : (bad_var rest ≡ None → has_reference (keyed (pieces_of rest)) ≡ has_var rest) → is_bad_var (t ∷ rest) ≡ false → bad_var rest ≡ None → (b : Bool) → is_var t ≡ b → has_reference (keyed (first_piece (reference_at (t ∷ rest)) t pieces_of rest (drop (function_size (t ∷ rest)) (t ∷ rest)))) ≡ (b || has_var rest)
      by_var shorter good rest_none true var =
          referring (reference_at (t ∷ rest)) t rest (drop (function_size (t ∷ rest)) (t ∷ rest)) (sym (ap (λ b. b && is_none (reference_at (t ∷ rest))) var) ∙ good)
      by_var shorter good rest_none false plain =
          ap (λ r. has_reference (keyed (first_piece r t pieces_of rest (drop (function_size (t ∷ rest)) (t ∷ rest))))) (token_first t rest (reference_at (t ∷ rest)) plain refl)
          ∙ shorter rest_none

      by_bad : (bad_var rest ≡ None → has_reference (keyed (pieces_of rest)) ≡ has_var rest) → (b : Bool) → is_bad_var (t ∷ rest) ≡ b → cond b (Some 0) (option_map suc (bad_var rest)) ≡ None → has_reference (keyed (pieces_of (t ∷ rest))) ≡ has_var (t ∷ rest)
      by_bad shorter true bad is = absurd (let clash : Some 0 ≡ None = is in cc)
      by_bad shorter false good is =
          ap (λ p. has_reference (keyed p)) (laws.first t rest)
          ∙ by_var shorter good (none_mapped (bad_var rest) is) (is_var t) refl
