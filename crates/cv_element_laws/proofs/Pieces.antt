-- The tokens of the pieces of a list, those of fallbacks too, are tokens of the list.
use Rattle.std.proofs.Common.{◌≡◌, ℕ, suc, zero, ◌-◌, Bool, true, false, List, [], ◌∷◌, ◌++◌, length, take, drop, reverse, Option, Some, None, ◌⊎◌, inl, inr, sym, subst}
use Rattle.std.specs.Prelude.{if◌then◌else◌}
use Rattle.std.specs.List.{AllByRecursion}
use Rattle.std.proofs.lemmas.List.{reverse-append}
use Rattle.std.proofs.lemmas.List.Elements.{All-from_recursion, recursion_from_All, All-take, All-drop}
use Rattle.cv_spec_text.specs.Keywords.{is_custom}
use Rattle.cv_spec_text.specs.declared.token.Token.{Token}
use Rattle.cv_spec_text.specs.declared.token.Token.TheVariants.{Ident, Comma, White}
use Rattle.cv_component.specs.Blocks.{matching}
use Rattle.cv_component.specs.TopLevel.{trim_front, trim_end}
use Rattle.cv_spec_element.specs.Pieces.{Pieces, finish, token, reference, reference_or}
use Rattle.cv_var.specs.Values.{is_value}
use Rattle.cv_var.specs.References.{Reference, name_in, fallback_in, named_fallback_in, reference_in, inner_to, function_size, begins_var, reference_at, first_piece, pieces_within, pieces_of}
use Rattle.cv_var.proofs.Cases.{if_case}
use Rattle.cv_element.proofs.TokenKinds.{Stays, white_or_not}

-- it holds of each token of the pieces
abbrev pub EachPiece : {N : Type 0} → (Token → Type 0) → Pieces N Token → Type 0
EachPiece P finish = Unit {0}
EachPiece P (token t rest) = P t × EachPiece P rest
EachPiece P (reference n rest) = EachPiece P rest
EachPiece P (reference_or n fallback rest) = EachPiece P fallback × EachPiece P rest

module _ (P : Token → Type 0) where
  abbrev pub Each : List Token → Type 0
  Each list = AllByRecursion P list

  pub each-append : (list more : List Token) → Each list → Each more → Each (list ++ more)
  each-append [] more each each_more = each_more
  each-append (t ∷ rest) more each each_more = (each.0, each-append rest more each.1 each_more)

  each-take : (n : ℕ) (list : List Token) → Each list → Each (take n list)
  each-take n list each = recursion_from_All P (take n list) (All-take P n list (All-from_recursion P list each))

  each-drop : (n : ℕ) (list : List Token) → Each list → Each (drop n list)
  each-drop n list each = recursion_from_All P (drop n list) (All-drop P n list (All-from_recursion P list each))

  pub each-reverse : (list : List Token) → Each list → Each (reverse list)
  each-reverse [] each = tt
  each-reverse (t ∷ rest) each =
      subst Each (sym (reverse-append (t ∷ []) rest)) (each-append (reverse rest) (t ∷ []) (each-reverse rest each.1) (each.0, tt))

  pub each-front : (list : List Token) → Each list → Each (trim_front list)
  each-front [] each = tt
  each-front (t ∷ rest) each = by (each-front rest each.1) (white_or_not t)
    where
      by : Each (trim_front rest) → (t ≡ White) ⊎ Stays t → Each (trim_front (t ∷ rest))
      by before (inl white) = subst (λ x. Each (trim_front (x ∷ rest))) (sym white) before
      by before (inr stays) = subst Each (sym (stays.front rest)) each

  pub each-end : (list : List Token) → Each list → Each (trim_end list)
  each-end list each = each-reverse (trim_front (reverse list)) (each-front (reverse list) (each-reverse list each))

  -- it holds of each token of the fallback
  abbrev EachOfFallback : Option Reference → Type 0
  EachOfFallback None = Unit {0}
  EachOfFallback (Some (name, None)) = Unit {0}
  EachOfFallback (Some (name, Some fallback)) = Each fallback

  each-comma : (name : List ℕ) (rest : List Token) (value : Bool) → Each rest → EachOfFallback (if value then Some (name, Some (trim_end (trim_front rest))) else None)
  each-comma name rest true each = each-end (trim_front rest) (each-front rest each)
  each-comma name rest false each = tt

  each-fallback : (name : List ℕ) (list : List Token) → Each list → EachOfFallback (fallback_in name list)
  each-fallback name [] each = tt
  each-fallback name (Comma ∷ rest) each = each-comma name rest (is_value rest) each.1
  each-fallback name (_ ∷ rest) each = tt

  each-custom : (name : List ℕ) (rest : List Token) (custom : Bool) → Each rest → EachOfFallback (named_fallback_in (if custom then Some (name, trim_front rest) else None))
  each-custom name rest true each = each-fallback name (trim_front rest) (each-front rest each)
  each-custom name rest false each = tt

  each-named : (list : List Token) → Each list → EachOfFallback (named_fallback_in (name_in list))
  each-named [] each = tt
  each-named (Ident text ∷ rest) each = each-custom text rest (is_custom text) each.1
  each-named (_ ∷ rest) each = tt

  each-reference : (inner : List Token) → Each inner → EachOfFallback (reference_in inner)
  unfolding reference_in
  each-reference inner each = each-named (trim_front inner) (each-front inner each)

  each-inner : (list : List Token) (end : Option ℕ) → Each list → Each (inner_to list end)
  each-inner list None each = each-drop 1 list each
  each-inner list (Some end) each = each-take (end - 1) (drop 1 list) (each-drop 1 list each)

  each-reference_at : (list : List Token) → Each list → EachOfFallback (reference_at list)
  each-reference_at list each =
      if_case EachOfFallback (begins_var list) (λ _. each-reference (inner_to list (matching list 0)) (each-inner list (matching list 0) each)) (λ _. tt)

  each-first : (found : Option Reference) (t : Token) (pieces : List Token → Pieces (List ℕ) Token) (rest behind : List Token) → P t → EachOfFallback found → Each rest → Each behind → ((list : List Token) → Each list → EachPiece P (pieces list)) → EachPiece P (first_piece found t pieces rest behind)
  each-first None t pieces rest behind here fallback each each_behind more = (here, more rest each)
  each-first (Some (name, None)) t pieces rest behind here fallback each each_behind more = more behind each_behind
  each-first (Some (name, Some list)) t pieces rest behind here fallback each each_behind more = (more list fallback, more behind each_behind)

  each-within : (most : ℕ) (list : List Token) → Each list → EachPiece P (pieces_within most list)
  each-within zero list each = tt
  each-within (suc most) [] each = tt
  each-within (suc most) (t ∷ rest) each =
      each-first (reference_at (t ∷ rest)) t (pieces_within most) rest (drop (function_size (t ∷ rest)) (t ∷ rest)) each.0 (each-reference_at (t ∷ rest) each) each.1 (each-drop (function_size (t ∷ rest)) (t ∷ rest) each) (each-within most)

  pub each-pieces : (list : List Token) → Each list → EachPiece P (pieces_of list)
  unfolding pieces_of
  each-pieces list each = each-within (length list) list each
