-- Whitespace at the end of a list makes no `var()` in it right or wrong.
use Rattle.std.proofs.Common.{◌≡◌, ℕ, suc, ◌+◌, ◌-◌, List, [], ◌∷◌, ◌++◌, Option, Some, None, refl, sym, ◌∙◌, ap, subst, arith}
use Rattle.std.specs.Prelude.{Bool, true, false, not, ◌&&◌, if◌then◌else◌, option_map, is_none, reverse}
use Rattle.std.proofs.lemmas.List.{take-append-le, reverse-append, reverse-reverse}
use Rattle.cv_spec_text.specs.Keywords.{is_custom}
use Rattle.cv_spec_text.specs.declared.token.Bracket.{Bracket}
use Rattle.cv_spec_text.specs.declared.token.Token.{Token}
use Rattle.cv_spec_text.specs.declared.token.Token.TheVariants.{Ident, Function, At, Hash, Str, BadStr, Url, BadUrl, Delim, Number, Percentage, Dimension, White, Cdo, Cdc, Colon, Semicolon, Comma, Open, Close}
use Rattle.cv_component.specs.Nesting.{opened, nesting_after}
use Rattle.cv_component.specs.Blocks.{closing, closing_of, matching}
use Rattle.cv_component.specs.Balance.{BlocksAreBalanced}
use Rattle.cv_component.specs.TopLevel.{trim_front, trim_end}
use Rattle.cv_var.specs.Values.{is_allowed, bad_place_within, bad_place, is_value}
use Rattle.cv_var.specs.References.{Reference, is_var, name_in, fallback_in, named_fallback_in, reference_in, inner_to, is_bad_var, bad_var}
use Rattle.cv_var.proofs.GoodLists.{IsGood}

closing-white : (nesting : List Bracket) (tokens : List Token) → closing nesting (tokens ++ White ∷ []) ≡ closing nesting tokens
closing-white [] [] = refl
closing-white (inner ∷ outer) [] = refl
closing-white [] (t ∷ rest) = refl
closing-white (inner ∷ outer) (t ∷ rest) = ap (option_map suc) (closing-white (nesting_after (inner ∷ outer) t) rest)

closing_of-white : (o : Option Bracket) (tokens : List Token) → closing_of 0 o (tokens ++ White ∷ []) ≡ closing_of 0 o tokens
closing_of-white None tokens = refl
closing_of-white (Some bracket) tokens = ap (option_map (λ n. 0 + n)) (closing-white (bracket ∷ []) tokens)

bad_place-white : (nesting : List Bracket) (tokens : List Token) → bad_place_within nesting (tokens ++ White ∷ []) ≡ bad_place_within nesting tokens
bad_place-white nesting [] = refl
bad_place-white nesting (t ∷ rest) = ap (λ (o : Option ℕ). if is_allowed nesting t then option_map suc o else Some 0) (bad_place-white (nesting_after nesting t) rest)

is_value-white : (tokens : List Token) → is_value (tokens ++ White ∷ []) ≡ is_value tokens
unfolding bad_place
is_value-white tokens = ap is_none (bad_place-white [] tokens)

is_none-if : (value : Bool) (found : Reference) → is_none (if value then Some found else None) ≡ not value
is_none-if true found = refl
is_none-if false found = refl

fallback-white : (name : List ℕ) (tokens : List Token) → is_none (fallback_in name (trim_front (tokens ++ White ∷ []))) ≡ is_none (fallback_in name (trim_front tokens))
fallback-white name [] = refl
fallback-white name (Ident text ∷ rest) = refl
fallback-white name (Function text ∷ rest) = refl
fallback-white name (At text ∷ rest) = refl
fallback-white name (Hash text id ∷ rest) = refl
fallback-white name (Str text ∷ rest) = refl
fallback-white name (BadStr ∷ rest) = refl
fallback-white name (Url text ∷ rest) = refl
fallback-white name (BadUrl ∷ rest) = refl
fallback-white name (Delim c ∷ rest) = refl
fallback-white name (Number text ∷ rest) = refl
fallback-white name (Percentage text ∷ rest) = refl
fallback-white name (Dimension number text ∷ rest) = refl
fallback-white name (White ∷ rest) = fallback-white name rest
fallback-white name (Cdo ∷ rest) = refl
fallback-white name (Cdc ∷ rest) = refl
fallback-white name (Colon ∷ rest) = refl
fallback-white name (Semicolon ∷ rest) = refl
fallback-white name (Comma ∷ rest) = is_none-if (is_value (rest ++ White ∷ [])) (name, Some (trim_end (trim_front (rest ++ White ∷ [])))) ∙ ap not (is_value-white rest) ∙ sym (is_none-if (is_value rest) (name, Some (trim_end (trim_front rest))))
fallback-white name (Open bracket ∷ rest) = refl
fallback-white name (Close bracket ∷ rest) = refl

custom-white : (name : List ℕ) (rest : List Token) (custom : Bool) → is_none (named_fallback_in (if custom then Some (name, trim_front (rest ++ White ∷ [])) else None)) ≡ is_none (named_fallback_in (if custom then Some (name, trim_front rest) else None))
custom-white name rest true = fallback-white name rest
custom-white name rest false = refl

named-white : (tokens : List Token) → is_none (named_fallback_in (name_in (trim_front (tokens ++ White ∷ [])))) ≡ is_none (named_fallback_in (name_in (trim_front tokens)))
named-white [] = refl
named-white (Ident text ∷ rest) = custom-white text rest (is_custom text)
named-white (Function text ∷ rest) = refl
named-white (At text ∷ rest) = refl
named-white (Hash text id ∷ rest) = refl
named-white (Str text ∷ rest) = refl
named-white (BadStr ∷ rest) = refl
named-white (Url text ∷ rest) = refl
named-white (BadUrl ∷ rest) = refl
named-white (Delim c ∷ rest) = refl
named-white (Number text ∷ rest) = refl
named-white (Percentage text ∷ rest) = refl
named-white (Dimension number text ∷ rest) = refl
named-white (White ∷ rest) = named-white rest
named-white (Cdo ∷ rest) = refl
named-white (Cdc ∷ rest) = refl
named-white (Colon ∷ rest) = refl
named-white (Semicolon ∷ rest) = refl
named-white (Comma ∷ rest) = refl
named-white (Open bracket ∷ rest) = refl
named-white (Close bracket ∷ rest) = refl

reference_in-white : (tokens : List Token) → is_none (reference_in (tokens ++ White ∷ [])) ≡ is_none (reference_in tokens)
unfolding reference_in
reference_in-white tokens = named-white tokens

same_bad : (var : Bool) (a b : Option Reference) → is_none a ≡ is_none b → (var && is_none (if var then a else None)) ≡ (var && is_none (if var then b else None))
same_bad true a b same = same
same_bad false a b same = refl

module _ (balanced : BlocksAreBalanced) where
  inner_by-white : (t : Token) (bracket : Bracket) (rest : List Token) (end : Option ℕ) → closing (bracket ∷ []) rest ≡ end → is_none (reference_in (inner_to (t ∷ rest ++ White ∷ []) (option_map (λ n. 0 + n) end))) ≡ is_none (reference_in (inner_to (t ∷ rest) (option_map (λ n. 0 + n) end)))
  inner_by-white t bracket rest None is = reference_in-white rest
  inner_by-white t bracket rest (Some n) is =
      let (le, block_is) = balanced.is_block bracket rest n is in ap (λ ts. is_none (reference_in ts)) (take-append-le ((0 + n) - 1) rest (White ∷ []) (omega arith))

  inner-white : (t : Token) (rest : List Token) (o : Option Bracket) → is_none (reference_in (inner_to (t ∷ rest ++ White ∷ []) (closing_of 0 o rest))) ≡ is_none (reference_in (inner_to (t ∷ rest) (closing_of 0 o rest)))
  inner-white t rest None = reference_in-white rest
  inner-white t rest (Some bracket) = inner_by-white t bracket rest (closing (bracket ∷ []) rest) refl

  is_bad_var-white : (t : Token) (rest : List Token) → is_bad_var (t ∷ rest ++ White ∷ []) ≡ is_bad_var (t ∷ rest)
  is_bad_var-white t rest =
      same_bad (is_var t) (reference_in (inner_to (t ∷ rest ++ White ∷ []) (matching (t ∷ rest ++ White ∷ []) 0))) (reference_in (inner_to (t ∷ rest) (matching (t ∷ rest) 0)))
      (ap (λ end. is_none (reference_in (inner_to (t ∷ rest ++ White ∷ []) end))) (closing_of-white (opened t) rest) ∙ inner-white t rest (opened t))

  bad_var-white : (tokens : List Token) → bad_var (tokens ++ White ∷ []) ≡ bad_var tokens
  bad_var-white [] = refl
  bad_var-white (t ∷ rest) =
      ap (λ bad. if bad then Some 0 else option_map suc (bad_var (rest ++ White ∷ []))) (is_bad_var-white t rest)
      ∙ ap (λ (o : Option ℕ). if is_bad_var (t ∷ rest) then Some 0 else option_map suc o) (bad_var-white rest)

  turned : (tokens : List Token) → IsGood (reverse tokens) → IsGood (reverse (trim_front tokens))
  turned [] good = good
  turned (Ident text ∷ rest) good = good
  turned (Function text ∷ rest) good = good
  turned (At text ∷ rest) good = good
  turned (Hash text id ∷ rest) good = good
  turned (Str text ∷ rest) good = good
  turned (BadStr ∷ rest) good = good
  turned (Url text ∷ rest) good = good
  turned (BadUrl ∷ rest) good = good
  turned (Delim c ∷ rest) good = good
  turned (Number text ∷ rest) good = good
  turned (Percentage text ∷ rest) good = good
  turned (Dimension number text ∷ rest) good = good
  turned (White ∷ rest) good = turned rest (sym (bad_var-white (reverse rest)) ∙ subst IsGood (reverse-append (White ∷ []) rest) good)
  turned (Cdo ∷ rest) good = good
  turned (Cdc ∷ rest) good = good
  turned (Colon ∷ rest) good = good
  turned (Semicolon ∷ rest) good = good
  turned (Comma ∷ rest) good = good
  turned (Open bracket ∷ rest) good = good
  turned (Close bracket ∷ rest) good = good

  pub good_end : (tokens : List Token) → IsGood tokens → IsGood (trim_end tokens)
  good_end tokens good = turned (reverse tokens) (subst IsGood (sym (reverse-reverse tokens)) good)
