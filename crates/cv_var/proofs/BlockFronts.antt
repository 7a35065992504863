-- What stands between the brackets of a block depends on no token behind it.
use Rattle.std.proofs.Common.{◌≡◌, ℕ, ◌+◌, ◌-◌, ◌≤◌, List, [], ◌∷◌, ◌++◌, length, take, drop, Option, Some, None, refl, sym, ◌∙◌, ap, subst, append_assoc, append-nil, length-append, arith}
use Rattle.std.specs.Prelude.{Bool, true, false, ◌&&◌, if◌then◌else◌, option_map, is_none}
use Rattle.std.proofs.lemmas.List.{take-append-le, take-append-drop, length-take-le}
use Rattle.std.proofs.Math.Seq.{take-append_seam}
use Rattle.cv_spec_text.specs.declared.token.Bracket.{Bracket}
use Rattle.cv_spec_text.specs.declared.token.Token.{Token}
use Rattle.cv_spec_text.specs.declared.token.Token.TheVariants.{Ident, Function, At, Hash, Str, BadStr, Url, BadUrl, Delim, Number, Percentage, Dimension, White, Cdo, Cdc, Colon, Semicolon, Comma, Open, Close}
use Rattle.cv_component.specs.Nesting.{opened}
use Rattle.cv_component.specs.Blocks.{closing, closing_of, matching}
use Rattle.cv_component.specs.Balance.{IsBlock, ends, plain, block, BlocksAreBalanced}
use Rattle.cv_var.specs.References.{is_var, reference_in, inner_to, is_bad_var}
use Rattle.cv_var.proofs.GoodLists.{IsGood, split, join, good_suffix}

not_var : (token : Token) → opened token ≡ None → is_var token ≡ false
not_var (Ident text) none = refl
not_var (Function text) none = absurd cc
not_var (At text) none = refl
not_var (Hash text id) none = refl
not_var (Str text) none = refl
not_var BadStr none = refl
not_var (Url text) none = refl
not_var BadUrl none = refl
not_var (Delim c) none = refl
not_var (Number text) none = refl
not_var (Percentage text) none = refl
not_var (Dimension number text) none = refl
not_var White none = refl
not_var Cdo none = refl
not_var Cdc none = refl
not_var Colon none = refl
not_var Semicolon none = refl
not_var Comma none = refl
not_var (Open bracket) none = refl
not_var (Close bracket) none = refl

not_bad : (a b : Bool) → a ≡ false → (a && b) ≡ false
not_bad false b is = refl
not_bad true b is = absurd cc

abbrev bad_by : Bool → List Token → Bool
bad_by var inner = var && is_none (if var then reference_in inner else None)

-- a list that may be put in front of any other in which each `var()` is a reference
abbrev Swaps : List Token → Type 0
Swaps front = (xs ys : List Token) → IsGood (front ++ xs) → IsGood ys → IsGood (front ++ ys)

-- a block without its last bracket is such a list
abbrev Front : Bracket → List Token → Type 0
Front bracket tokens = (front : List Token) × (tokens ≡ front ++ Close bracket ∷ []) × Swaps front

module _ (balanced : BlocksAreBalanced) where
  inner_of_block : (kind : Bracket) (token : Token) (inner rest : List Token) → opened token ≡ Some kind → IsBlock kind inner → inner_to (token ∷ inner ++ rest) (matching (token ∷ inner ++ rest) 0) ≡ take ((0 + length inner) - 1) inner
  inner_of_block kind token inner rest is inner_is =
      ap (λ o. inner_to (token ∷ inner ++ rest) (closing_of 0 o (inner ++ rest))) is
      ∙ ap (λ e. inner_to (token ∷ inner ++ rest) (option_map (λ n. 0 + n) e)) (balanced.closes kind inner rest inner_is)
      ∙ take-append-le ((0 + length inner) - 1) inner rest (omega arith)

  bad_same : (kind : Bracket) (token : Token) (inner xs ys : List Token) → opened token ≡ Some kind → IsBlock kind inner → is_bad_var (token ∷ inner ++ xs) ≡ is_bad_var (token ∷ inner ++ ys)
  bad_same kind token inner xs ys is inner_is =
      ap (bad_by (is_var token)) (inner_of_block kind token inner xs is inner_is ∙ sym (inner_of_block kind token inner ys is inner_is))

  block_swaps : (kind : Bracket) (token : Token) (inner front : List Token) → opened token ≡ Some kind → IsBlock kind inner → Front kind inner → Swaps front → Swaps (token ∷ inner ++ front)
  block_swaps kind token inner front is inner_is (inside, same, inside_swaps) swaps xs ys good_x good =
      let all : IsGood (token ∷ inner ++ (front ++ xs)) = subst (λ ts. IsGood (token ∷ ts)) (append_assoc inner front xs) good_x in
      let both = split token (inner ++ (front ++ xs)) all in
      let shape : (zs : List Token) → inner ++ zs ≡ inside ++ (Close kind ∷ zs) = λ zs. ap (λ ts. ts ++ zs) same ∙ append_assoc inside (Close kind ∷ []) zs in
      let behind : IsGood (front ++ ys) = swaps xs ys (good_suffix inner (front ++ xs) both.1) good in
      let from : IsGood (inside ++ (Close kind ∷ (front ++ xs))) = subst IsGood (shape (front ++ xs)) both.1 in
      let to : IsGood (inside ++ (Close kind ∷ (front ++ ys))) = inside_swaps (Close kind ∷ (front ++ xs)) (Close kind ∷ (front ++ ys)) from (join (Close kind) (front ++ ys) refl behind) in
      let more : IsGood (inner ++ (front ++ ys)) = subst IsGood (sym (shape (front ++ ys))) to in
      let right : is_bad_var (token ∷ inner ++ (front ++ ys)) ≡ false = bad_same kind token inner (front ++ ys) (front ++ xs) is inner_is ∙ both.0 in
      subst (λ ts. IsGood (token ∷ ts)) (sym (append_assoc inner front ys)) (join token (inner ++ (front ++ ys)) right more)

  plain_swaps : (token : Token) (front : List Token) → opened token ≡ None → Swaps front → Swaps (token ∷ front)
  plain_swaps token front none swaps xs ys good_x good =
      join token (front ++ ys) (not_bad (is_var token) _ (not_var token none)) (swaps xs ys (split token (front ++ xs) good_x).1 good)

  front_of : (bracket : Bracket) (tokens : List Token) → IsBlock bracket tokens → Front bracket tokens
  front_of _ _ (ends bracket) = ([], refl, λ xs ys good_x good. good)
  front_of _ _ (plain bracket token rest none other is) =
      let (front, same, swaps) = front_of bracket rest is in (token ∷ front, ap (λ ts. token ∷ ts) same, plain_swaps token front none swaps)
  front_of _ _ (block bracket kind token inner rest is inner_is rest_is) =
      let (front, same, swaps) = front_of bracket rest rest_is in (
        token ∷ inner ++ front,
        ap (λ ts. token ∷ inner ++ ts) same ∙ ap (λ ts. token ∷ ts) (sym (append_assoc inner front (Close bracket ∷ []))),
        block_swaps kind token inner front is inner_is (front_of kind inner inner_is) swaps,
      )

  -- so is each `var()` of what stands between the brackets
  front_good : (bracket : Bracket) (rest : List Token) (n : ℕ) → IsGood rest → n ≤ length rest → Front bracket (take n rest) → IsGood (take ((0 + n) - 1) rest)
  front_good bracket rest n good le (front, same, swaps) =
      let whole : rest ≡ front ++ Close bracket ∷ drop n rest = sym (take-append-drop n rest) ∙ ap (λ ts. ts ++ drop n rest) same ∙ append_assoc front (Close bracket ∷ []) (drop n rest) in
      let size : n ≡ length front + 1 = sym (length-take-le n rest le) ∙ ap length same ∙ length-append front (Close bracket ∷ []) in
      let last : (0 + n) - 1 ≡ length front = omega arith in
      let is : take ((0 + n) - 1) rest ≡ front = ap (λ k. take k rest) last ∙ ap (take (length front)) whole ∙ take-append_seam front (Close bracket ∷ drop n rest) in
      let alone : IsGood (front ++ []) = swaps (Close bracket ∷ drop n rest) [] (subst IsGood whole good) refl in
      subst IsGood (sym is) (subst IsGood (append-nil front) alone)

  inner_by : (t : Token) (bracket : Bracket) (rest : List Token) (end : Option ℕ) → closing (bracket ∷ []) rest ≡ end → IsGood rest → IsGood (inner_to (t ∷ rest) (option_map (λ n. 0 + n) end))
  inner_by t bracket rest None is good = good
  inner_by t bracket rest (Some n) is good =
      let (le, block_is) = balanced.is_block bracket rest n is in front_good bracket rest n good le (front_of bracket (take n rest) block_is)

  inner_opened : (t : Token) (rest : List Token) (o : Option Bracket) → IsGood rest → IsGood (inner_to (t ∷ rest) (closing_of 0 o rest))
  inner_opened t rest None good = good
  inner_opened t rest (Some bracket) good = inner_by t bracket rest (closing (bracket ∷ []) rest) refl good

  pub good_inner : (t : Token) (rest : List Token) → IsGood rest → IsGood (inner_to (t ∷ rest) (matching (t ∷ rest) 0))
  good_inner t rest good = inner_opened t rest (opened t) good
