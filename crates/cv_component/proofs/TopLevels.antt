-- Top levels and closing brackets by their definitions, and by the brackets that are open.
use Rattle.std.proofs.Common.{◌≡◌, ℕ, suc, zero, ◌+◌, ◌≤◌, List, [], ◌∷◌, ◌++◌, length, take, drop, Option, Some, None, refl, sym, ◌∙◌, ap, subst, append_assoc, append-nil, length-append, length-drop, arith}
use Rattle.std.specs.Prelude.{Bool, true, false, option_map}
use Rattle.std.proofs.lemmas.List.{take-append-drop, length-take-le}
use Rattle.cv_spec_text.specs.declared.token.Bracket.{Bracket}
use Rattle.cv_spec_text.specs.declared.token.Token.{Token}
use Rattle.cv_spec_text.specs.declared.token.Token.TheVariants.{Ident, Function, At, Hash, Str, BadStr, Url, BadUrl, Delim, Number, Percentage, Dimension, White, Cdo, Cdc, Colon, Semicolon, Comma, Open, Close}
use Rattle.cv_component.specs.Nesting.{opened, nesting_after}
use Rattle.cv_component.specs.Blocks.{closing}
use Rattle.cv_component.specs.Balance.{IsBlock}
use Rattle.cv_component.specs.TopLevel.{top_length_within, top_length}
use Rattle.cv_component.specs.TopLevels.{IsOpen, AreWhole, nothing, plain, whole, StopsAfter, nowhere, within, before}
use Rattle.cv_component.proofs.Balanced.{nesting_after-opens, are_balanced}

-- a token that opens nothing closes nothing where no bracket is open
pub nesting_after-nothing : (token : Token) → opened token ≡ None → nesting_after [] token ≡ []
nesting_after-nothing (Ident name) none = refl
nesting_after-nothing (Function name) none = absurd cc
nesting_after-nothing (At name) none = refl
nesting_after-nothing (Hash name id) none = refl
nesting_after-nothing (Str name) none = refl
nesting_after-nothing BadStr none = refl
nesting_after-nothing (Url name) none = refl
nesting_after-nothing BadUrl none = refl
nesting_after-nothing (Delim c) none = refl
nesting_after-nothing (Number name) none = refl
nesting_after-nothing (Percentage name) none = refl
nesting_after-nothing (Dimension number name) none = refl
nesting_after-nothing White none = refl
nesting_after-nothing Cdo none = refl
nesting_after-nothing Cdc none = refl
nesting_after-nothing Colon none = refl
nesting_after-nothing Semicolon none = refl
nesting_after-nothing Comma none = refl
nesting_after-nothing (Open bracket) none = absurd cc
nesting_after-nothing (Close bracket) none = refl

-- a bracket is open where no front of the tokens is its block
pub never_closed : (kind : Bracket) (tokens : List Token) → closing (kind ∷ []) tokens ≡ None → IsOpen kind tokens
never_closed kind tokens none n is =
    let ends_there = are_balanced.closes kind (take n tokens) (drop n tokens) is in
    let some : closing (kind ∷ []) tokens ≡ Some (length (take n tokens)) = ap (closing (kind ∷ [])) (sym (take-append-drop n tokens)) ∙ ends_there in
    cc

not_closed_by : (kind : Bracket) (tokens : List Token) → IsOpen kind tokens → (end : Option ℕ) → closing (kind ∷ []) tokens ≡ end → end ≡ None
not_closed_by kind tokens is_open None is = refl
not_closed_by kind tokens is_open (Some n) is = absurd (is_open n (are_balanced.is_block kind tokens n is).1)

pub not_closed : (kind : Bracket) (tokens : List Token) → IsOpen kind tokens → closing (kind ∷ []) tokens ≡ None
not_closed kind tokens is_open = not_closed_by kind tokens is_open (closing (kind ∷ []) tokens) refl

-- the tokens of a list behind its first, up to where a number of them ends
pub suc_of : (end : Option ℕ) (n : ℕ) → option_map suc end ≡ Some n → (m : ℕ) × (end ≡ Some m) × (n ≡ suc m)
suc_of None n is = absurd cc
suc_of (Some m) n is = let same : suc m ≡ n = cc in (m, refl, sym same)

pub none_of : (end : Option ℕ) → option_map suc end ≡ None → end ≡ None
none_of None is = refl
none_of (Some m) is = absurd cc

module _ (stops : Token → Bool) where
  stop_first : (token : Token) (rest : List Token) → stops token ≡ true → top_length_within stops [] (token ∷ rest) ≡ 0
  stop_first token rest is = rw is refl

  stop_later : (token : Token) (rest : List Token) → stops token ≡ false → top_length_within stops [] (token ∷ rest) ≡ suc (top_length_within stops (nesting_after [] token) rest)
  stop_later token rest is = rw is refl

  -- within brackets no token stops
  past_closed : (nesting : List Bracket) (tokens : List Token) (n : ℕ) → closing nesting tokens ≡ Some n → top_length_within stops nesting tokens ≡ n + top_length_within stops [] (drop n tokens)
  past_closed [] [] n is = let same : 0 ≡ n = cc in rw (← same) (omega arith)
  past_closed [] (token ∷ rest) n is = let same : 0 ≡ n = cc in rw (← same) (omega arith)
  past_closed (inner ∷ outer) [] n is = absurd cc
  past_closed (inner ∷ outer) (token ∷ rest) n is =
      let (m, end, size) = suc_of (closing (nesting_after (inner ∷ outer) token) rest) n is in
      let more = past_closed (nesting_after (inner ∷ outer) token) rest m end in
      rw size (omega (arith, more))

  past_open : (nesting : List Bracket) (tokens : List Token) → closing nesting tokens ≡ None → top_length_within stops nesting tokens ≡ length tokens
  past_open [] [] is = refl
  past_open [] (token ∷ rest) is = absurd cc
  past_open (inner ∷ outer) [] is = refl
  past_open (inner ∷ outer) (token ∷ rest) is = ap suc (past_open (nesting_after (inner ∷ outer) token) rest (none_of (closing (nesting_after (inner ∷ outer) token) rest) is))

  past_plain : (token : Token) (rest : List Token) → stops token ≡ false → opened token ≡ None → top_length_within stops [] (token ∷ rest) ≡ suc (top_length_within stops [] rest)
  past_plain token rest passes none = stop_later token rest passes ∙ ap (λ nesting. suc (top_length_within stops nesting rest)) (nesting_after-nothing token none)

  past_block : (kind : Bracket) (token : Token) (rest : List Token) (n : ℕ) → stops token ≡ false → opened token ≡ Some kind → closing (kind ∷ []) rest ≡ Some n → top_length_within stops [] (token ∷ rest) ≡ suc n + top_length_within stops [] (drop n rest)
  past_block kind token rest n passes opens_it end =
      let inside = past_closed (kind ∷ []) rest n end in
      stop_later token rest passes ∙ ap (λ nesting. suc (top_length_within stops nesting rest)) (nesting_after-opens [] token kind opens_it) ∙ omega (arith, inside)

  past_unclosed : (kind : Bracket) (token : Token) (rest : List Token) → stops token ≡ false → opened token ≡ Some kind → closing (kind ∷ []) rest ≡ None → top_length_within stops [] (token ∷ rest) ≡ suc (length rest)
  past_unclosed kind token rest passes opens_it none =
      stop_later token rest passes ∙ ap (λ nesting. suc (top_length_within stops nesting rest)) (nesting_after-opens [] token kind opens_it) ∙ ap suc (past_open (kind ∷ []) rest none)

  pub drop_block : (inner more : List Token) → drop (length inner) (inner ++ more) ≡ more
  drop_block [] more = refl
  drop_block (t ∷ inner) more = drop_block inner more

  -- what is whole is passed
  past_whole : (front more : List Token) → AreWhole stops front → top_length_within stops [] (front ++ more) ≡ length front + top_length_within stops [] more
  past_whole _ more nothing = omega arith
  past_whole _ more (plain token rest passes none are) = let later = past_whole rest more are in past_plain token (rest ++ more) passes none ∙ omega (arith, later)
  past_whole _ more (whole kind token inner rest passes opens_it is are) =
      let later = past_whole rest more are in
      let end = are_balanced.closes kind inner (rest ++ more) is in
      ap (λ ts. top_length_within stops [] (token ∷ ts)) (append_assoc inner rest more)
      ∙ past_block kind token (inner ++ (rest ++ more)) (length inner) passes opens_it end
      ∙ ap (λ ts. suc (length inner) + top_length_within stops [] ts) (drop_block inner (rest ++ more))
      ∙ omega (arith, later, length-append inner rest)

  stops_within : (tokens : List Token) (n : ℕ) → StopsAfter stops tokens n → top_length_within stops [] tokens ≡ n
  stops_within _ _ (nowhere tokens are) = ap (top_length_within stops []) (sym (append-nil tokens)) ∙ past_whole tokens [] are ∙ omega arith
  stops_within _ _ (within kind front inner token are passes opens_it is_open) =
      let later = past_unclosed kind token inner passes opens_it (not_closed kind inner is_open) in
      past_whole front (token ∷ inner) are ∙ omega (arith, later, length-append front (token ∷ inner))
  stops_within _ _ (before front rest token are stops_it) =
      let later = stop_first token rest stops_it in past_whole front (token ∷ rest) are ∙ omega (arith, later)

  pub stops_there : (tokens : List Token) (n : ℕ) → StopsAfter stops tokens n → top_length stops tokens ≡ n
  unfolding top_length
  stops_there tokens n is = stops_within tokens n is

  -- one more at the front
  plain_first : (token : Token) (rest : List Token) (n : ℕ) → stops token ≡ false → opened token ≡ None → StopsAfter stops rest n → StopsAfter stops (token ∷ rest) (suc n)
  plain_first token _ _ passes none (nowhere rest are) = nowhere (token ∷ rest) (plain token rest passes none are)
  plain_first token _ _ passes none (within kind front inner last are last_passes opens_it is_open) = within kind (token ∷ front) inner last (plain token front passes none are) last_passes opens_it is_open
  plain_first token _ _ passes none (before front rest last are stops_it) = before (token ∷ front) rest last (plain token front passes none are) stops_it

  block_first : (kind : Bracket) (token : Token) (inside rest : List Token) (n : ℕ) → stops token ≡ false → opened token ≡ Some kind → IsBlock kind inside → StopsAfter stops rest n → StopsAfter stops (token ∷ inside ++ rest) (suc (length inside) + n)
  block_first kind token inside _ _ passes opens_it is (nowhere rest are) =
      subst (StopsAfter stops (token ∷ inside ++ rest)) (omega (arith, length-append inside rest)) (nowhere (token ∷ inside ++ rest) (whole kind token inside rest passes opens_it is are))
  block_first kind token inside _ _ passes opens_it is (within inner_kind front inner last are last_passes last_opens is_open) =
      let same : (token ∷ inside ++ front) ++ last ∷ inner ≡ token ∷ inside ++ (front ++ last ∷ inner) = ap (λ ts. token ∷ ts) (append_assoc inside front (last ∷ inner)) in
      let found = within inner_kind (token ∷ inside ++ front) inner last (whole kind token inside front passes opens_it is are) last_passes last_opens is_open in
      subst (StopsAfter stops (token ∷ inside ++ (front ++ last ∷ inner))) (omega (arith, length-append inside (front ++ last ∷ inner))) (subst (λ ts. StopsAfter stops ts (length ts)) same found)
  block_first kind token inside _ _ passes opens_it is (before front rest last are stops_it) =
      let same : (token ∷ inside ++ front) ++ last ∷ rest ≡ token ∷ inside ++ (front ++ last ∷ rest) = ap (λ ts. token ∷ ts) (append_assoc inside front (last ∷ rest)) in
      let found = before (token ∷ inside ++ front) rest last (whole kind token inside front passes opens_it is are) stops_it in
      subst (StopsAfter stops (token ∷ inside ++ (front ++ last ∷ rest))) (omega (arith, length-append inside front)) (subst (λ ts. StopsAfter stops ts (length (token ∷ inside ++ front))) same found)

  abbrev Found : List Token → Type 0
  Found tokens = StopsAfter stops tokens (top_length_within stops [] tokens)

  found_opened : (kind : Bracket) (token : Token) (rest : List Token) → ((more : List Token) → length more ≤ length rest → Found more) → stops token ≡ false → opened token ≡ Some kind → (end : Option ℕ) → closing (kind ∷ []) rest ≡ end → Found (token ∷ rest)
  found_opened kind token rest shorter passes opens_it None none =
      subst (StopsAfter stops (token ∷ rest)) (sym (past_unclosed kind token rest passes opens_it none)) (within kind [] rest token nothing passes opens_it (never_closed kind rest none))
  found_opened kind token rest shorter passes opens_it (Some n) end =
      let (le, is) = are_balanced.is_block kind rest n end in
      let size = length-take-le n rest le in
      let found = block_first kind token (take n rest) (drop n rest) _ passes opens_it is (shorter (drop n rest) (omega (arith, length-drop n rest))) in
      let count : suc (length (take n rest)) + top_length_within stops [] (drop n rest) ≡ top_length_within stops [] (token ∷ rest) = omega (arith, size, past_block kind token rest n passes opens_it end) in
      subst (StopsAfter stops (token ∷ rest)) count
      (subst (λ ts. StopsAfter stops (token ∷ ts) (suc (length (take n rest)) + top_length_within stops [] (drop n rest))) (take-append-drop n rest) found)

  found_first : (token : Token) (rest : List Token) → ((more : List Token) → length more ≤ length rest → Found more) → (stop : Bool) → stops token ≡ stop → (o : Option Bracket) → opened token ≡ o → Found (token ∷ rest)
  found_first token rest shorter true stops_it o is = subst (StopsAfter stops (token ∷ rest)) (sym (stop_first token rest stops_it)) (before [] rest token nothing stops_it)
  found_first token rest shorter false passes None none = subst (StopsAfter stops (token ∷ rest)) (sym (past_plain token rest passes none)) (plain_first token rest _ passes none (shorter rest (omega arith)))
  found_first token rest shorter false passes (Some kind) opens_it = found_opened kind token rest shorter passes opens_it (closing (kind ∷ []) rest) refl

  found_within : (most : ℕ) (tokens : List Token) → length tokens ≤ most → Found tokens
  found_within most [] fits = nowhere [] nothing
  found_within zero (token ∷ rest) fits = absurd (omega arith)
  found_within (suc most) (token ∷ rest) fits = found_first token rest (λ more short. found_within most more (omega arith)) (stops token) refl (opened token) refl

  pub stops_after : (tokens : List Token) → StopsAfter stops tokens (top_length stops tokens)
  unfolding top_length
  stops_after tokens = found_within (length tokens) tokens (omega arith)
