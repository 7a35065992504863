-- The brackets that close a list, by their definition and by the brackets that are open.
use Rattle.std.proofs.Common.{◌≡◌, ◌≢◌, ℕ, suc, zero, ◌<◌, List, [], ◌∷◌, ◌++◌, length, map, take, None, refl, sym, ◌∙◌, ap, subst, append_assoc, append-nil, length-append, arith}
use Rattle.std.specs.Prelude.{Bool, true, false}
use Rattle.std.proofs.Math.Seq.{take-append_seam}
use Rattle.cv_spec_text.specs.declared.token.Bracket.{Bracket}
use Rattle.cv_spec_text.specs.declared.token.Token.{Token}
use Rattle.cv_spec_text.specs.declared.token.Token.TheVariants.{Ident, Function, At, Hash, Str, BadStr, Url, BadUrl, Delim, Number, Percentage, Dimension, White, Cdo, Cdc, Colon, Semicolon, Comma, Open, Close}
use Rattle.cv_component.specs.Nesting.{opened, nesting_after, nesting_past, completed}
use Rattle.cv_component.specs.Balance.{IsBlock}
use Rattle.cv_component.specs.Balance as balance
use Rattle.cv_component.specs.TopLevel.{top_length}
use Rattle.cv_component.specs.TopLevels.{IsOpen, AreWhole, nothing, plain, whole, StopsAfter, nowhere, within, before, closes, never, AreClosedBy, closed, open_in}
use Rattle.cv_component.proofs.Balanced.{is_kind-same, is_kind-true, nesting_after-opens, nesting_after-plain, nesting_after-closes}
use Rattle.cv_component.proofs.TopLevels.{nesting_after-nothing, stops_after}

-- a block closes its bracket and no other
pub block_past : (kind : Bracket) (inner : List Token) → IsBlock kind inner → (base : List Bracket) (more : List Token) → nesting_past (kind ∷ base) (inner ++ more) ≡ nesting_past base more
block_past _ _ (balance.ends bracket) base more = ap (λ nesting. nesting_past nesting more) (nesting_after-closes bracket base (Close bracket) refl)
block_past _ _ (balance.plain bracket token rest none other is) base more =
    ap (λ nesting. nesting_past nesting (rest ++ more)) (nesting_after-plain bracket base token none other) ∙ block_past bracket rest is base more
block_past _ _ (balance.block bracket kind token inner rest opens_it inner_is rest_is) base more =
    ap (λ ts. nesting_past (bracket ∷ base) (token ∷ ts)) (append_assoc inner rest more)
    ∙ ap (λ nesting. nesting_past nesting (inner ++ (rest ++ more))) (nesting_after-opens (bracket ∷ base) token kind opens_it)
    ∙ block_past kind inner inner_is (bracket ∷ base) (rest ++ more)
    ∙ block_past bracket rest rest_is base more

-- plain tokens that don't stop change nothing where these brackets are open
abbrev pub Suits : (Token → Bool) → List Bracket → Type 0
Suits stops base = (token : Token) → stops token ≡ false → opened token ≡ None → nesting_after base token ≡ base

whole_past : (stops : Token → Bool) (base : List Bracket) → Suits stops base → (front more : List Token) → AreWhole stops front → nesting_past base (front ++ more) ≡ nesting_past base more
whole_past stops base suits _ more nothing = refl
whole_past stops base suits _ more (plain token rest passes none are) = ap (λ nesting. nesting_past nesting (rest ++ more)) (suits token passes none) ∙ whole_past stops base suits rest more are
whole_past stops base suits _ more (whole kind token inner rest passes opens_it is are) =
    ap (λ ts. nesting_past base (token ∷ ts)) (append_assoc inner rest more)
    ∙ ap (λ nesting. nesting_past nesting (inner ++ (rest ++ more))) (nesting_after-opens base token kind opens_it)
    ∙ block_past kind inner is base (rest ++ more)
    ∙ whole_past stops base suits rest more are

not_closing : (kind : Bracket) (token : Token) → closes kind token ≡ false → token ≢ Close kind
not_closing kind token passes same = let yes : closes kind token ≡ true = ap (closes kind) same ∙ is_kind-same kind in cc

suits_closes : (kind : Bracket) (base : List Bracket) → Suits (closes kind) (kind ∷ base)
suits_closes kind base token passes none = nesting_after-plain kind base token none (not_closing kind token passes)

suits_never : Suits never []
suits_never token passes none = nesting_after-nothing token none

closers_past : (stops : Token → Bool) (tokens closers : List Token) → AreClosedBy stops tokens closers → (base : List Bracket) → Suits stops base → map Close (nesting_past base tokens) ≡ closers ++ map Close base
closers_past _ _ _ (closed stops tokens are) base suits = ap (λ ts. map Close (nesting_past base ts)) (sym (append-nil tokens)) ∙ ap (map Close) (whole_past stops base suits tokens [] are)
closers_past _ _ _ (open_in stops kind front inner closers token are passes opens_it inner_are) base suits =
    ap (map Close) (whole_past stops base suits front (token ∷ inner) are)
    ∙ ap (λ nesting. map Close (nesting_past nesting inner)) (nesting_after-opens base token kind opens_it)
    ∙ closers_past (closes kind) inner closers inner_are (kind ∷ base) (suits_closes kind base)
    ∙ sym (append_assoc closers (Close kind ∷ []) (map Close base))

pub closed_by : (tokens closers : List Token) → AreClosedBy never tokens closers → completed tokens ≡ tokens ++ closers
closed_by tokens closers is = ap (λ cs. tokens ++ cs) (closers_past never tokens closers is [] suits_never ∙ append-nil closers)

closing_token : (kind : Bracket) (token : Token) → closes kind token ≡ true → token ≡ Close kind
closing_token kind (Close bracket) is = ap Close (is_kind-true kind bracket is)
closing_token kind (Ident name) is = absurd cc
closing_token kind (Function name) is = absurd cc
closing_token kind (At name) is = absurd cc
closing_token kind (Hash name id) is = absurd cc
closing_token kind (Str name) is = absurd cc
closing_token kind BadStr is = absurd cc
closing_token kind (Url name) is = absurd cc
closing_token kind BadUrl is = absurd cc
closing_token kind (Delim c) is = absurd cc
closing_token kind (Number name) is = absurd cc
closing_token kind (Percentage name) is = absurd cc
closing_token kind (Dimension number name) is = absurd cc
closing_token kind White is = absurd cc
closing_token kind Cdo is = absurd cc
closing_token kind Cdc is = absurd cc
closing_token kind Colon is = absurd cc
closing_token kind Semicolon is = absurd cc
closing_token kind Comma is = absurd cc
closing_token kind (Open bracket) is = absurd cc

-- whole blocks and a closing bracket behind them are a block
whole_block : (kind : Bracket) (front : List Token) (token : Token) → AreWhole (closes kind) front → closes kind token ≡ true → IsBlock kind (front ++ token ∷ [])
whole_block kind _ token nothing is = subst (λ t. IsBlock kind (t ∷ [])) (sym (closing_token kind token is)) (balance.ends kind)
whole_block kind _ token (plain first rest passes none are) is = balance.plain kind first (rest ++ token ∷ []) none (not_closing kind first passes) (whole_block kind rest token are is)
whole_block kind _ token (whole inner_kind first inner rest passes opens_it inner_is are) is =
    subst (λ ts. IsBlock kind (first ∷ ts)) (sym (append_assoc inner rest (token ∷ [])))
    (balance.block kind inner_kind first inner (rest ++ token ∷ []) opens_it inner_is (whole_block kind rest token are is))

-- no token of the top level stops
abbrev Passes : (Token → Bool) → List Token → Type 0
Passes stops tokens = (front rest : List Token) (token : Token) → tokens ≡ front ++ token ∷ rest → AreWhole stops front → stops token ≡ true → ⊥

open_passes : (kind : Bracket) (tokens : List Token) → IsOpen kind tokens → Passes (closes kind) tokens
open_passes kind tokens is_open front rest token same are stops_it =
    let all : tokens ≡ (front ++ token ∷ []) ++ rest = same ∙ sym (append_assoc front (token ∷ []) rest) in
    let block : take (length (front ++ token ∷ [])) tokens ≡ front ++ token ∷ [] = ap (take (length (front ++ token ∷ []))) all ∙ take-append_seam (front ++ token ∷ []) rest in
    is_open (length (front ++ token ∷ [])) (subst (IsBlock kind) (sym block) (whole_block kind front token are stops_it))

abbrev HasClosers : (Token → Bool) → List Token → Type 0
HasClosers stops tokens = (closers : List Token) × AreClosedBy stops tokens closers

closers_of : (stops : Token → Bool) (tokens : List Token) (n : ℕ) → StopsAfter stops tokens n → Passes stops tokens → ((kind : Bracket) (inner : List Token) → length inner < length tokens → Passes (closes kind) inner → HasClosers (closes kind) inner) → HasClosers stops tokens
closers_of stops _ _ (nowhere tokens are) passes shorter = ([], closed stops tokens are)
closers_of stops _ _ (within kind front inner token are first opens_it is_open) passes shorter =
    let (closers, inner_are) = shorter kind inner (omega (arith, length-append front (token ∷ inner))) (open_passes kind inner is_open) in
    (closers ++ Close kind ∷ [], open_in stops kind front inner closers token are first opens_it inner_are)
closers_of stops _ _ (before front rest token are stops_it) passes shorter = absurd (passes front rest token refl are stops_it)

closers_within : (most : ℕ) (stops : Token → Bool) (tokens : List Token) → length tokens < most → Passes stops tokens → HasClosers stops tokens
closers_within zero stops tokens fits passes = absurd (omega arith)
closers_within (suc most) stops tokens fits passes =
    closers_of stops tokens (top_length stops tokens) (stops_after stops tokens) passes (λ kind inner short inner_passes. closers_within most (closes kind) inner (omega arith) inner_passes)

never_stops : (tokens : List Token) → Passes never tokens
never_stops tokens front rest token same are stops_it = cc

pub closers : (tokens : List Token) → (closers : List Token) × (completed tokens ≡ tokens ++ closers) × AreClosedBy never tokens closers
closers tokens = let (found, are) = closers_within (suc (length tokens)) never tokens (omega arith) (never_stops tokens) in (found, closed_by tokens found are, are)
