-- The depth of a list by its blocks, and by the brackets that are open.
use Rattle.std.proofs.Common.{◌≡◌, ℕ, suc, zero, ◌+◌, ◌≤◌, List, [], ◌∷◌, ◌++◌, length, take, drop, Option, Some, None, refl, sym, ◌∙◌, ap, subst, append_assoc, length-drop, length-take-le, arith}
use Rattle.std.specs.Prelude.{max, option_map}
use Rattle.std.proofs.lemmas.List.{take-append-drop}
use Rattle.cv_spec_text.specs.declared.token.Bracket.{Bracket}
use Rattle.cv_spec_text.specs.declared.token.Token.{Token}
use Rattle.cv_spec_text.specs.declared.token.Token.TheVariants.{Close}
use Rattle.cv_component.specs.Nesting.{opened, nesting_after, depth_within, depth}
use Rattle.cv_component.specs.Blocks.{closing, inner_depth}
use Rattle.cv_component.specs.Balance.{IsBlock}
use Rattle.cv_component.specs.Balance as balance
use Rattle.cv_component.specs.TopLevels.{IsDeep, flat, past, in_block, in_open}
use Rattle.cv_component.proofs.Balanced.{Effect, opens, stays, effect, nesting_after-opens, nesting_after-plain, nesting_after-closes, are_balanced}
use Rattle.cv_component.proofs.Balanced as balanced
use Rattle.cv_component.proofs.Inside.{from_end, resumed, closing-inside, inner_depth-inside, inner_depth-nothing, depth_within-inside}
use Rattle.cv_component.proofs.TopLevels.{nesting_after-nothing, never_closed, not_closed, none_of}

drop_front : (inner more : List Token) → drop (length inner) (inner ++ more) ≡ more
drop_front [] more = refl
drop_front (t ∷ inner) more = drop_front inner more

-- the depth of a list that begins with a token that opens a block
abbrev behind_block : Bracket → List Token → ℕ
behind_block kind rest = max (inner_depth (kind ∷ []) rest) (from_end (λ n. depth_within [] (drop n rest)) (closing (kind ∷ []) rest))

opened_depth : (kind : Bracket) (token : Token) (rest : List Token) → opened token ≡ Some kind → depth_within [] (token ∷ rest) ≡ behind_block kind rest
opened_depth kind token rest opens_it =
    let first = ap (λ nesting. depth_within nesting rest) (nesting_after-opens [] token kind opens_it) in
    let inside = depth_within-inside (kind ∷ []) [] rest in
    omega (arith, first, inside)

plain_depth : (token : Token) (rest : List Token) → opened token ≡ None → depth_within [] (token ∷ rest) ≡ depth_within [] rest
plain_depth token rest none = let first = ap (λ nesting. depth_within nesting rest) (nesting_after-nothing token none) in omega (arith, first)

closes_there : (kind : Bracket) (inner more : List Token) → IsBlock kind inner → (f : List Token → ℕ) → from_end (λ n. f (drop n (inner ++ more))) (closing (kind ∷ []) (inner ++ more)) ≡ f more
closes_there kind inner more is f =
    ap (from_end (λ n. f (drop n (inner ++ more)))) (are_balanced.closes kind inner more is) ∙ ap f (drop_front inner more)

-- the depth of a list that begins with a block
deeper : (kind : Bracket) (token : Token) (inner more : List Token) → opened token ≡ Some kind → IsBlock kind inner → inner_depth (kind ∷ []) (inner ++ more) ≡ suc (depth_within [] inner)
    → depth_within [] (token ∷ inner ++ more) ≡ max (suc (depth_within [] inner)) (depth_within [] more)
deeper kind token inner more opens_it is inside =
    opened_depth kind token (inner ++ more) opens_it ∙ omega (arith, inside, closes_there kind inner more is (depth_within []))

pub block_depth : (kind : Bracket) (inner : List Token) → IsBlock kind inner → (more : List Token) → inner_depth (kind ∷ []) (inner ++ more) ≡ suc (depth_within [] inner)
block_depth _ _ (balance.ends bracket) more =
    ap (λ nesting. max 1 (inner_depth nesting more)) (nesting_after-closes bracket [] (Close bracket) refl) ∙ omega (arith, inner_depth-nothing more)
block_depth _ _ (balance.plain bracket token rest none other is) more =
    let later = block_depth bracket rest is more in
    let first = ap (λ nesting. inner_depth nesting (rest ++ more)) (nesting_after-plain bracket [] token none other) in
    omega (arith, later, first, plain_depth token rest none)
block_depth _ _ (balance.block bracket kind token inner rest opens_it inner_is rest_is) more =
    let later = block_depth bracket rest rest_is more in
    let within = block_depth kind inner inner_is (rest ++ more) in
    let first = ap (λ nesting. inner_depth nesting (inner ++ (rest ++ more))) (nesting_after-opens (bracket ∷ []) token kind opens_it) in
    let inside = inner_depth-inside (kind ∷ []) (bracket ∷ []) (inner ++ (rest ++ more)) in
    let behind = closes_there kind inner (rest ++ more) inner_is (inner_depth (bracket ∷ [])) in
    let here = deeper kind token inner rest opens_it inner_is (block_depth kind inner inner_is rest) in
    ap (λ ts. inner_depth (bracket ∷ []) (token ∷ ts)) (append_assoc inner rest more)
    ∙ omega (arith, later, within, first, inside, behind, here)

option_none : (n : ℕ) (o : Option ℕ) → option_map (λ m. n + m) o ≡ None → o ≡ None
option_none n None is = refl
option_none n (Some m) is = absurd cc

abbrev OpenDepth : ℕ → Type 0
OpenDepth most = (kind : Bracket) (tokens : List Token) → length tokens ≤ most → closing (kind ∷ []) tokens ≡ None → inner_depth (kind ∷ []) tokens ≡ suc (depth_within [] tokens)

open_opened : (most : ℕ) → OpenDepth most → (kind inner_kind : Bracket) (token : Token) (rest : List Token) → length rest ≤ most → opened token ≡ Some inner_kind → closing (inner_kind ∷ kind ∷ []) rest ≡ None → (end : Option ℕ) → closing (inner_kind ∷ []) rest ≡ end
    → max 1 (inner_depth (inner_kind ∷ kind ∷ []) rest) ≡ suc (depth_within [] (token ∷ rest))
open_opened most shorter kind inner_kind token rest fits opens_it none None end =
    let within = shorter inner_kind rest fits end in
    let inside = inner_depth-inside (inner_kind ∷ []) (kind ∷ []) rest ∙ ap (λ e. max (1 + inner_depth (inner_kind ∷ []) rest) (from_end (λ n. inner_depth (kind ∷ []) (drop n rest)) e)) end in
    let here = opened_depth inner_kind token rest opens_it ∙ ap (λ e. max (inner_depth (inner_kind ∷ []) rest) (from_end (λ n. depth_within [] (drop n rest)) e)) end in
    omega (arith, within, inside, here)
open_opened most shorter kind inner_kind token rest fits opens_it none (Some n) end =
    let (le, is) = are_balanced.is_block inner_kind rest n end in
    let behind : closing (kind ∷ []) (drop n rest) ≡ None = option_none n _ (sym (closing-inside (inner_kind ∷ []) (kind ∷ []) rest ∙ ap (resumed (λ k. closing (kind ∷ []) (drop k rest))) end) ∙ none) in
    let later = shorter kind (drop n rest) (omega (arith, length-drop n rest)) behind in
    let within = ap (inner_depth (inner_kind ∷ [])) (sym (take-append-drop n rest)) ∙ block_depth inner_kind (take n rest) is (drop n rest) in
    let inside = inner_depth-inside (inner_kind ∷ []) (kind ∷ []) rest ∙ ap (λ e. max (1 + inner_depth (inner_kind ∷ []) rest) (from_end (λ k. inner_depth (kind ∷ []) (drop k rest)) e)) end in
    let here = ap (λ ts. depth_within [] (token ∷ ts)) (sym (take-append-drop n rest)) ∙ deeper inner_kind token (take n rest) (drop n rest) opens_it is (block_depth inner_kind (take n rest) is (drop n rest)) in
    omega (arith, later, within, inside, here)

open_by : (most : ℕ) → OpenDepth most → (kind : Bracket) (token : Token) (rest : List Token) → length rest ≤ most → closing (nesting_after (kind ∷ []) token) rest ≡ None → Effect kind [] token → inner_depth (kind ∷ []) (token ∷ rest) ≡ suc (depth_within [] (token ∷ rest))
open_by most shorter kind token rest fits none (opens inner_kind opens_it after) =
    ap (λ nesting. max 1 (inner_depth nesting rest)) after
    ∙ open_opened most shorter kind inner_kind token rest fits opens_it (ap (λ nesting. closing nesting rest) (sym after) ∙ none) (closing (inner_kind ∷ []) rest) refl
open_by most shorter kind token rest fits none (balanced.closes is after) =
    let wrong : closing [] rest ≡ None = ap (λ nesting. closing nesting rest) (sym after) ∙ none in
    let some = balanced.closing-nothing rest in
    absurd cc
open_by most shorter kind token rest fits none (stays plain other after) =
    let later = shorter kind rest fits (ap (λ nesting. closing nesting rest) (sym after) ∙ none) in
    let first = ap (λ nesting. inner_depth nesting rest) after in
    omega (arith, later, first, plain_depth token rest plain)

open_within : (most : ℕ) → OpenDepth most
open_within most kind [] fits none = refl
open_within zero kind (token ∷ rest) fits none = absurd (omega arith)
open_within (suc most) kind (token ∷ rest) fits none = open_by most (open_within most) kind token rest (omega arith) (none_of (closing (nesting_after (kind ∷ []) token) rest) none) (effect kind [] token)

open_depth : (kind : Bracket) (token : Token) (rest : List Token) → opened token ≡ Some kind → closing (kind ∷ []) rest ≡ None → depth_within [] (token ∷ rest) ≡ suc (depth_within [] rest)
open_depth kind token rest opens_it none =
    let within = open_within (length rest) kind rest (omega arith) none in
    let here = opened_depth kind token rest opens_it ∙ ap (λ e. max (inner_depth (kind ∷ []) rest) (from_end (λ n. depth_within [] (drop n rest)) e)) none in
    omega (arith, within, here)

pub depth_is : (tokens : List Token) (n : ℕ) → IsDeep tokens n → depth tokens ≡ n
depth_is _ _ flat = refl
depth_is _ _ (past token rest n none is) = plain_depth token rest none ∙ depth_is rest n is
depth_is _ _ (in_block kind token inner rest m n opens_it is inner_is rest_is) =
    let within = depth_is inner m inner_is in
    let later = depth_is rest n rest_is in
    deeper kind token inner rest opens_it is (block_depth kind inner is rest) ∙ omega (arith, within, later)
depth_is _ _ (in_open kind token inner m opens_it is_open inner_is) =
    open_depth kind token inner opens_it (not_closed kind inner is_open) ∙ ap suc (depth_is inner m inner_is)

abbrev Deep : List Token → Type 0
Deep tokens = IsDeep tokens (depth_within [] tokens)

deep_opened : (kind : Bracket) (token : Token) (rest : List Token) → ((more : List Token) → length more ≤ length rest → Deep more) → opened token ≡ Some kind → (end : Option ℕ) → closing (kind ∷ []) rest ≡ end → Deep (token ∷ rest)
deep_opened kind token rest shorter opens_it None none =
    subst (IsDeep (token ∷ rest)) (sym (open_depth kind token rest opens_it none)) (in_open kind token rest _ opens_it (never_closed kind rest none) (shorter rest (omega arith)))
deep_opened kind token rest shorter opens_it (Some n) end =
    let (le, is) = are_balanced.is_block kind rest n end in
    let size = length-take-le n rest le in
    let inner = take n rest in
    let more = drop n rest in
    let found = in_block kind token inner more _ _ opens_it is (shorter inner (omega (arith, size, le))) (shorter more (omega (arith, length-drop n rest))) in
    let count : max (suc (depth_within [] inner)) (depth_within [] more) ≡ depth_within [] (token ∷ inner ++ more) = sym (deeper kind token inner more opens_it is (block_depth kind inner is more)) in
    subst (λ ts. Deep (token ∷ ts)) (take-append-drop n rest) (subst (IsDeep (token ∷ inner ++ more)) count found)

deep_first : (token : Token) (rest : List Token) → ((more : List Token) → length more ≤ length rest → Deep more) → (o : Option Bracket) → opened token ≡ o → Deep (token ∷ rest)
deep_first token rest shorter None none = subst (IsDeep (token ∷ rest)) (sym (plain_depth token rest none)) (past token rest _ none (shorter rest (omega arith)))
deep_first token rest shorter (Some kind) opens_it = deep_opened kind token rest shorter opens_it (closing (kind ∷ []) rest) refl

deep_within : (most : ℕ) (tokens : List Token) → length tokens ≤ most → Deep tokens
deep_within most [] fits = flat
deep_within zero (token ∷ rest) fits = absurd (omega arith)
deep_within (suc most) (token ∷ rest) fits = deep_first token rest (λ more short. deep_within most more (omega arith)) (opened token) refl

pub deep : (tokens : List Token) → IsDeep tokens (depth tokens)
deep tokens = deep_within (length tokens) tokens (omega arith)
