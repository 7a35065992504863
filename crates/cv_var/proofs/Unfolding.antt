-- The pieces of a list, one at a time.
use Rattle.std.proofs.Common.{◌≡◌, ℕ, suc, zero, ◌-◌, ◌<◌, ◌≤◌, List, [], ◌∷◌, length, drop, Option, Some, None, refl, ◌∙◌, ap, length-drop, length-take, arith}
use Rattle.std.proofs.lemmas.List.{length-reverse}
use Rattle.std.specs.Prelude.{Bool, true, false, reverse, if◌then◌else◌}
use Rattle.cv_var.proofs.Cases.{if_case}
use Rattle.cv_spec_text.specs.declared.token.Token.{Token}
use Rattle.cv_spec_text.specs.declared.token.Token.TheVariants.{Ident, Function, At, Hash, Str, BadStr, Url, BadUrl, Delim, Number, Percentage, Dimension, White, Cdo, Cdc, Colon, Semicolon, Comma, Open, Close}
use Rattle.cv_component.specs.TopLevel.{trim_front, trim_end}
use Rattle.cv_component.specs.Blocks.{matching}
use Rattle.cv_spec_element.specs.Pieces.{Pieces, finish, token, reference, reference_or}
use Rattle.cv_var.specs.Values.{is_value}
use Rattle.cv_spec_text.specs.Keywords.{is_custom}
use Rattle.cv_var.specs.References.{Reference, name_in, fallback_in, named_fallback_in, reference_in, inner_to, size_to, function_size, begins_var, reference_at, first_piece, pieces_within, pieces_of}

-- a fallback is shorter than what it stands in
abbrev pub FallbackWithin : ℕ → Option Reference → Type 0
FallbackWithin n None = Unit {0}
FallbackWithin n (Some (name, None)) = Unit {0}
FallbackWithin n (Some (name, Some fallback)) = length fallback ≤ n

FallbackWithin-le : (m n : ℕ) (found : Option Reference) → m ≤ n → FallbackWithin m found → FallbackWithin n found
FallbackWithin-le m n None le within = tt
FallbackWithin-le m n (Some (name, None)) le within = tt
FallbackWithin-le m n (Some (name, Some fallback)) le within = omega arith

length-trim_front : (tokens : List Token) → length (trim_front tokens) ≤ length tokens
length-trim_front [] = omega arith
length-trim_front (Ident name ∷ rest) = omega arith
length-trim_front (Function name ∷ rest) = omega arith
length-trim_front (At name ∷ rest) = omega arith
length-trim_front (Hash name id ∷ rest) = omega arith
length-trim_front (Str name ∷ rest) = omega arith
length-trim_front (BadStr ∷ rest) = omega arith
length-trim_front (Url name ∷ rest) = omega arith
length-trim_front (BadUrl ∷ rest) = omega arith
length-trim_front (Delim c ∷ rest) = omega arith
length-trim_front (Number name ∷ rest) = omega arith
length-trim_front (Percentage name ∷ rest) = omega arith
length-trim_front (Dimension number name ∷ rest) = omega arith
length-trim_front (White ∷ rest) = omega (arith, length-trim_front rest)
length-trim_front (Cdo ∷ rest) = omega arith
length-trim_front (Cdc ∷ rest) = omega arith
length-trim_front (Colon ∷ rest) = omega arith
length-trim_front (Semicolon ∷ rest) = omega arith
length-trim_front (Comma ∷ rest) = omega arith
length-trim_front (Open bracket ∷ rest) = omega arith
length-trim_front (Close bracket ∷ rest) = omega arith

length-trim_end : (tokens : List Token) → length (trim_end tokens) ≤ length tokens
length-trim_end tokens = omega (arith, length-reverse (trim_front (reverse tokens)), length-trim_front (reverse tokens), length-reverse tokens)

within_comma : (name : List ℕ) (rest : List Token) (value : Bool) → FallbackWithin (length rest) (if value then Some (name, Some (trim_end (trim_front rest))) else None)
within_comma name rest true = omega (arith, length-trim_end (trim_front rest), length-trim_front rest)
within_comma name rest false = tt

fallback_in-within : (name : List ℕ) (tokens : List Token) → FallbackWithin (length tokens) (fallback_in name tokens)
fallback_in-within name [] = tt
fallback_in-within name (Ident text ∷ rest) = tt
fallback_in-within name (Function text ∷ rest) = tt
fallback_in-within name (At text ∷ rest) = tt
fallback_in-within name (Hash text id ∷ rest) = tt
fallback_in-within name (Str text ∷ rest) = tt
fallback_in-within name (BadStr ∷ rest) = tt
fallback_in-within name (Url text ∷ rest) = tt
fallback_in-within name (BadUrl ∷ rest) = tt
fallback_in-within name (Delim c ∷ rest) = tt
fallback_in-within name (Number text ∷ rest) = tt
fallback_in-within name (Percentage text ∷ rest) = tt
fallback_in-within name (Dimension number text ∷ rest) = tt
fallback_in-within name (White ∷ rest) = tt
fallback_in-within name (Cdo ∷ rest) = tt
fallback_in-within name (Cdc ∷ rest) = tt
fallback_in-within name (Colon ∷ rest) = tt
fallback_in-within name (Semicolon ∷ rest) = tt
fallback_in-within name (Comma ∷ rest) = FallbackWithin-le (length rest) (suc (length rest)) _ (omega arith) (within_comma name rest (is_value rest))
fallback_in-within name (Open bracket ∷ rest) = tt
fallback_in-within name (Close bracket ∷ rest) = tt

within_custom : (name : List ℕ) (rest : List Token) (custom : Bool) → FallbackWithin (length rest) (named_fallback_in (if custom then Some (name, trim_front rest) else None))
within_custom name rest true = FallbackWithin-le (length (trim_front rest)) (length rest) _ (length-trim_front rest) (fallback_in-within name (trim_front rest))
within_custom name rest false = tt

named_fallback_in-within : (tokens : List Token) → FallbackWithin (length tokens) (named_fallback_in (name_in tokens))
named_fallback_in-within [] = tt
named_fallback_in-within (Ident name ∷ rest) = FallbackWithin-le (length rest) (suc (length rest)) _ (omega arith) (within_custom name rest (is_custom name))
named_fallback_in-within (Function name ∷ rest) = tt
named_fallback_in-within (At name ∷ rest) = tt
named_fallback_in-within (Hash name id ∷ rest) = tt
named_fallback_in-within (Str name ∷ rest) = tt
named_fallback_in-within (BadStr ∷ rest) = tt
named_fallback_in-within (Url name ∷ rest) = tt
named_fallback_in-within (BadUrl ∷ rest) = tt
named_fallback_in-within (Delim c ∷ rest) = tt
named_fallback_in-within (Number name ∷ rest) = tt
named_fallback_in-within (Percentage name ∷ rest) = tt
named_fallback_in-within (Dimension number name ∷ rest) = tt
named_fallback_in-within (White ∷ rest) = tt
named_fallback_in-within (Cdo ∷ rest) = tt
named_fallback_in-within (Cdc ∷ rest) = tt
named_fallback_in-within (Colon ∷ rest) = tt
named_fallback_in-within (Semicolon ∷ rest) = tt
named_fallback_in-within (Comma ∷ rest) = tt
named_fallback_in-within (Open bracket ∷ rest) = tt
named_fallback_in-within (Close bracket ∷ rest) = tt

reference_in-within : (inner : List Token) → FallbackWithin (length inner) (reference_in inner)
unfolding reference_in
reference_in-within inner = FallbackWithin-le (length (trim_front inner)) (length inner) _ (length-trim_front inner) (named_fallback_in-within (trim_front inner))

length-inner_to : (tokens : List Token) (end : Option ℕ) → length (inner_to tokens end) ≤ length tokens - 1
length-inner_to tokens None = omega (arith, length-drop 1 tokens)
length-inner_to tokens (Some end) = omega (arith, length-drop 1 tokens, length-take (end - 1) (drop 1 tokens))

pub reference_at-within : (t : Token) (rest : List Token) → FallbackWithin (length rest) (reference_at (t ∷ rest))
reference_at-within t rest =
    if_case (λ (found : Option Reference). FallbackWithin (length rest) found) (begins_var (t ∷ rest))
    (λ _. FallbackWithin-le (length (inner_to (t ∷ rest) (matching (t ∷ rest) 0))) (length rest) _ (let inside = length-inner_to (t ∷ rest) (matching (t ∷ rest) 0) in omega arith) (reference_in-within (inner_to (t ∷ rest) (matching (t ∷ rest) 0))))
    (λ _. tt)

size_to-positive : (t : Token) (rest : List Token) (end : Option ℕ) → 0 < size_to (t ∷ rest) end
size_to-positive t rest None = omega arith
size_to-positive t rest (Some end) = omega arith

-- what comes behind a function is shorter
pub length-behind : (t : Token) (rest : List Token) → length (drop (function_size (t ∷ rest)) (t ∷ rest)) ≤ length rest
length-behind t rest = let size = size_to-positive t rest (matching (t ∷ rest) 0) in let len = length-drop (function_size (t ∷ rest)) (t ∷ rest) in omega arith

first_piece-same : (found : Option Reference) (t : Token) (a b : List Token → Pieces (List ℕ) Token) (rest behind : List Token) → FallbackWithin (length rest) found → length behind ≤ length rest → ((tokens : List Token) → length tokens ≤ length rest → a tokens ≡ b tokens) → first_piece found t a rest behind ≡ first_piece found t b rest behind
first_piece-same None t a b rest behind within shorter same = ap (token t) (same rest (omega arith))
first_piece-same (Some (name, None)) t a b rest behind within shorter same = ap (reference name) (same behind shorter)
first_piece-same (Some (name, Some fallback)) t a b rest behind within shorter same = ap (λ ps. reference_or name ps (a behind)) (same fallback within) ∙ ap (reference_or name (b fallback)) (same behind shorter)

-- any bound on the length does
pieces_within-same : (a b : ℕ) (tokens : List Token) → length tokens ≤ a → length tokens ≤ b → pieces_within a tokens ≡ pieces_within b tokens
pieces_within-same zero zero tokens short few = refl
pieces_within-same zero (suc b) [] short few = refl
pieces_within-same zero (suc b) (t ∷ rest) short few = absurd (omega arith)
pieces_within-same (suc a) zero [] short few = refl
pieces_within-same (suc a) zero (t ∷ rest) short few = absurd (omega arith)
pieces_within-same (suc a) (suc b) [] short few = refl
pieces_within-same (suc a) (suc b) (t ∷ rest) short few =
    first_piece-same (reference_at (t ∷ rest)) t (pieces_within a) (pieces_within b) rest (drop (function_size (t ∷ rest)) (t ∷ rest)) (reference_at-within t rest) (length-behind t rest)
    (λ tokens fits. pieces_within-same a b tokens (omega arith) (omega arith))

-- the law of the definition, with no bound
pub pieces_of-nil : pieces_of [] ≡ finish
unfolding pieces_of
pieces_of-nil = refl

pub pieces_of-more : (t : Token) (rest : List Token) → pieces_of (t ∷ rest) ≡ first_piece (reference_at (t ∷ rest)) t pieces_of rest (drop (function_size (t ∷ rest)) (t ∷ rest))
unfolding pieces_of
pieces_of-more t rest =
    first_piece-same (reference_at (t ∷ rest)) t (pieces_within (length rest)) (λ tokens. pieces_within (length tokens) tokens) rest (drop (function_size (t ∷ rest)) (t ∷ rest)) (reference_at-within t rest) (length-behind t rest)
    (λ tokens fits. pieces_within-same (length rest) (length tokens) tokens fits (omega arith))
