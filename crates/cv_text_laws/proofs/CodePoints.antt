-- What escapes and names spell.
use Rattle.std.proofs.Common.{◌≡◌, ℕ, inl, inr, ◌+◌, ◌<◌, ◌≤◌, List, [], ◌∷◌, ◌++◌, length, drop, refl, sym, ◌∙◌, ap, arith, append_assoc, length-append}
use Rattle.std.specs.Prelude.{true, false, ◌==◌, All}
use Rattle.std.specs.Char.{is_ascii_hexdigit}
use Rattle.std.proofs.Math.Seq.{drop-append_seam, take-append_seam}
use Rattle.std.proofs.lemmas.Bool.Decides.{nat_tests}
use Rattle.cv_spec_text.specs.Characters.{reverse_solidus, is_ident_code_point}
use Rattle.cv_spec_text.specs.Names.{begins_escape, code_point_of, hex_length, hex_value, escape_length, escape_value, name_piece_length, name_piece_value, name_value}
use Rattle.cv_spec_text.proofs.Runs.{run_values-more, run_values-end}
use Rattle.cv_text_laws.specs.EscapeSpellings.{IsOptionalWhitespace}
use Rattle.cv_text_laws.specs.CodePoints.{PlainEscapesStandForThemselves, HexEscapesStandForTheirNumber, LastEscapeStandsForReplacement, NamesKeepCodePoints, NamesReadEscapes, NamesEnd}
use Rattle.cv_text_laws.proofs.Digits.{prefix_len-all, prefix_len-none}
use Rattle.cv_text_laws.proofs.Escapes.{hex_length-least, no_hex_space, tells_escape}
use Rattle.cv_text_laws.proofs.Names.{name_piece-ident, name_piece-escape, name_piece-none}

plain_value : (c : ℕ) (rest : List ℕ) → is_ascii_hexdigit c ≡ false → escape_value (reverse_solidus ∷ c ∷ rest) ≡ c
unfolding escape_value
plain_value c rest plain = rw plain refl

pub plain_escapes : PlainEscapesStandForThemselves
plain_escapes escape rest is = ap (λ (l : List ℕ). escape_value (l ++ rest)) is.parts ∙ plain_value is.code_point rest is.no_hex

-- by how many hex digits stand there
value_by_digits : (digits behind : List ℕ) → hex_length (digits ++ behind) ≡ length digits → 0 < length digits
    → escape_value (reverse_solidus ∷ (digits ++ behind)) ≡ code_point_of (hex_value digits)
unfolding escape_value
value_by_digits digits behind size some =
    let other : (length digits == 0) ≡ false = grind (arith, nat_tests) in
    rw (size, other, take-append_seam digits behind) refl

digits_are_all : (digits space rest : List ℕ) → 0 < length digits → length digits ≤ 6 → All (λ c. is_ascii_hexdigit c ≡ true) digits → IsOptionalWhitespace space
    → escape_length (reverse_solidus ∷ (digits ++ (space ++ rest))) ≡ 1 + length digits + length space → hex_length (digits ++ (space ++ rest)) ≡ length digits
digits_are_all digits space rest some most hex (inl none) size =
    let all = prefix_len-all is_ascii_hexdigit digits rest hex in
    let size' : escape_length (reverse_solidus ∷ (digits ++ rest)) ≡ 1 + length digits =
    ap (λ (l : List ℕ). escape_length (reverse_solidus ∷ (digits ++ (l ++ rest)))) (sym none) ∙ size ∙ omega (arith, ap length none) in
    let least : length digits ≤ hex_length (digits ++ rest) = omega (arith, all) in
    rw none (omega (arith, least, size', hex_length-least (reverse_solidus ∷ (digits ++ rest)) _ refl (omega (arith, least))))
digits_are_all digits space rest some most hex (inr (c, is, spaced)) size =
    rw is (omega (arith, prefix_len-all is_ascii_hexdigit digits (c ∷ rest) hex, prefix_len-none is_ascii_hexdigit (c ∷ rest) (no_hex_space c rest spaced)))

pub hex_escapes : HexEscapesStandForTheirNumber
hex_escapes escape rest is longest =
    let regrouped : escape ++ rest ≡ reverse_solidus ∷ (is.digits ++ (is.space ++ rest)) =
    ap (λ (l : List ℕ). l ++ rest) is.parts ∙ ap (λ (l : List ℕ). reverse_solidus ∷ l) (append_assoc is.digits is.space rest) in
    let size : length escape ≡ 1 + length is.digits + length is.space = ap length is.parts ∙ omega (arith, length-append is.digits is.space) in
    let told = ap escape_length (sym regrouped) ∙ (tells_escape escape rest longest).size ∙ size in
    ap escape_value regrouped
    ∙ value_by_digits is.digits (is.space ++ rest) (digits_are_all is.digits is.space rest is.some is.most is.hex is.spaced told) is.some

pub last_escape : LastEscapeStandsForReplacement
unfolding escape_value
last_escape = refl

ident_value : (c : ℕ) (rest : List ℕ) → is_ident_code_point c ≡ true → name_piece_value (c ∷ rest) ≡ c ∷ []
unfolding name_piece_value
ident_value c rest ident = let other : (c == reverse_solidus) ≡ false = grind (arith, nat_tests) in rw other refl

escape_piece_value : (text : List ℕ) → begins_escape text ≡ true → name_piece_value text ≡ escape_value text ∷ []
unfolding name_piece_value
escape_piece_value text begins = rw begins refl

-- a piece in front of a name
name_value-more : (piece rest value : List ℕ) → 0 < length piece → name_piece_length (piece ++ rest) ≡ length piece → name_piece_value (piece ++ rest) ≡ value
    → name_value (piece ++ rest) ≡ value ++ name_value rest
name_value-more piece rest value some size value_is =
    run_values-more name_piece_length name_piece_value (length piece) (piece ++ rest) size some (omega (arith, length-append piece rest))
    ∙ ap (λ (l : List ℕ). l ++ name_value (drop (length piece) (piece ++ rest))) value_is
    ∙ ap (λ (l : List ℕ). value ++ name_value l) (drop-append_seam piece rest)

pub names_keep : NamesKeepCodePoints
names_keep c rest ident = name_value-more (c ∷ []) rest (c ∷ []) (omega arith) (name_piece-ident (c ∷ rest) ident) (ident_value c rest ident)

pub names_read_escapes : NamesReadEscapes
names_read_escapes escape rest longest =
    let told = tells_escape escape rest longest in
    name_value-more escape rest (escape_value (escape ++ rest) ∷ []) told.some (name_piece-escape (escape ++ rest) told.begins ∙ told.size)
    (escape_piece_value (escape ++ rest) told.begins)

pub names_end : NamesEnd
names_end text other plain = run_values-end name_piece_length name_piece_value text (name_piece-none text other plain)
