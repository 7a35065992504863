-- What is escaped in a string is ASCII, so that it may be escaped byte by byte.
use Rattle.std.specs.Prelude.{◌&&◌, encode_utf8, encode_utf8_all}
use Rattle.std.specs.List.{flat_map}
use Rattle.std.proofs.Common.{◌≡◌, ℕ, zero, suc, ◌<◌, ◌≤◌, Bool, true, false, nat_lt, List, [], ◌∷◌, ◌++◌, length, get_or, inl, inr, refl, sym, ap, ◌∙◌, arith, append_assoc, append-nil, ltb-true}
use Rattle.std.proofs.lemmas.Bool.{and_parts, cases_lt, cases_eq, ne_eqb, le-leb, lt-leb}
use Rattle.std.proofs.lemmas.Grind.{flat_map-append}
use Rattle.std.proofs.lemmas.Str.{encode_ascii, encodes-append, inside_one}
use Rattle.cv_spec_text.specs.declared.token.Token.{Token}
use Rattle.cv_spec_text.specs.Characters.{quotation_mark}
use Rattle.cv_spec_text.specs.Printing.{string_code_point, hex_escape, quoted, written, bytes}
use Rattle.cv_reify.specs.Text.{string_text}

-- ---- what an ASCII character is written as is ASCII

abbrev are_ascii : List ℕ → Bool
are_ascii [] = true
are_ascii (x ∷ xs) = nat_lt x 128 && are_ascii xs

encodes_ascii : (xs : List ℕ) → are_ascii xs ≡ true → encode_utf8_all xs ≡ xs
encodes_ascii [] e = refl
encodes_ascii (x ∷ xs) e =
    let p = and_parts _ _ e in
    ap (λ bs. bs ++ encode_utf8_all xs) (encode_ascii x (ltb-true _ _ p.0)) ∙ ap (λ bs. x ∷ bs) (encodes_ascii xs p.1)

-- what each character below n is written as is ASCII
abbrev escapes_below : ℕ → Bool
escapes_below zero = true
escapes_below (suc n) = are_ascii (string_code_point n) && escapes_below n

escape_below : (n : ℕ) → escapes_below n ≡ true → (x : ℕ) → x < n → are_ascii (string_code_point x) ≡ true
escape_below zero e x h = absurd (omega arith)
escape_below (suc n) e x h =
    let p = and_parts _ _ e in
    elim (cases_eq x n) [ inl same ↦ rw same p.0 | inr other ↦ escape_below n p.1 x (omega arith) ]

all_ascii : escapes_below 128 ≡ true
unfolding string_code_point hex_escape
all_ascii = refl

-- ---- another character is written as it is

high_plain : (x : ℕ) → 128 ≤ x → string_code_point x ≡ x ∷ []
unfolding string_code_point
high_plain x high =
    rw (
      ne_eqb x 0x22 (λ e. omega arith),
      ne_eqb x 0x5c (λ e. omega arith),
      le-leb 1 x (omega arith),
      lt-leb x 0x1F (omega arith),
      ne_eqb x 0x7F (λ e. omega arith),
    )

all_high : (xs : List ℕ) → ((k : ℕ) → k < length xs → 128 ≤ get_or xs k 0) → flat_map string_code_point xs ≡ xs
all_high [] h = refl
all_high (x ∷ xs) h =
    ap (λ bs. bs ++ flat_map string_code_point xs) (high_plain x (h 0 (omega arith))) ∙ ap (λ bs. x ∷ bs) (all_high xs (λ k below. h (suc k) (omega arith)))

one : (c : ℕ) → encode_utf8_all (string_code_point c) ≡ flat_map string_code_point (encode_utf8 c)
one c = elim (cases_lt c 128) [
  | inl small ↦
      encodes_ascii (string_code_point c) (escape_below 128 all_ascii c small)
      ∙ sym (append-nil (string_code_point c)) ∙ ap (flat_map string_code_point) (sym (encode_ascii c small))
  | inr big ↦
      let high : (k : ℕ) → k < length (encode_utf8 c) → 128 ≤ get_or (encode_utf8 c) k 0 = λ k below. elim (cases_lt (get_or (encode_utf8 c) k 0) 128) [
        | inl low ↦ absurd (omega (arith, inside_one c [] (encode_utf8 c) k (sym (append-nil _)) below low))
        | inr h ↦ h
      ] in
      ap encode_utf8_all (high_plain c big) ∙ append-nil (encode_utf8 c) ∙ sym (all_high (encode_utf8 c) high)
]

all : (cs : List ℕ) → encode_utf8_all (flat_map string_code_point cs) ≡ flat_map string_code_point (encode_utf8_all cs)
all [] = refl
all (c ∷ cs) =
    encodes-append (string_code_point c) (flat_map string_code_point cs)
    ∙ ap (λ bs. bs ++ encode_utf8_all (flat_map string_code_point cs)) (one c)
    ∙ ap (λ bs. flat_map string_code_point (encode_utf8 c) ++ bs) (all cs)
    ∙ sym (flat_map-append string_code_point (encode_utf8 c) (encode_utf8_all cs))

-- ---- strings

mark : encode_utf8 quotation_mark ≡ quotation_mark ∷ []
mark = encode_ascii quotation_mark (omega arith)

quoted_encoded : (cs : List ℕ) → encode_utf8_all (quoted cs) ≡ quoted (encode_utf8_all cs)
quoted_encoded cs =
    ap (λ bs. bs ++ encode_utf8_all (flat_map string_code_point cs ++ quotation_mark ∷ [])) mark
    ∙ ap (λ bs. quotation_mark ∷ bs) (encodes-append (flat_map string_code_point cs) (quotation_mark ∷ [])
    ∙ ap (λ bs. encode_utf8_all (flat_map string_code_point cs) ++ bs) (append-nil (encode_utf8 quotation_mark) ∙ mark)
    ∙ ap (λ bs. bs ++ quotation_mark ∷ []) (all cs))

pub quoted_bytes : (ts : List Token) → string_text ts ≡ quoted (bytes ts)
quoted_bytes ts = ap encode_utf8_all (append-nil (quoted (written ts))) ∙ quoted_encoded (written ts)
