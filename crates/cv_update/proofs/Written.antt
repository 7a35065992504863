-- A name as the report writes it is text.
use Rattle.std.proofs.Common.{◌≡◌, ℕ, ◌/◌, ◌%◌, ◌<◌, List, [], ◌∷◌, ◌++◌, refl, ap, ◌∙◌, arith}
use Rattle.std.specs.Prelude.{Bool, true, false, ◌&&◌, ◌==◌, nat_lt, if◌then◌else◌, IfOk, IsUtf8, Result, Ok, Err, chars, encode_utf8_all}
use Rattle.std.specs.Char.{is_ascii_digit, digit_char}
use Rattle.std.proofs.Math.Utf8.{scalar, scalars}
use Rattle.std.proofs.lemmas.Bool.Decides.{nat_tests}
use Rattle.std.proofs.lemmas.Str.{encodes-chars}
use Rattle.cv_spec_text.specs.Characters.{hyphen, is_ident_code_point}
use Rattle.cv_spec_text.specs.Printing.{is_control, hex_escape, name_code_point, name_rest, with_no_digit_first, identifier}

abbrev AreScalars : List ℕ → Type 0
AreScalars text = scalars text ≡ true

both : (a b : Bool) → (a && b) ≡ true → (a ≡ true) × (b ≡ true)
both true true is = (refl, refl)
both true false is = cc
both false b is = cc

one_by : {A : Type 0} (P : A → Type 0) (b : Bool) {x y : A} → (b ≡ true → P x) → (b ≡ false → P y) → P (if b then x else y)
one_by P true this that = this refl
one_by P false this that = that refl

append_scalars : (xs ys : List ℕ) → AreScalars xs → AreScalars ys → AreScalars (xs ++ ys)
append_scalars [] ys one other = other
append_scalars (x ∷ xs) ys one other = let parts = both (scalar x) (scalars xs) one in rw (parts.0, append_scalars xs ys parts.1 other) refl

digit_scalar : (d : ℕ) → d < 16 → scalar (digit_char d) ≡ true
digit_scalar d small = grind (arith, nat_tests)

hex_scalars : (c : ℕ) → c < 128 → AreScalars (hex_escape c)
unfolding hex_escape
hex_scalars c small =
    one_by (λ text. scalars text ≡ true) (nat_lt c 16)
    (λ below. rw (digit_scalar c (grind (arith, nat_tests))) refl)
    (λ _. rw (digit_scalar (c / 16) (omega arith), digit_scalar (c % 16) (omega arith)) refl)

name_code_point_scalars : (c : ℕ) → scalar c ≡ true → AreScalars (name_code_point c)
unfolding name_code_point
name_code_point_scalars c is =
    one_by (λ text. scalars text ≡ true) (is_control c) (λ control. hex_scalars c (grind (arith, nat_tests)))
    (λ _. one_by (λ text. scalars text ≡ true) (is_ident_code_point c) (λ _. rw is refl) (λ _. rw is refl))

name_rest_scalars : (cs : List ℕ) → AreScalars cs → AreScalars (name_rest cs)
name_rest_scalars [] are = refl
name_rest_scalars (c ∷ cs) are =
    let parts = both (scalar c) (scalars cs) are in
    append_scalars (name_code_point c) (name_rest cs) (name_code_point_scalars c parts.0) (name_rest_scalars cs parts.1)

with_no_digit_first_scalars : (cs : List ℕ) → AreScalars cs → AreScalars (with_no_digit_first cs)
with_no_digit_first_scalars [] are = refl
with_no_digit_first_scalars (c ∷ cs) are =
    let parts = both (scalar c) (scalars cs) are in
    append_scalars (if is_ascii_digit c then hex_escape c else name_code_point c) (name_rest cs)
    (one_by AreScalars (is_ascii_digit c) (λ digit. hex_scalars c (grind (arith, nat_tests))) (λ _. name_code_point_scalars c parts.0))
    (name_rest_scalars cs parts.1)

identifier_scalars : (cs : List ℕ) → AreScalars cs → AreScalars (identifier cs)
unfolding identifier
identifier_scalars [] are = refl
identifier_scalars (c ∷ []) are = one_by (λ text. scalars text ≡ true) (c == hyphen) (λ _. refl) (λ _. with_no_digit_first_scalars (c ∷ []) are)
identifier_scalars (c ∷ d ∷ cs) are =
    one_by (λ text. scalars text ≡ true) (c == hyphen)
    (λ _. let parts = both (scalar c) (scalars (d ∷ cs)) are in with_no_digit_first_scalars (d ∷ cs) parts.1)
    (λ _. with_no_digit_first_scalars (c ∷ d ∷ cs) are)

pub identifier_text : (name : List ℕ) → scalars name ≡ true → IsUtf8 (encode_utf8_all (identifier name))
identifier_text name are = (identifier name, (identifier_scalars name are, refl))

-- a text of these bytes is spelled by them
pub spelled_of : {E : Type 0} (result : Result (List ℕ) E) (text bytes : List ℕ) → IsUtf8 bytes → text ≡ bytes → IfOk result (λ name. name ≡ chars text) → IfOk result (λ name. encode_utf8_all name ≡ bytes)
spelled_of (Ok name) text bytes is same named = ap encode_utf8_all (named ∙ ap chars same) ∙ encodes-chars bytes is
spelled_of (Err e) text bytes is same named = tt
