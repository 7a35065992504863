-- A written escape is read again, in a name, in a string and in a url.
use Rattle.std.proofs.Common.{◌≡◌, ℕ, ◌+◌, ◌*◌, ◌/◌, ◌%◌, ◌<◌, List, [], ◌∷◌, ◌++◌, length, refl, ◌∙◌, ap, arith}
use Rattle.std.specs.Prelude.{true, false, not, ◌==◌, nat_lt}
use Rattle.std.specs.Char.{is_ascii_hexdigit, digit_char, digit_value}
use Rattle.std.proofs.lemmas.Bool.Decides.{nat_tests}
use Rattle.std.proofs.lemmas.Str.{digit_value-digit_char}
use Rattle.cv_spec_text.specs.Characters.{space, reverse_solidus, line_feed, quotation_mark}
use Rattle.cv_spec_text.specs.Names.{begins_escape, code_point_of, escape_length, escape_value, name_piece_length, name_piece_value}
use Rattle.cv_spec_text.specs.Strings.{string_piece_length, string_piece_value}
use Rattle.cv_spec_text.specs.Urls.{url_piece_length}
use Rattle.cv_spec_text.specs.Printing.{hex_escape}
use Rattle.cv_spec_text.proofs.Rows.{if_case}
use Rattle.cv_text_laws.proofs.Tests.{both, not_true}
use Rattle.cv_text_laws.proofs.Names.{name_piece-escape}
use Rattle.cv_text_laws.proofs.Strings.{string_piece-escape}
use Rattle.cv_text_laws.proofs.Urls.{url_piece-escape}
use Rattle.cv_tokser.proofs.Pieces.{IsPieceOf}

-- a written escape: it is one in front of anything, and stands for the code point
pub record IsEscapeOf (c : ℕ) (piece : List ℕ) : Type 0 where
  pub some : 1 < length piece
  pub begins : (rest : List ℕ) → begins_escape (piece ++ rest) ≡ true
  pub size : (rest : List ℕ) → escape_length (piece ++ rest) ≡ length piece
  pub value : (rest : List ℕ) → escape_value (piece ++ rest) ≡ c

-- hex digits, as they are written
module _ (d : ℕ) (small : d < 16) where
  digit_char-hex : is_ascii_hexdigit (digit_char d) ≡ true
  digit_char-hex = grind (arith, nat_tests)

  pub digit_char-not_line_feed : (digit_char d == line_feed) ≡ false
  digit_char-not_line_feed = grind (arith, nat_tests)

-- an escape with one hex digit
one_digit_size : (d : ℕ) (rest : List ℕ) → is_ascii_hexdigit d ≡ true → escape_length (reverse_solidus ∷ d ∷ space ∷ rest) ≡ 3
unfolding escape_length
one_digit_size d rest hex = rw hex refl

one_digit_value : (d : ℕ) (rest : List ℕ) → is_ascii_hexdigit d ≡ true
    → escape_value (reverse_solidus ∷ d ∷ space ∷ rest) ≡ code_point_of (0 * 16 + digit_value d)
unfolding escape_value
one_digit_value d rest hex = rw hex refl

-- an escape with two hex digits
two_digit_size : (d e : ℕ) (rest : List ℕ) → is_ascii_hexdigit d ≡ true → is_ascii_hexdigit e ≡ true
    → escape_length (reverse_solidus ∷ d ∷ e ∷ space ∷ rest) ≡ 4
unfolding escape_length
two_digit_size d e rest hex hex' = rw (hex, hex') refl

two_digit_value : (d e : ℕ) (rest : List ℕ) → is_ascii_hexdigit d ≡ true → is_ascii_hexdigit e ≡ true
    → escape_value (reverse_solidus ∷ d ∷ e ∷ space ∷ rest) ≡ code_point_of ((0 * 16 + digit_value d) * 16 + digit_value e)
unfolding escape_value
two_digit_value d e rest hex hex' = rw (hex, hex') refl

code_point_of-ascii : (n : ℕ) → 0 < n → n < 128 → code_point_of n ≡ n
code_point_of-ascii n some small = grind (arith, nat_tests)

-- no LF follows, so an escape begins
escape_begins : (d : ℕ) (rest : List ℕ) → (d == line_feed) ≡ false → begins_escape (reverse_solidus ∷ d ∷ rest) ≡ true
escape_begins d rest other = rw other refl

-- the hex escape of an ASCII code point stands for it
pub hex_escape_is : (c : ℕ) → 0 < c → c < 128 → IsEscapeOf c (hex_escape c)
unfolding hex_escape
hex_escape_is c some small =
    if_case (λ (piece : List ℕ). IsEscapeOf c piece) (nat_lt c 16)
    (λ below.
    let one : c < 16 = grind (arith, nat_tests) in
    let value : 0 * 16 + digit_value (digit_char c) ≡ c = omega (arith, digit_value-digit_char c (omega arith)) in
    record {
      some = omega arith;
      begins = λ rest. escape_begins (digit_char c) (space ∷ rest) (digit_char-not_line_feed c one);
      size = λ rest. one_digit_size (digit_char c) rest (digit_char-hex c one);
      value = λ rest. one_digit_value (digit_char c) rest (digit_char-hex c one) ∙ rw value (code_point_of-ascii c some small);
    })
    (λ _.
    let high : c / 16 < 16 = omega arith in
    let low : c % 16 < 16 = omega arith in
    let value : (0 * 16 + digit_value (digit_char (c / 16))) * 16 + digit_value (digit_char (c % 16)) ≡ c =
    omega (arith, digit_value-digit_char (c / 16) (omega arith), digit_value-digit_char (c % 16) (omega arith)) in
    record {
      some = omega arith;
      begins = λ rest. escape_begins (digit_char (c / 16)) (digit_char (c % 16) ∷ space ∷ rest) (digit_char-not_line_feed (c / 16) high);
      size = λ rest. two_digit_size (digit_char (c / 16)) (digit_char (c % 16)) rest (digit_char-hex (c / 16) high) (digit_char-hex (c % 16) low);
      value = λ rest. two_digit_value (digit_char (c / 16)) (digit_char (c % 16)) rest (digit_char-hex (c / 16) high) (digit_char-hex (c % 16) low)
          ∙ rw value (code_point_of-ascii c some small);
    })

-- `\` and a code point that is no hex digit and no LF
pub plain_escape_is : (c : ℕ) → is_ascii_hexdigit c ≡ false → (c == line_feed) ≡ false → IsEscapeOf c (reverse_solidus ∷ c ∷ [])
unfolding escape_length escape_value
plain_escape_is c plain other = record {
  some = omega arith;
  begins = λ rest. escape_begins c rest other;
  size = λ rest. rw plain refl;
  value = λ rest. rw plain refl;
}

-- what an escape gives as a piece of a name or of a url, and as one of a string
name_value-escape : (text : List ℕ) → begins_escape text ≡ true → name_piece_value text ≡ escape_value text ∷ []
unfolding name_piece_value
name_value-escape text begins = rw begins refl

string_value-escape : (c d : ℕ) (cs : List ℕ) → begins_escape (c ∷ d ∷ cs) ≡ true → string_piece_value (c ∷ d ∷ cs) ≡ escape_value (c ∷ d ∷ cs) ∷ []
unfolding string_piece_value
string_value-escape c d cs begins =
    let parts = both (c == reverse_solidus) (not (d == line_feed)) begins in
    rw (parts.0, not_true (d == line_feed) parts.1) refl

pub name_escape : (c : ℕ) (piece : List ℕ) → IsEscapeOf c piece → IsPieceOf name_piece_length name_piece_value c piece
name_escape c piece is = record {
  some = omega (arith, is.some);
  size = λ rest. name_piece-escape (piece ++ rest) (is.begins rest) ∙ is.size rest;
  value = λ rest. name_value-escape (piece ++ rest) (is.begins rest) ∙ ap (λ (v : ℕ). v ∷ []) (is.value rest);
}

pub url_escape : (c : ℕ) (piece : List ℕ) → IsEscapeOf c piece → IsPieceOf url_piece_length name_piece_value c piece
url_escape c piece is = record {
  some = omega (arith, is.some);
  size = λ rest. url_piece-escape (piece ++ rest) (is.begins rest) ∙ is.size rest;
  value = λ rest. name_value-escape (piece ++ rest) (is.begins rest) ∙ ap (λ (v : ℕ). v ∷ []) (is.value rest);
}

pub string_escape : (c : ℕ) (piece : List ℕ) → IsEscapeOf c piece → IsPieceOf (string_piece_length quotation_mark) string_piece_value c piece
string_escape c [] is = absurd (omega (arith, is.some))
string_escape c (d ∷ []) is = absurd (omega (arith, is.some))
string_escape c (d ∷ e ∷ piece) is = record {
  some = omega arith;
  size = λ rest. string_piece-escape quotation_mark refl (d ∷ e ∷ (piece ++ rest)) (is.begins rest) ∙ is.size rest;
  value = λ rest. string_value-escape d e (piece ++ rest) (is.begins rest) ∙ ap (λ (v : ℕ). v ∷ []) (is.value rest);
}
