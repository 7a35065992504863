-- The text of a string and that of a url are read again, code point by code point.
use Rattle.std.proofs.Common.{◌≡◌, ℕ, List, [], ◌∷◌, refl, arith}
use Rattle.std.specs.Prelude.{false, ◌==◌, ◌||◌}
use Rattle.std.specs.List.{flat_map}
use Rattle.std.proofs.lemmas.Bool.Decides.{nat_tests}
use Rattle.cv_spec_text.specs.Characters.{space, quotation_mark, left_parenthesis, right_parenthesis, line_feed, reverse_solidus, is_quote}
use Rattle.cv_spec_text.specs.Names.{name_piece_value}
use Rattle.cv_spec_text.specs.Strings.{string_piece_length, string_piece_value}
use Rattle.cv_spec_text.specs.Urls.{must_be_escaped_in_url, url_piece_length}
use Rattle.cv_spec_text.specs.Printing.{is_control, hex_escape, string_code_point, url_code_point}
use Rattle.cv_spec_text.proofs.Rows.{if_case}
use Rattle.cv_tokser.proofs.Pieces.{IsPieceOf, AreWritten, all_written}
use Rattle.cv_tokser.proofs.Escapes.{hex_escape_is, plain_escape_is, string_escape, url_escape}

abbrev IsStringPieceOf : ℕ → List ℕ → Type 0
IsStringPieceOf = IsPieceOf (string_piece_length quotation_mark) string_piece_value

abbrev IsUrlPieceOf : ℕ → List ℕ → Type 0
IsUrlPieceOf = IsPieceOf url_piece_length name_piece_value

plain_string_piece : (c : ℕ) → (c == quotation_mark || c == line_feed) ≡ false → (c == reverse_solidus) ≡ false → IsStringPieceOf c (c ∷ [])
unfolding string_piece_length string_piece_value
plain_string_piece c plain other = record {
  some = omega arith;
  size = λ rest. rw (plain, other) refl;
  value = λ rest. elim rest as (λ (l : List ℕ). string_piece_value (c ∷ l) ≡ c ∷ []) [ [] ↦ rw other refl | d ∷ ds ↦ rw other refl ];
}

string_code_point_piece : (c : ℕ) → IsStringPieceOf c (string_code_point c)
unfolding string_code_point
string_code_point_piece c =
    if_case (λ (piece : List ℕ). IsStringPieceOf c piece) (c == quotation_mark || c == reverse_solidus)
    (λ special. string_escape c (reverse_solidus ∷ c ∷ []) (plain_escape_is c (grind (arith, nat_tests)) (grind (arith, nat_tests))))
    (λ plain. if_case (λ (piece : List ℕ). IsStringPieceOf c piece) (is_control c)
    (λ control. string_escape c (hex_escape c) (hex_escape_is c (grind (arith, nat_tests)) (grind (arith, nat_tests))))
    (λ printable. plain_string_piece c (grind (arith, nat_tests)) (grind (arith, nat_tests))))

pub string_written : (cs : List ℕ) → AreWritten (string_piece_length quotation_mark) string_piece_value cs (flat_map string_code_point cs)
string_written cs = all_written (string_piece_length quotation_mark) string_piece_value string_code_point string_code_point_piece cs

plain_url_piece : (c : ℕ) → must_be_escaped_in_url c ≡ false → (c == reverse_solidus) ≡ false → IsUrlPieceOf c (c ∷ [])
unfolding url_piece_length name_piece_value
plain_url_piece c plain other = record {
  some = omega arith;
  size = λ rest. rw (plain, other) refl;
  value = λ rest. rw other refl;
}

url_code_point_piece : (c : ℕ) → IsUrlPieceOf c (url_code_point c)
unfolding url_code_point
url_code_point_piece c =
    if_case (λ (piece : List ℕ). IsUrlPieceOf c piece) (is_control c || is_quote c || c == left_parenthesis || c == right_parenthesis || c == reverse_solidus || c == space)
    (λ special. url_escape c (hex_escape c) (hex_escape_is c (grind (arith, nat_tests)) (grind (arith, nat_tests))))
    (λ plain. plain_url_piece c (grind (arith, nat_tests)) (grind (arith, nat_tests)))

pub url_written : (cs : List ℕ) → AreWritten url_piece_length name_piece_value cs (flat_map url_code_point cs)
url_written cs = all_written url_piece_length name_piece_value url_code_point url_code_point_piece cs
