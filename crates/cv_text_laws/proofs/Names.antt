-- A name sequence and a run of whitespace that are read are the longest that stand there.
use Rattle.std.proofs.Common.{◌≡◌, ℕ, inl, inr, ◌<◌, ◌≤◌, List, [], ◌∷◌, ◌++◌, length, take, drop, refl, ◌∙◌, ap, arith, length-take-le, take-append-drop}
use Rattle.std.specs.Prelude.{Bool, true, false, ◌==◌}
use Rattle.std.specs.List.{prefix_len}
use Rattle.std.proofs.lemmas.List.Sums.{prefix_len-le-length}
use Rattle.std.proofs.lemmas.Bool.Decides.{nat_tests}
use Rattle.cv_spec_text.specs.Characters.{reverse_solidus, is_whitespace, is_ident_code_point, begins_by}
use Rattle.cv_spec_text.specs.Names.{begins_escape, escape_length, name_piece_length}
use Rattle.cv_text_laws.specs.NameSpellings.{IsNamePiece, NamesAreLongest, WhitespaceIsLongest}
use Rattle.cv_text_laws.proofs.Tests.{if_false, if_true, bool_cases, both}
use Rattle.cv_text_laws.proofs.Digits.{prefix_len-all, take-prefix_len}
use Rattle.cv_text_laws.proofs.Escapes.{longest_escape, escape-within, tells_escape}
use Rattle.cv_text_laws.proofs.Sequences.{ReadsPieces, longest_run}

-- an escape begins with no ident code point
pub escape-plain : (text : List ℕ) → begins_escape text ≡ true → begins_by is_ident_code_point text ≡ false
escape-plain [] begins = cc
escape-plain (c ∷ cs) begins = let first : (c == reverse_solidus) ≡ true = (both _ _ begins).0 in grind (arith, nat_tests)

-- an escape is a piece of a name as long as it is
pub name_piece-escape : (text : List ℕ) → begins_escape text ≡ true → name_piece_length text ≡ escape_length text
unfolding name_piece_length
name_piece-escape text begins =
    if_false (begins_by is_ident_code_point text) _ _ (escape-plain text begins) ∙ if_true (begins_escape text) _ _ begins

pub name_piece-ident : (text : List ℕ) → begins_by is_ident_code_point text ≡ true → name_piece_length text ≡ 1
unfolding name_piece_length
name_piece-ident text ident = if_true (begins_by is_ident_code_point text) _ _ ident

pub name_piece-none : (text : List ℕ) → begins_by is_ident_code_point text ≡ false → begins_escape text ≡ false → name_piece_length text ≡ 0
unfolding name_piece_length
name_piece-none text other plain = if_false (begins_by is_ident_code_point text) _ _ other ∙ if_false (begins_escape text) _ _ plain

-- what stands in front of a text, where a piece of a name is asked for
name_piece_cases : {A : Type 0} (text : List ℕ) → (begins_by is_ident_code_point text ≡ true → A) → (begins_escape text ≡ true → A)
    → (name_piece_length text ≡ 0 → A) → A
name_piece_cases text ident escape none =
    bool_cases (begins_by is_ident_code_point text) ident
    (λ other. bool_cases (begins_escape text) escape (λ plain. none (name_piece-none text other plain)))

begins-length : (p : ℕ → Bool) (text : List ℕ) → begins_by p text ≡ true → 1 ≤ length text
begins-length p [] begins = cc
begins-length p (c ∷ cs) begins = omega arith

one_code_point : (text rest : List ℕ) → begins_by is_ident_code_point text ≡ true → IsNamePiece (take 1 text) rest
one_code_point [] rest ident = cc
one_code_point (c ∷ cs) rest ident = inl (c, refl, ident)

reads_names : ReadsPieces name_piece_length IsNamePiece
reads_names = record {
  fits = λ text. name_piece_cases text
      (λ ident. omega (arith, name_piece-ident text ident, begins-length is_ident_code_point text ident))
      (λ escape. omega (arith, name_piece-escape text escape, escape-within text escape))
      (λ none. omega (arith, none));
  reads = λ text some. name_piece_cases text
      (λ ident. rw (name_piece-ident text ident) (one_code_point text (drop 1 text) ident))
      (λ escape. rw (name_piece-escape text escape) (inr (longest_escape text escape)))
      (λ none. absurd (omega (arith, none, some)));
}

tells_names : (piece rest : List ℕ) → IsNamePiece piece rest → (0 < length piece) × (name_piece_length (piece ++ rest) ≡ length piece)
tells_names piece rest (inl (c, is, ident)) = rw is (omega arith, name_piece-ident (c ∷ rest) ident)
tells_names piece rest (inr longest) = let told = tells_escape piece rest longest in (told.some, name_piece-escape (piece ++ rest) told.begins ∙ told.size)

pub names_are_longest : NamesAreLongest
names_are_longest text = longest_run name_piece_length IsNamePiece reads_names tells_names text

pub whitespace_is_longest : WhitespaceIsLongest
whitespace_is_longest text =
    let size = prefix_len is_whitespace text in
    record {
      is = take-prefix_len is_whitespace text;
      longest = λ other rest same all.
          let whole : other ++ rest ≡ text = same ∙ take-append-drop size text in
          omega (arith, prefix_len-all is_whitespace other rest all, ap (prefix_len is_whitespace) whole, length-take-le size text (prefix_len-le-length is_whitespace text));
    }
