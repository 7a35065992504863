-- A string ends at its first end.
use Rattle.std.proofs.Common.{◌≡◌, ℕ, inl, inr, ◌+◌, ◌<◌, List, [], ◌∷◌, ◌++◌, length, take, drop, refl, ◌∙◌, ap, arith}
use Rattle.std.specs.Prelude.{true, false, not, ◌==◌, ◌||◌, ◌⊎◌}
use Rattle.std.proofs.lemmas.Bool.{eqb-true}
use Rattle.std.proofs.lemmas.Bool.Decides.{nat_tests}
use Rattle.cv_spec_text.specs.Characters.{line_feed, reverse_solidus, is_quote, begins_with}
use Rattle.cv_spec_text.specs.Names.{begins_escape, escape_length}
use Rattle.cv_spec_text.specs.Strings.{string_piece_length, string_length}
use Rattle.cv_spec_text.specs.Tokens.{Row, string_row}
use Rattle.cv_spec_text.proofs.Rows.{if_case, escape_length-positive}
use Rattle.cv_text_laws.specs.FirstEnds.{IsStringPart, ends_string, StringsEndFirst, StringsTakeQuotes}
use Rattle.cv_text_laws.proofs.Tests.{if_false, if_true, bool_cases, both, not_true}
use Rattle.cv_text_laws.proofs.Escapes.{longest_escape, escape-within, tells_escape}
use Rattle.cv_text_laws.proofs.Sequences.{ReadsPieces, first_run}

-- where a string ends, no piece of it stands
string_piece-end : (quote : ℕ) (text : List ℕ) → ends_string quote text ≡ true → string_piece_length quote text ≡ 0
unfolding string_piece_length
string_piece-end quote [] ends = refl
string_piece-end quote (c ∷ cs) ends = if_true (c == quote || c == line_feed) _ _ ends

module _ (quote : ℕ) (is : is_quote quote ≡ true) where
  -- `\` is no end of a string
  backslash-goes_on : (c : ℕ) → (c == reverse_solidus) ≡ true → (c == quote || c == line_feed) ≡ false
  backslash-goes_on c first = grind (arith, nat_tests)

  string_piece-plain : (c : ℕ) (cs : List ℕ) → (c == quote || c == line_feed) ≡ false → (c == reverse_solidus) ≡ false → string_piece_length quote (c ∷ cs) ≡ 1
  unfolding string_piece_length
  string_piece-plain c cs goes_on other = if_false (c == quote || c == line_feed) _ _ goes_on ∙ if_false (c == reverse_solidus) _ _ other

  string_piece-line_feed : (cs : List ℕ) → begins_with line_feed cs ≡ true → string_piece_length quote (reverse_solidus ∷ cs) ≡ 2
  unfolding string_piece_length
  string_piece-line_feed cs line = if_false (reverse_solidus == quote || reverse_solidus == line_feed) _ _ (backslash-goes_on reverse_solidus refl) ∙ if_true (begins_with line_feed cs) _ _ line

  -- an escape is a piece of a string as long as it is
  pub string_piece-escape : (text : List ℕ) → begins_escape text ≡ true → string_piece_length quote text ≡ escape_length text
  unfolding string_piece_length
  string_piece-escape [] begins = cc
  string_piece-escape (c ∷ cs) begins =
      let parts = both (c == reverse_solidus) (not (begins_with line_feed cs)) begins in
      if_false (c == quote || c == line_feed) _ _ (backslash-goes_on c parts.0)
      ∙ if_true (c == reverse_solidus) _ _ parts.0
      ∙ if_false (begins_with line_feed cs) _ _ (not_true (begins_with line_feed cs) parts.1)

  -- what stands in front of a text, where a piece of a string is asked for
  record Plain (text : List ℕ) : Type 0 where
    first : ℕ
    behind : List ℕ
    whole : text ≡ first ∷ behind
    other : (first == reverse_solidus) ≡ false
    size : string_piece_length quote text ≡ 1

  record Continued (text : List ℕ) : Type 0 where
    behind : List ℕ
    whole : text ≡ reverse_solidus ∷ line_feed ∷ behind
    size : string_piece_length quote text ≡ 2

  with_line_feed : (cs : List ℕ) → begins_with line_feed cs ≡ true → (behind : List ℕ) × (cs ≡ line_feed ∷ behind)
  with_line_feed [] line = cc
  with_line_feed (c ∷ cs) line = (cs, ap (λ (x : ℕ). x ∷ cs) (eqb-true c line_feed line))

  string_piece_cases : {A : Type 0} (text : List ℕ) → (ends_string quote text ≡ true → A) → (Plain text → A) → (Continued text → A) → (begins_escape text ≡ true → A) → A
  string_piece_cases [] ends plain continued escape = ends refl
  string_piece_cases (c ∷ cs) ends plain continued escape =
      bool_cases (c == quote || c == line_feed) ends
      (λ goes_on. bool_cases (c == reverse_solidus)
      (λ first. bool_cases (begins_with line_feed cs)
      (λ line.
      let same : c ≡ reverse_solidus = eqb-true c reverse_solidus first in
      let (behind, is') = with_line_feed cs line in
      continued (record {
        behind = behind;
        whole = ap (λ (x : ℕ). x ∷ cs) same ∙ ap (λ (l : List ℕ). reverse_solidus ∷ l) is';
        size = ap (λ (x : ℕ). string_piece_length quote (x ∷ cs)) same ∙ string_piece-line_feed cs line;
      }))
      (λ other. escape (rw (first, other) refl)))
      (λ other. plain (record { first = c; behind = cs; whole = refl; other = other; size = string_piece-plain c cs goes_on other })))

  reads_strings : ReadsPieces (string_piece_length quote) IsStringPart
  reads_strings = record {
    fits = λ text. string_piece_cases text
        (λ ends. omega (arith, string_piece-end quote text ends))
        (λ plain. omega (arith, plain.size, ap length plain.whole))
        (λ continued. omega (arith, continued.size, ap length continued.whole))
        (λ escape. omega (arith, string_piece-escape text escape, escape-within text escape));
    reads = λ text some. string_piece_cases text
        (λ ends. absurd (omega (arith, string_piece-end quote text ends, some)))
        (λ plain. rw plain.size (inl (plain.first, ap (take 1) plain.whole, plain.other)))
        (λ continued. rw continued.size (inr (inl (ap (take 2) continued.whole))))
        (λ escape. rw (string_piece-escape text escape) (inr (inr (longest_escape text escape))));
  }

  tells_strings : (piece rest : List ℕ) → IsStringPart piece rest
      → (0 < length piece) × ((string_piece_length quote (piece ++ rest) ≡ 0) ⊎ (string_piece_length quote (piece ++ rest) ≡ length piece))
  tells_strings piece rest (inl (c, part, other)) =
      rw part (
        omega arith,
        bool_cases (c == quote || c == line_feed)
            (λ ends. inl (string_piece-end quote (c ∷ rest) ends)) (λ goes_on. inr (string_piece-plain c rest goes_on other)),
      )
  tells_strings piece rest (inr (inl part)) = rw part (omega arith, inr (string_piece-line_feed (line_feed ∷ rest) refl))
  tells_strings piece rest (inr (inr longest)) =
      let told = tells_escape piece rest longest in (told.some, inr (string_piece-escape (piece ++ rest) told.begins ∙ told.size))

  stops_strings : (text : List ℕ) → string_piece_length quote text ≡ 0 → ends_string quote text ≡ true
  stops_strings text none = string_piece_cases text (λ ends. ends)
      (λ plain. absurd (omega (arith, plain.size, none)))
      (λ continued. absurd (omega (arith, continued.size, none)))
      (λ escape. absurd (omega (arith, string_piece-escape text escape, none, escape_length-positive text)))

pub strings_end_first : StringsEndFirst
strings_end_first quote text is =
    first_run (string_piece_length quote) IsStringPart (ends_string quote) (reads_strings quote is) (tells_strings quote is) (stops_strings quote is) (string_piece-end quote) text

pub strings_take_quotes : StringsTakeQuotes
unfolding string_row
strings_take_quotes quote text =
    let size = string_length quote text in
    let after = drop size text in
    bool_cases (begins_with quote after)
    (λ closed. rw closed (omega arith))
    (λ other. rw other (if_case (λ (row : Row). row.0 ≡ 1 + size + 0) (begins_with line_feed after) (λ _. omega arith) (λ _. omega arith)))
