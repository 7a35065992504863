-- An escape that is read is the longest escape that stands there.
use Rattle.std.proofs.Common.{◌≡◌, ℕ, inl, inr, suc, ◌+◌, ◌<◌, ◌≤◌, List, [], ◌∷◌, ◌++◌, length, take, drop, refl, ◌∙◌, ap, subst, arith, append_assoc, append-nil, length-append, length-drop, length-take-le, take-append-drop}
use Rattle.std.specs.Prelude.{true, false, not, ◌==◌, All}
use Rattle.std.specs.List.{prefix_len}
use Rattle.std.specs.Char.{is_ascii_hexdigit}
use Rattle.std.proofs.Math.Seq.{drop-append_seam, take-add}
use Rattle.std.proofs.lemmas.List.Sums.{prefix_len-le-length}
use Rattle.std.proofs.lemmas.Bool.{eqb-true}
use Rattle.std.proofs.lemmas.Bool.Decides.{nat_tests}
use Rattle.cv_spec_text.specs.Characters.{line_feed, reverse_solidus, is_whitespace, begins_by, begins_with}
use Rattle.cv_spec_text.specs.Names.{begins_escape, hex_length, escape_length}
use Rattle.cv_spec_text.proofs.Rows.{if_case, escape_length-positive}
use Rattle.cv_text_laws.specs.Fronts.{IsLongest}
use Rattle.cv_text_laws.specs.EscapeSpellings.{IsPlainEscape, IsOptionalWhitespace, IsHexEscape, IsEscape, EscapesAreLongest, NoEscapeIsMissed}
use Rattle.cv_text_laws.proofs.Tests.{bool_cases, both, contrary}
use Rattle.cv_text_laws.proofs.Digits.{prefix_len-all, prefix_len-none, prefix_len-some, take-run, begins-all}

-- An escape in front: an escape begins there, and is read as far as it goes, or farther.
pub record ReadsEscape (front rest : List ℕ) : Type 0 where
  pub begins : begins_escape (front ++ rest) ≡ true
  pub least : length front ≤ escape_length (front ++ rest)
  pub some : 0 < length front

plain_length : (c : ℕ) (rest : List ℕ) → is_ascii_hexdigit c ≡ false → escape_length (reverse_solidus ∷ c ∷ rest) ≡ 2
unfolding escape_length
plain_length c rest plain = rw plain refl

plain_in_front : (front rest : List ℕ) → IsPlainEscape front → ReadsEscape front rest
plain_in_front front rest is =
    rw is.parts (record {
      begins = rw is.no_line_feed refl;
      least = omega (arith, plain_length is.code_point rest is.no_hex);
      some = omega arith;
    })

-- an escape by its hex digits
pub hex_length-least : (text : List ℕ) (hex : ℕ) → hex_length (drop 1 text) ≡ hex → 0 < hex → 1 + hex ≤ escape_length text
unfolding escape_length
hex_length-least text hex size some =
    let other : (hex == 0) ≡ false = grind (arith, nat_tests) in
    rw (size, other) (if_case (λ (n : ℕ). 1 + hex ≤ n) (begins_by is_whitespace (drop hex (drop 1 text))) (λ _. omega arith) (λ _. omega arith))

hex_length-spaced : (text : List ℕ) (hex : ℕ) → hex_length (drop 1 text) ≡ hex → 0 < hex → begins_by is_whitespace (drop hex (drop 1 text)) ≡ true → escape_length text ≡ 2 + hex
unfolding escape_length
hex_length-spaced text hex size some space =
    let other : (hex == 0) ≡ false = grind (arith, nat_tests) in
    rw (size, other, space) refl

hex_length-bare : (text : List ℕ) (hex : ℕ) → hex_length (drop 1 text) ≡ hex → 0 < hex → begins_by is_whitespace (drop hex (drop 1 text)) ≡ false → escape_length text ≡ 1 + hex
unfolding escape_length
hex_length-bare text hex size some space =
    let other : (hex == 0) ≡ false = grind (arith, nat_tests) in
    rw (size, other, space) refl

-- whitespace is no hex digit, and a hex digit is no LF
pub no_hex_space : (c : ℕ) (rest : List ℕ) → is_whitespace c ≡ true → begins_by is_ascii_hexdigit (c ∷ rest) ≡ false
no_hex_space c rest space = grind (arith, nat_tests)

no_line_feed : (digits rest : List ℕ) → 0 < length digits → All (λ c. is_ascii_hexdigit c ≡ true) digits → begins_with line_feed (digits ++ rest) ≡ false
no_line_feed [] rest some hex = absurd (omega arith)
no_line_feed (c ∷ cs) rest some hex = let digit : is_ascii_hexdigit c ≡ true = begins-all is_ascii_hexdigit (c ∷ cs) [] some hex in grind (arith, nat_tests)

begins_by_digits : (rest : List ℕ) → begins_with line_feed rest ≡ false → begins_escape (reverse_solidus ∷ rest) ≡ true
begins_by_digits rest other = rw other refl

digits_least : (digits space rest : List ℕ) → 0 < length digits → length digits ≤ 6 → All (λ c. is_ascii_hexdigit c ≡ true) digits → IsOptionalWhitespace space
    → 1 + length digits + length space ≤ escape_length (reverse_solidus ∷ (digits ++ (space ++ rest)))
digits_least digits space rest some most hex (inl none) =
    let all = prefix_len-all is_ascii_hexdigit digits rest hex in
    let size : length digits ≤ hex_length (digits ++ rest) = omega (arith, all) in
    rw none (omega (arith, size, hex_length-least (reverse_solidus ∷ (digits ++ rest)) _ refl (omega (arith, size))))
digits_least digits space rest some most hex (inr (c, is, spaced)) =
    let all = prefix_len-all is_ascii_hexdigit digits (c ∷ rest) hex in
    let size : hex_length (digits ++ c ∷ rest) ≡ length digits = omega (arith, all, prefix_len-none is_ascii_hexdigit (c ∷ rest) (no_hex_space c rest spaced)) in
    let after : begins_by is_whitespace (drop (length digits) (digits ++ c ∷ rest)) ≡ true = ap (begins_by is_whitespace) (drop-append_seam digits (c ∷ rest)) ∙ spaced in
    rw is (omega (arith, hex_length-spaced (reverse_solidus ∷ (digits ++ c ∷ rest)) (length digits) size some after))

hex_in_front : (front rest : List ℕ) → IsHexEscape front → ReadsEscape front rest
hex_in_front front rest is =
    let regrouped : front ++ rest ≡ reverse_solidus ∷ (is.digits ++ (is.space ++ rest)) =
    ap (λ (l : List ℕ). l ++ rest) is.parts ∙ ap (λ (l : List ℕ). reverse_solidus ∷ l) (append_assoc is.digits is.space rest) in
    let size : length front ≡ 1 + length is.digits + length is.space = ap length is.parts ∙ omega (arith, length-append is.digits is.space) in
    record {
      begins = rw regrouped (begins_by_digits (is.digits ++ (is.space ++ rest)) (no_line_feed is.digits (is.space ++ rest) is.some is.hex));
      least = rw regrouped (omega (arith, size, digits_least is.digits is.space rest is.some is.most is.hex is.spaced));
      some = omega (arith, size);
    }

last_in_front : (front rest : List ℕ) → front ≡ reverse_solidus ∷ [] → rest ≡ [] → ReadsEscape front rest
last_in_front front rest is none = rw (is, none) (record { begins = refl; least = escape_length-positive (reverse_solidus ∷ []); some = omega arith })

pub escape_in_front : (front rest : List ℕ) → IsEscape front rest → ReadsEscape front rest
escape_in_front front rest (inl plain) = plain_in_front front rest plain
escape_in_front front rest (inr (inl hex)) = hex_in_front front rest hex
escape_in_front front rest (inr (inr (is, none))) = last_in_front front rest is none

-- an escape that is read
record Escape (text : List ℕ) : Type 0 where
  within : escape_length text ≤ length text
  is : IsEscape (take (escape_length text) text) (drop (escape_length text) text)

end_length : escape_length (reverse_solidus ∷ []) ≡ 1
unfolding escape_length
end_length = refl

escape_at_end : Escape (reverse_solidus ∷ [])
escape_at_end = record { within = omega (arith, end_length); is = rw end_length (inr (inr (refl, refl))) }

plain_read : (d : ℕ) (ds : List ℕ) → (d == line_feed) ≡ false → is_ascii_hexdigit d ≡ false → Escape (reverse_solidus ∷ d ∷ ds)
plain_read d ds other plain =
    let size = plain_length d ds plain in
    record {
      within = omega (arith, size);
      is = rw size (inl (record { code_point = d; parts = refl; no_hex = plain; no_line_feed = other }));
    }

-- some hex digits, and one whitespace if there is one
digits_read : (hex : ℕ) (text space : List ℕ) → 0 < hex → hex ≤ 6 → hex ≤ prefix_len is_ascii_hexdigit text → hex ≤ length text → IsOptionalWhitespace space
    → IsHexEscape (reverse_solidus ∷ (take hex text ++ space))
digits_read hex text space some most run within spaced = record {
  digits = take hex text;
  space = space;
  parts = refl;
  some = omega (arith, length-take-le hex text within);
  most = omega (arith, length-take-le hex text within);
  hex = take-run is_ascii_hexdigit hex text run;
  spaced = spaced;
}

one_space : (text : List ℕ) → begins_by is_whitespace text ≡ true → IsOptionalWhitespace (take 1 text) × (1 ≤ length text)
one_space [] space = cc
one_space (c ∷ cs) space = (inr (c, refl, space), omega arith)

spaced_length : (hex : ℕ) → 2 + hex ≡ suc (hex + 1)
spaced_length hex = omega arith

bare_length : (hex : ℕ) → 1 + hex ≡ suc hex
bare_length hex = omega arith

hex_read : (text : List ℕ) → begins_by is_ascii_hexdigit text ≡ true → Escape (reverse_solidus ∷ text)
hex_read text digit =
    let whole = reverse_solidus ∷ text in
    let hex = hex_length text in
    let run = prefix_len-some is_ascii_hexdigit text digit in
    let some : 0 < hex = omega (arith, run) in
    let within : hex ≤ length text = omega (arith, prefix_len-le-length is_ascii_hexdigit text) in
    bool_cases (begins_by is_whitespace (drop hex text))
    (λ space.
    let size : escape_length whole ≡ suc (hex + 1) = hex_length-spaced whole hex refl some space ∙ spaced_length hex in
    let one = one_space (drop hex text) space in
    record {
      within = omega (arith, size, one.1, length-drop hex text);
      is = rw size (rw (take-add hex 1 text) (inr (inl (digits_read hex text (take 1 (drop hex text)) some (omega arith) (omega arith) within one.0))));
    })
    (λ bare.
    let size : escape_length whole ≡ suc hex = hex_length-bare whole hex refl some bare ∙ bare_length hex in
    record {
      within = omega (arith, size);
      is = rw size (inr (inl (subst IsHexEscape (ap (λ (l : List ℕ). reverse_solidus ∷ l) (append-nil (take hex text)))
          (digits_read hex text [] some (omega arith) (omega arith) within (inl refl)))));
    })

escape_read : (text : List ℕ) → begins_escape text ≡ true → Escape text
escape_read [] begins = cc
escape_read (c ∷ []) begins =
    let first : c ≡ reverse_solidus = eqb-true c reverse_solidus (both _ _ begins).0 in
    rw first escape_at_end
escape_read (c ∷ d ∷ ds) begins =
    let parts = both (c == reverse_solidus) (not (d == line_feed)) begins in
    let first : c ≡ reverse_solidus = eqb-true c reverse_solidus parts.0 in
    let second : (d == line_feed) ≡ false = grind (arith, nat_tests, parts.1) in
    rw first (bool_cases (is_ascii_hexdigit d) (λ digit. hex_read (d ∷ ds) digit) (λ plain. plain_read d ds second plain))

-- The longest escape.
pub longest_escape : EscapesAreLongest
longest_escape text begins =
    let read = escape_read text begins in
    record {
      is = read.is;
      longest = λ other rest same is.
          let whole : other ++ rest ≡ text = same ∙ take-append-drop (escape_length text) text in
          omega (arith, (escape_in_front other rest is).least, ap escape_length whole, length-take-le (escape_length text) text read.within);
    }

pub escape-within : (text : List ℕ) → begins_escape text ≡ true → escape_length text ≤ length text
escape-within text begins = (escape_read text begins).within

-- A longest escape is as long as it is read.
pub record TellsEscape (piece rest : List ℕ) : Type 0 where
  pub begins : begins_escape (piece ++ rest) ≡ true
  pub size : escape_length (piece ++ rest) ≡ length piece
  pub some : 0 < length piece

pub tells_escape : (piece rest : List ℕ) → IsLongest IsEscape piece rest → TellsEscape piece rest
tells_escape piece rest longest =
    let text = piece ++ rest in
    let here = escape_in_front piece rest longest.is in
    let read = escape_read text here.begins in
    let no_longer = longest.longest (take (escape_length text) text) (drop (escape_length text) text) (take-append-drop (escape_length text) text) read.is in
    record { begins = here.begins; size = omega (arith, here.least, no_longer, length-take-le (escape_length text) text read.within); some = here.some }

pub no_escape_is_missed : NoEscapeIsMissed
no_escape_is_missed front rest fails is = contrary (begins_escape (front ++ rest)) (escape_in_front front rest is).begins fails
