-- A url, bad or not, ends at its first end.
use Rattle.std.proofs.Common.{◌≡◌, ℕ, inl, inr, zero, suc, ◌+◌, ◌<◌, ◌≤◌, List, [], ◌∷◌, ◌++◌, length, take, drop, refl, sym, ◌∙◌, ap, arith, length-drop}
use Rattle.std.specs.Prelude.{true, false, ◌==◌, ◌⊎◌}
use Rattle.std.proofs.lemmas.List.{drop-drop}
use Rattle.std.proofs.lemmas.Bool.Decides.{nat_tests}
use Rattle.cv_spec_text.specs.Characters.{right_parenthesis, reverse_solidus, is_whitespace}
use Rattle.cv_spec_text.specs.Names.{begins_escape, escape_length}
use Rattle.cv_spec_text.specs.Urls.{must_be_escaped_in_url, url_piece_length, bad_url_piece_length, whitespace_length, closing_length, is_closed, url_length, bad_url_length, bad_url_rest_length}
use Rattle.cv_spec_text.specs.Tokens.{Row, url_body_row}
use Rattle.cv_spec_text.proofs.Rows.{escape_length-positive}
use Rattle.cv_spec_text.proofs.Runs.{run_length-more, run_length-end}
use Rattle.cv_text_laws.specs.FirstEnds.{IsUrlPart, UrlsEndFirst, UrlsTakeClosing}
use Rattle.cv_text_laws.proofs.Tests.{if_false, if_true, bool_cases}
use Rattle.cv_text_laws.proofs.Digits.{one_more}
use Rattle.cv_text_laws.proofs.Escapes.{longest_escape, escape-within, tells_escape}
use Rattle.cv_text_laws.proofs.Sequences.{ReadsPieces, first_run}

-- an escape is a piece of a url, bad or not, as long as it is
pub url_piece-escape : (text : List ℕ) → begins_escape text ≡ true → url_piece_length text ≡ escape_length text
unfolding url_piece_length
url_piece-escape [] begins = cc
url_piece-escape (c ∷ cs) begins = if_true (begins_escape (c ∷ cs)) _ _ begins

bad_piece-escape : (text : List ℕ) → begins_escape text ≡ true → bad_url_piece_length text ≡ escape_length text
unfolding bad_url_piece_length
bad_piece-escape [] begins = cc
bad_piece-escape (c ∷ cs) begins = if_true (begins_escape (c ∷ cs)) _ _ begins

bad_piece-plain : (c : ℕ) (cs : List ℕ) → begins_escape (c ∷ cs) ≡ false → (c == right_parenthesis) ≡ false → bad_url_piece_length (c ∷ cs) ≡ 1
unfolding bad_url_piece_length
bad_piece-plain c cs plain other = if_false (begins_escape (c ∷ cs)) _ _ plain ∙ if_false (c == right_parenthesis) _ _ other

no_escape_closing : (c : ℕ) (cs : List ℕ) → (c == right_parenthesis) ≡ true → begins_escape (c ∷ cs) ≡ false
no_escape_closing c cs closes = let other : (c == reverse_solidus) ≡ false = grind (arith, nat_tests) in rw other refl

-- where a url ends, no piece of it stands
bad_piece-end : (text : List ℕ) → is_closed text ≡ true → bad_url_piece_length text ≡ 0
unfolding bad_url_piece_length
bad_piece-end [] closed = refl
bad_piece-end (c ∷ cs) closed = if_false (begins_escape (c ∷ cs)) _ _ (no_escape_closing c cs closed) ∙ if_true (c == right_parenthesis) _ _ closed

-- what stands in front of a text, where a piece of a url is asked for
record Plain (text : List ℕ) : Type 0 where
  first : ℕ
  behind : List ℕ
  whole : text ≡ first ∷ behind
  plain : begins_escape text ≡ false
  size : bad_url_piece_length text ≡ 1

piece_cases : {A : Type 0} (text : List ℕ) → (is_closed text ≡ true → A) → (Plain text → A) → (begins_escape text ≡ true → A) → A
piece_cases [] closed one escape = closed refl
piece_cases (c ∷ cs) closed one escape =
    bool_cases (c == right_parenthesis) closed
    (λ other. bool_cases (begins_escape (c ∷ cs)) escape
    (λ plain. one (record { first = c; behind = cs; whole = refl; plain = plain; size = bad_piece-plain c cs plain other })))

one_part : (text : List ℕ) → Plain text → IsUrlPart (take 1 text) (drop 1 text)
one_part text is =
    inl (is.first, ap (take 1) is.whole, ap begins_escape (ap (λ (l : List ℕ). is.first ∷ l) (ap (drop 1) is.whole) ∙ sym is.whole) ∙ is.plain)

reads_urls : ReadsPieces bad_url_piece_length IsUrlPart
reads_urls = record {
  fits = λ text. piece_cases text
      (λ closed. omega (arith, bad_piece-end text closed))
      (λ one. omega (arith, one.size, ap length one.whole))
      (λ escape. omega (arith, bad_piece-escape text escape, escape-within text escape));
  reads = λ text some. piece_cases text
      (λ closed. absurd (omega (arith, bad_piece-end text closed, some)))
      (λ one. rw one.size (one_part text one))
      (λ escape. rw (bad_piece-escape text escape) (inr (longest_escape text escape)));
}

tells_urls : (piece rest : List ℕ) → IsUrlPart piece rest
    → (0 < length piece) × ((bad_url_piece_length (piece ++ rest) ≡ 0) ⊎ (bad_url_piece_length (piece ++ rest) ≡ length piece))
tells_urls piece rest (inl (c, part, plain)) =
    rw part (omega arith, bool_cases (c == right_parenthesis) (λ closes. inl (bad_piece-end (c ∷ rest) closes)) (λ other. inr (bad_piece-plain c rest plain other)))
tells_urls piece rest (inr longest) = let told = tells_escape piece rest longest in (told.some, inr (bad_piece-escape (piece ++ rest) told.begins ∙ told.size))

stops_urls : (text : List ℕ) → bad_url_piece_length text ≡ 0 → is_closed text ≡ true
stops_urls text none = piece_cases text (λ closed. closed)
    (λ one. absurd (omega (arith, one.size, none)))
    (λ escape. absurd (omega (arith, bad_piece-escape text escape, none, escape_length-positive text)))

-- a piece of a good url is one of a bad one
url_piece-plain : (c : ℕ) (cs : List ℕ) → begins_escape (c ∷ cs) ≡ false → must_be_escaped_in_url c ≡ true → url_piece_length (c ∷ cs) ≡ 0
unfolding url_piece_length
url_piece-plain c cs plain escaped = if_false (begins_escape (c ∷ cs)) _ _ plain ∙ if_true (must_be_escaped_in_url c) _ _ escaped

url_piece-one : (c : ℕ) (cs : List ℕ) → begins_escape (c ∷ cs) ≡ false → must_be_escaped_in_url c ≡ false → url_piece_length (c ∷ cs) ≡ 1
unfolding url_piece_length
url_piece-one c cs plain escaped = if_false (begins_escape (c ∷ cs)) _ _ plain ∙ if_false (must_be_escaped_in_url c) _ _ escaped

url_piece-nil : url_piece_length [] ≡ 0
unfolding url_piece_length
url_piece-nil = refl

good_piece : (text : List ℕ) → 0 < url_piece_length text → (bad_url_piece_length text ≡ url_piece_length text) × (url_piece_length text ≤ length text)
good_piece [] some = absurd (omega (arith, url_piece-nil))
good_piece (c ∷ cs) some =
    bool_cases (begins_escape (c ∷ cs))
    (λ escape. (bad_piece-escape (c ∷ cs) escape ∙ sym (url_piece-escape (c ∷ cs) escape), omega (arith, url_piece-escape (c ∷ cs) escape, escape-within (c ∷ cs) escape)))
    (λ plain. bool_cases (must_be_escaped_in_url c)
    (λ escaped. absurd (omega (arith, url_piece-plain c cs plain escaped)))
    (λ free.
    let other : (c == right_parenthesis) ≡ false = grind (arith, nat_tests) in
    (bad_piece-plain c cs plain other ∙ sym (url_piece-one c cs plain free), omega (arith, url_piece-one c cs plain free))))

-- the run of a bad url goes over that of a good one
over_good : (k : ℕ) (text : List ℕ) (n : ℕ) → url_piece_length text ≡ n → length text ≤ k → bad_url_length text ≡ url_length text + bad_url_length (drop (url_length text) text)
over_good k text zero here short = rw (run_length-end url_piece_length text here) (omega arith)
over_good zero text (suc n) here short = absurd (omega (arith, here, (good_piece text (omega (arith, here))).1))
over_good (suc k) text (suc n) here short =
    let good = good_piece text (omega (arith, here)) in
    let fits : suc n ≤ length text = omega (arith, good.1, here) in
    let behind = drop (suc n) text in
    let stepped = run_length-more url_piece_length (suc n) text here (omega arith) fits in
    let bad_stepped = run_length-more bad_url_piece_length (suc n) text (good.0 ∙ here) (omega arith) fits in
    let more = over_good k behind _ refl (omega (arith, length-drop (suc n) text)) in
    let left : bad_url_length (drop (url_length text) text) ≡ bad_url_length (drop (url_length behind) behind) =
    ap (λ (m : ℕ). bad_url_length (drop m text)) stepped ∙ ap bad_url_length (sym (drop-drop (url_length behind) (suc n) text)) in
    omega (arith, stepped, bad_stepped, more, left)

-- and over whitespace
white_piece : (c : ℕ) (cs : List ℕ) → is_whitespace c ≡ true → bad_url_piece_length (c ∷ cs) ≡ 1
white_piece c cs white =
    let other : (c == right_parenthesis) ≡ false = grind (arith, nat_tests) in
    let plain : (c == reverse_solidus) ≡ false = grind (arith, nat_tests) in
    bad_piece-plain c cs (rw plain refl) other

over_white : (text : List ℕ) → bad_url_length text ≡ whitespace_length text + bad_url_length (drop (whitespace_length text) text)
over_white [] = omega arith
over_white (c ∷ cs) =
    bool_cases (is_whitespace c)
    (λ white.
    let stepped = run_length-more bad_url_piece_length 1 (c ∷ cs) (white_piece c cs white) (omega arith) (omega arith) in
    rw (white, one_more (whitespace_length cs)) (omega (arith, stepped, over_white cs)))
    (λ other. rw other (omega arith))

pub urls_take_closing : UrlsTakeClosing
unfolding url_body_row bad_url_rest_length
urls_take_closing text =
    let size = url_length text in
    let after = drop size text in
    let end = whitespace_length after in
    let close = drop end after in
    let good = over_good (length text) text _ refl (omega arith) in
    let white = over_white after in
    let left : drop (bad_url_length text) text ≡ drop (bad_url_length after) after =
    ap (λ (m : ℕ). drop m text) good ∙ ap (λ (m : ℕ). drop m text) (omega arith) ∙ sym (drop-drop (bad_url_length after) size text) in
    let left' : drop (bad_url_length after) after ≡ drop (bad_url_length close) close =
    ap (λ (m : ℕ). drop m after) white ∙ ap (λ (m : ℕ). drop m after) (omega arith) ∙ sym (drop-drop (bad_url_length close) end after) in
    let close_is = ap closing_length left in
    let close_is' = ap closing_length left' in
    bool_cases (is_closed close)
    (λ closed.
    let none : bad_url_length close ≡ 0 = run_length-end bad_url_piece_length close (bad_piece-end close closed) in
    let here : closing_length (drop (bad_url_length close) close) ≡ closing_length close = ap (λ (m : ℕ). closing_length (drop m close)) none in
    ap (λ (row : Row). row.0) (if_true (is_closed close) _ _ closed) ∙ omega (arith, good, white, none, here, close_is, close_is'))
    (λ open'. ap (λ (row : Row). row.0) (if_false (is_closed close) _ _ open') ∙ omega (arith, good, close_is))

pub urls_end_first : UrlsEndFirst
urls_end_first text = first_run bad_url_piece_length IsUrlPart is_closed reads_urls tells_urls stops_urls bad_piece-end text
