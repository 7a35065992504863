-- A written string and a written url are read again.
use Rattle.std.proofs.Common.{◌≡◌, ℕ, ◌+◌, List, [], ◌∷◌, ◌++◌, length, refl, ◌∙◌, ap, arith, append_assoc, length-append}
use Rattle.std.specs.Prelude.{true, false, ◌||◌, ◌==◌, nat_lt, Some, codes}
use Rattle.std.specs.List.{flat_map}
use Rattle.std.proofs.Math.Seq.{drop-append_seam}
use Rattle.std.proofs.lemmas.Bool.Decides.{nat_tests}
use Rattle.cv_spec_text.specs.declared.token.Token.TheVariants.{Str, Url}
use Rattle.cv_spec_text.specs.Characters.{space, quotation_mark, left_parenthesis, right_parenthesis, reverse_solidus, is_whitespace, is_quote, begins_by}
use Rattle.cv_spec_text.specs.Runs.{run_length, run_values}
use Rattle.cv_spec_text.specs.Names.{name_piece_length, name_piece_value, name_length, name_value, begins_name}
use Rattle.cv_spec_text.specs.Strings.{string_piece_length, string_piece_value, string_length, string_value}
use Rattle.cv_spec_text.specs.Urls.{url_piece_length, url_length, url_value}
use Rattle.cv_spec_text.specs.Tokens.{string_row, url_body_row, url_row, name_row, first_row}
use Rattle.cv_spec_text.specs.Printing.{is_control, hex_escape, string_code_point, url_code_point, quoted}
use Rattle.cv_spec_text.proofs.Rows.{if_case}
use Rattle.cv_text_laws.proofs.Tests.{if_false}
use Rattle.cv_text_laws.proofs.Digits.{prefix_len-none}
use Rattle.cv_tokser.proofs.Pieces.{written_length, written_value}
use Rattle.cv_tokser.proofs.TextsBack.{string_written, url_written}
use Rattle.cv_tokser.proofs.FirstRows.{first_row-name}

-- the quote ends a string
at_quote : (rest : List ℕ) → string_piece_length quotation_mark (quotation_mark ∷ rest) ≡ 0
unfolding string_piece_length
at_quote rest = refl

string_row-closed : (text body rest : List ℕ) → string_length quotation_mark (body ++ quotation_mark ∷ rest) ≡ length body
    → string_value quotation_mark (body ++ quotation_mark ∷ rest) ≡ text → string_row quotation_mark (body ++ quotation_mark ∷ rest) ≡ (2 + length body, Some (Str text))
unfolding string_row
string_row-closed text body rest size value = rw (size, value, drop-append_seam body (quotation_mark ∷ rest)) refl

first_row-quote : (rest : List ℕ) → first_row (quotation_mark ∷ rest) ≡ string_row quotation_mark rest
unfolding first_row
first_row-quote rest = refl

pub string_back : (text rest : List ℕ) → first_row (quoted text ++ rest) ≡ (length (quoted text), Some (Str text))
string_back text rest =
    let body = flat_map string_code_point text in
    let behind = quotation_mark ∷ rest in
    let size = written_length (string_piece_length quotation_mark) string_piece_value text body behind (string_written text) (at_quote rest) in
    let value = written_value (string_piece_length quotation_mark) string_piece_value text body behind (string_written text) (at_quote rest) in
    let total : 2 + length body ≡ length (quoted text) = omega (arith, length-append body (quotation_mark ∷ [])) in
    rw (append_assoc body (quotation_mark ∷ []) rest)
    (first_row-quote (body ++ behind) ∙ string_row-closed text body rest size value ∙ ap (λ (n : ℕ). (n, Some (Str text))) total)

-- `)` ends a url
at_closing : (rest : List ℕ) → url_piece_length (right_parenthesis ∷ rest) ≡ 0
unfolding url_piece_length
at_closing rest = refl

-- what is written for a code point of a url begins with no whitespace and no quote
record BeginsUrl (text : List ℕ) : Type 0 where
  whitespace : begins_by is_whitespace text ≡ false
  quote : begins_by is_quote text ≡ false

url_code_point-begins : (c : ℕ) (more : List ℕ) → BeginsUrl (url_code_point c ++ more)
unfolding url_code_point hex_escape
url_code_point-begins c more =
    let P : List ℕ → Type 0 = λ piece. BeginsUrl (piece ++ more) in
    if_case P (is_control c || is_quote c || c == left_parenthesis || c == right_parenthesis || c == reverse_solidus || c == space)
    (λ _. if_case P (nat_lt c 16) (λ _. record { whitespace = refl; quote = refl }) (λ _. record { whitespace = refl; quote = refl }))
    (λ plain. record { whitespace = grind (arith, nat_tests); quote = grind (arith, nat_tests) })

body-begins : (text rest : List ℕ) → BeginsUrl (flat_map url_code_point text ++ right_parenthesis ∷ rest)
body-begins [] rest = record { whitespace = refl; quote = refl }
body-begins (c ∷ cs) rest =
    rw (append_assoc (url_code_point c) (flat_map url_code_point cs) (right_parenthesis ∷ rest)) (url_code_point-begins c (flat_map url_code_point cs ++ right_parenthesis ∷ rest))

url_body_row-closed : (text body rest : List ℕ) → url_length (body ++ right_parenthesis ∷ rest) ≡ length body → url_value (body ++ right_parenthesis ∷ rest) ≡ text
    → url_body_row (body ++ right_parenthesis ∷ rest) ≡ (length body + 0 + 1, Some (Url text))
unfolding url_body_row
url_body_row-closed text body rest size value = rw (size, value, drop-append_seam body (right_parenthesis ∷ rest)) refl

url_row-body : (name rest : List ℕ) → BeginsUrl rest → url_row name rest ≡ (0 + (url_body_row rest).0, (url_body_row rest).1)
unfolding url_row
url_row-body name rest begins = rw (prefix_len-none is_whitespace rest begins.whitespace) (if_false (begins_by is_quote rest) _ _ begins.quote)

-- `url(`
url_name : (rest : List ℕ) → (name_length (codes "url(" ++ rest) ≡ 3) × (name_value (codes "url(" ++ rest) ≡ codes "url")
unfolding run_length run_values name_piece_length name_piece_value
url_name rest = (refl, refl)

url_begins : (rest : List ℕ) → begins_name (codes "url(" ++ rest) ≡ true
unfolding begins_name
url_begins rest = refl

name_row-url : (rest : List ℕ) → name_row (codes "url(" ++ rest) ≡ (3 + 1 + (url_row (codes "url") rest).0, (url_row (codes "url") rest).1)
unfolding name_row
name_row-url rest = rw ((url_name rest).0, (url_name rest).1) refl

pub url_back : (text rest : List ℕ)
    → first_row ((codes "url(" ++ flat_map url_code_point text ++ right_parenthesis ∷ []) ++ rest)
    ≡ (length (codes "url(" ++ flat_map url_code_point text ++ right_parenthesis ∷ []), Some (Url text))
url_back text rest =
    let body = flat_map url_code_point text in
    let behind = right_parenthesis ∷ rest in
    let size = written_length url_piece_length name_piece_value text body behind (url_written text) (at_closing rest) in
    let value = written_value url_piece_length name_piece_value text body behind (url_written text) (at_closing rest) in
    let total : 3 + 1 + (0 + (length body + 0 + 1)) ≡ length (codes "url(" ++ body ++ right_parenthesis ∷ []) = omega (arith, length-append body (right_parenthesis ∷ [])) in
    rw (append_assoc body (right_parenthesis ∷ []) rest)
    (first_row-name (codes "url(" ++ body ++ behind) (url_begins (body ++ behind)) refl
    ∙ name_row-url (body ++ behind)
    ∙ rw (url_row-body (codes "url") (body ++ behind) (body-begins text rest), url_body_row-closed text body rest size value) (ap (λ (n : ℕ). (n, Some (Url text))) total))
