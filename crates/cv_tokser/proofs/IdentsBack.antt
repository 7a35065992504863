-- Tokens that are written with a name are read again: Ident, Function, At and Hash.
use Rattle.std.proofs.Common.{◌≡◌, ℕ, ◌+◌, ◌<◌, List, [], ◌∷◌, ◌++◌, length, drop, refl, ◌∙◌, ap, arith, append_assoc, length-append}
use Rattle.std.specs.Prelude.{Bool, true, false, ◌||◌, ◌&&◌, ◌==◌, nat_lt, if◌then◌else◌, Some}
use Rattle.std.specs.Char.{is_ascii_digit}
use Rattle.std.proofs.Math.Seq.{drop-append_seam}
use Rattle.std.proofs.lemmas.Bool.{eqb-true}
use Rattle.std.proofs.lemmas.Bool.Decides.{nat_tests}
use Rattle.cv_spec_text.specs.declared.token.Token.TheVariants.{Ident, Function, At, Hash}
use Rattle.cv_spec_text.specs.Characters.{hyphen, reverse_solidus, number_sign, commercial_at, left_parenthesis, greater_than_sign, is_quote, is_ident_start, is_ident_code_point, begins_by, begins_with}
use Rattle.cv_spec_text.specs.Names.{begins_escape, escape_length, name_piece_length, name_piece_value, name_length, name_value, begins_name}
use Rattle.cv_spec_text.specs.Urls.{whitespace_length, is_url_name}
use Rattle.cv_spec_text.specs.Tokens.{begins_pair, hash_row, url_row, name_row, first_row}
use Rattle.cv_spec_text.specs.Joins.{is_double_hyphen}
use Rattle.cv_spec_text.specs.Printing.{is_control, hex_escape, name_code_point, name_rest, with_no_digit_first, identifier}
use Rattle.cv_spec_text.proofs.Rows.{if_case, escape_length-positive}
use Rattle.cv_text_laws.proofs.Tests.{if_false, if_true, bool_cases}
use Rattle.cv_tokser.proofs.Pieces.{written_length, written_value, written_begins}
use Rattle.cv_tokser.proofs.NamesBack.{IsNameWritten, name_rest_written, identifier_written}
use Rattle.cv_tokser.proofs.NameStarts.{identifier_begins}
use Rattle.cv_tokser.proofs.FirstRows.{begins_cdc, first_row-name, first_row-hash, first_row-at}

-- no code point of a name is written as `>` in front
name_code_point-greater : (c : ℕ) (more : List ℕ) → begins_with greater_than_sign (name_code_point c ++ more) ≡ false
unfolding name_code_point hex_escape
name_code_point-greater c more =
    let P : List ℕ → Type 0 = λ piece. begins_with greater_than_sign (piece ++ more) ≡ false in
    if_case P (is_control c) (λ _. if_case P (nat_lt c 16) (λ _. refl) (λ _. refl))
    (λ _. if_case P (is_ident_code_point c) (λ ident. grind (arith, nat_tests)) (λ _. refl))

-- a first code point is written as `-` in front only where it is `-`
first-hyphen : (c : ℕ) (more : List ℕ) → (c == hyphen) ≡ false
    → begins_with hyphen ((if is_ascii_digit c then hex_escape c else name_code_point c) ++ more) ≡ false
unfolding name_code_point hex_escape
first-hyphen c more other =
    let P : List ℕ → Type 0 = λ piece. begins_with hyphen (piece ++ more) ≡ false in
    let hex : P (hex_escape c) = if_case P (nat_lt c 16) (λ _. refl) (λ _. refl) in
    if_case P (is_ascii_digit c) (λ _. hex)
    (λ _. if_case P (is_control c) (λ _. hex) (λ _. if_case P (is_ident_code_point c) (λ ident. other) (λ _. refl)))

cdc_by_hyphen : (text : List ℕ) → begins_with hyphen text ≡ false → begins_cdc text ≡ false
cdc_by_hyphen [] other = refl
cdc_by_hyphen (c ∷ cs) other = rw other refl

undigited-cdc : (c : ℕ) (cs rest : List ℕ) → (c == hyphen) ≡ false → begins_with hyphen (with_no_digit_first (c ∷ cs) ++ rest) ≡ false
undigited-cdc c cs rest other =
    rw (append_assoc (if is_ascii_digit c then hex_escape c else name_code_point c) (name_rest cs) rest) (first-hyphen c (name_rest cs ++ rest) other)

double_hyphen-cdc : (cs rest : List ℕ) → (is_double_hyphen (hyphen ∷ hyphen ∷ cs) ≡ true → begins_with greater_than_sign rest ≡ false)
    → begins_with greater_than_sign (name_rest cs ++ rest) ≡ false
double_hyphen-cdc [] rest ends = ends refl
double_hyphen-cdc (c ∷ cs) rest ends = rw (append_assoc (name_code_point c) (name_rest cs) rest) (name_code_point-greater c (name_rest cs ++ rest))

hyphen-cdc : (d : ℕ) (cs rest : List ℕ) → (is_double_hyphen (hyphen ∷ d ∷ cs) ≡ true → begins_with greater_than_sign rest ≡ false)
    → begins_pair hyphen greater_than_sign (with_no_digit_first (d ∷ cs) ++ rest) ≡ false
unfolding name_code_point
hyphen-cdc d cs rest ends =
    bool_cases (d == hyphen)
    (λ is.
    let same : d ≡ hyphen = eqb-true d hyphen is in
    let ends' : is_double_hyphen (hyphen ∷ hyphen ∷ cs) ≡ true → begins_with greater_than_sign rest ≡ false =
    λ double. ends (ap (λ (x : ℕ). is_double_hyphen (hyphen ∷ x ∷ cs)) same ∙ double) in
    rw same (double_hyphen-cdc cs rest ends'))
    (λ other. rw (undigited-cdc d cs rest other) refl)

-- no `-->` stands where an identifier does, but for `--` before `>`
identifier-cdc : (c : ℕ) (cs rest : List ℕ) → (is_double_hyphen (c ∷ cs) ≡ true → begins_with greater_than_sign rest ≡ false)
    → begins_cdc (identifier (c ∷ cs) ++ rest) ≡ false
unfolding identifier
identifier-cdc c [] rest ends =
    if_case (λ (text : List ℕ). begins_cdc (text ++ rest) ≡ false) (c == hyphen) (λ _. refl)
    (λ other. cdc_by_hyphen (with_no_digit_first (c ∷ []) ++ rest) (undigited-cdc c [] rest other))
identifier-cdc c (d ∷ cs) rest ends =
    if_case (λ (text : List ℕ). begins_cdc (text ++ rest) ≡ false) (c == hyphen)
    (λ is. let same : c ≡ hyphen = eqb-true c hyphen is in
    hyphen-cdc d cs rest (λ double. ends (ap (λ (x : ℕ). is_double_hyphen (x ∷ d ∷ cs)) same ∙ double)))
    (λ other. cdc_by_hyphen (with_no_digit_first (c ∷ d ∷ cs) ++ rest) (undigited-cdc c (d ∷ cs) rest other))

-- what ends an identifier
pub record EndsIdent (name rest : List ℕ) : Type 0 where
  pub piece : name_piece_length rest ≡ 0
  pub parenthesis : begins_with left_parenthesis rest ≡ false
  pub greater : is_double_hyphen name ≡ true → begins_with greater_than_sign rest ≡ false

-- a name in front of what it doesn't go on in
record ReadsName (name text rest : List ℕ) : Type 0 where
  size : name_length (text ++ rest) ≡ length text
  value : name_value (text ++ rest) ≡ name
  left : drop (length text) (text ++ rest) ≡ rest

reads_name : (name text rest : List ℕ) → IsNameWritten name text → name_piece_length rest ≡ 0 → ReadsName name text rest
reads_name name text rest written none = record {
  size = written_length name_piece_length name_piece_value name text rest written none;
  value = written_value name_piece_length name_piece_value name text rest written none;
  left = drop-append_seam text rest;
}

-- a name that no `(` follows is an identifier
name_row-ident : (name text rest : List ℕ) → ReadsName name text rest → begins_with left_parenthesis rest ≡ false
    → name_row (text ++ rest) ≡ (length text, Some (Ident name))
unfolding name_row
name_row-ident name text rest reads other =
    if_false (begins_with left_parenthesis (drop (name_length (text ++ rest)) (text ++ rest))) _ _ (rw (reads.size, reads.left) other)
    ∙ rw (reads.size, reads.value) refl

pub ident_back : (c : ℕ) (cs rest : List ℕ) → EndsIdent (c ∷ cs) rest
    → first_row (identifier (c ∷ cs) ++ rest) ≡ (length (identifier (c ∷ cs)), Some (Ident (c ∷ cs)))
ident_back c cs rest ends =
    first_row-name (identifier (c ∷ cs) ++ rest) (identifier_begins c cs rest) (identifier-cdc c cs rest ends.greater)
    ∙ name_row-ident (c ∷ cs) (identifier (c ∷ cs)) rest (reads_name (c ∷ cs) (identifier (c ∷ cs)) rest (identifier_written (c ∷ cs)) ends.piece) ends.parenthesis

at_parenthesis : (rest : List ℕ) → name_piece_length (left_parenthesis ∷ rest) ≡ 0
unfolding name_piece_length
at_parenthesis rest = refl

-- a string behind `url(`
url_row-function : (name rest : List ℕ) → begins_by is_quote (drop (whitespace_length rest) rest) ≡ true → url_row name rest ≡ (0, Some (Function name))
unfolding url_row
url_row-function name rest quote = if_true (begins_by is_quote (drop (whitespace_length rest) rest)) _ _ quote

-- a name that `(` follows is a function, if it isn't `url` or a string follows
name_row-function : (name text rest : List ℕ) → ReadsName name text (left_parenthesis ∷ rest)
    → (is_url_name name ≡ true → begins_by is_quote (drop (whitespace_length rest) rest) ≡ true)
    → name_row (text ++ left_parenthesis ∷ rest) ≡ (length text + 1, Some (Function name))
unfolding name_row
name_row-function name text rest reads url =
    let whole = text ++ left_parenthesis ∷ rest in
    if_true (begins_with left_parenthesis (drop (name_length whole) whole)) _ _ (rw (reads.size, reads.left) refl)
    ∙ rw (reads.size, reads.value, reads.left)
    (bool_cases (is_url_name name)
    (λ is. if_true (is_url_name name) _ _ is ∙ rw (url_row-function name rest (url is)) (ap (λ (n : ℕ). (n, Some (Function name))) (omega arith)))
    (λ other. if_false (is_url_name name) _ _ other))

pub function_back : (c : ℕ) (cs rest : List ℕ) → (is_url_name (c ∷ cs) ≡ true → begins_by is_quote (drop (whitespace_length rest) rest) ≡ true)
    → first_row ((identifier (c ∷ cs) ++ left_parenthesis ∷ []) ++ rest) ≡ (length (identifier (c ∷ cs) ++ left_parenthesis ∷ []), Some (Function (c ∷ cs)))
function_back c cs rest url =
    let text = identifier (c ∷ cs) in
    rw append_assoc
    (first_row-name (text ++ left_parenthesis ∷ rest) (identifier_begins c cs (left_parenthesis ∷ rest)) (identifier-cdc c cs (left_parenthesis ∷ rest) (λ _. refl))
    ∙ name_row-function (c ∷ cs) text rest (reads_name (c ∷ cs) text (left_parenthesis ∷ rest) (identifier_written (c ∷ cs)) (at_parenthesis rest)) url
    ∙ rw (length-append text (left_parenthesis ∷ [])) refl)

pub at_back : (c : ℕ) (cs rest : List ℕ) → name_piece_length rest ≡ 0
    → first_row (commercial_at ∷ (identifier (c ∷ cs) ++ rest)) ≡ (length (commercial_at ∷ identifier (c ∷ cs)), Some (At (c ∷ cs)))
at_back c cs rest ends =
    let reads = reads_name (c ∷ cs) (identifier (c ∷ cs)) rest (identifier_written (c ∷ cs)) ends in
    first_row-at (identifier (c ∷ cs) ++ rest) (identifier_begins c cs rest)
    ∙ rw (reads.size, reads.value) (ap (λ (n : ℕ). (n, Some (At (c ∷ cs)))) (omega arith))

no_piece : (ident escape : Bool) (n : ℕ) → (ident || escape) ≡ false → 0 < (if ident then 1 else (if escape then n else 0)) → ⊥
no_piece true escape n fails some = cc
no_piece false true n fails some = cc
no_piece false false n fails some = omega arith

-- where a piece of a name stands, an ident code point or an escape does
pub piece_begins : (text : List ℕ) → 0 < name_piece_length text → (begins_by is_ident_code_point text || begins_escape text) ≡ true
unfolding name_piece_length
piece_begins text some =
    bool_cases (begins_by is_ident_code_point text || begins_escape text) (λ holds. holds)
    (λ fails. absurd (no_piece (begins_by is_ident_code_point text) (begins_escape text) (escape_length text) fails some))

hash_row-name : (name text rest : List ℕ) (id : Bool) → ReadsName name text rest → begins_name (text ++ rest) ≡ id
    → hash_row (text ++ rest) ≡ (1 + length text, Some (Hash name id))
unfolding hash_row
hash_row-name name text rest id reads begins = rw (reads.size, reads.value, begins) refl

-- a hash of this text
hash_of : (c : ℕ) (cs text rest : List ℕ) (id : Bool) → IsNameWritten (c ∷ cs) text → name_piece_length rest ≡ 0 → begins_name (text ++ rest) ≡ id
    → first_row (number_sign ∷ (text ++ rest)) ≡ (length (number_sign ∷ text), Some (Hash (c ∷ cs) id))
hash_of c cs text rest id written ends begins =
    first_row-hash (text ++ rest) (piece_begins (text ++ rest) (written_begins name_piece_length name_piece_value c cs text rest written))
    ∙ hash_row-name (c ∷ cs) text rest id (reads_name (c ∷ cs) text rest written ends) begins
    ∙ ap (λ (n : ℕ). (n, Some (Hash (c ∷ cs) id))) (omega arith)

pub id_back : (c : ℕ) (cs rest : List ℕ) → name_piece_length rest ≡ 0
    → first_row (number_sign ∷ (identifier (c ∷ cs) ++ rest)) ≡ (length (number_sign ∷ identifier (c ∷ cs)), Some (Hash (c ∷ cs) true))
id_back c cs rest ends = hash_of c cs (identifier (c ∷ cs)) rest true (identifier_written (c ∷ cs)) ends (identifier_begins c cs rest)

-- A name that isn't an identifier: a digit stands in front or behind a first `-`, or it is `-`.
abbrev pub is_no_identifier : List ℕ → Bool
is_no_identifier [] = false
is_no_identifier (c ∷ []) = is_ascii_digit c || c == hyphen
is_no_identifier (c ∷ d ∷ cs) = is_ascii_digit c || (c == hyphen && is_ascii_digit d)

-- a digit is written as it is
digit_written : (d : ℕ) → is_ascii_digit d ≡ true → name_code_point d ≡ d ∷ []
unfolding name_code_point
digit_written d digit =
    let printable : is_control d ≡ false = grind (arith, nat_tests) in
    let ident : is_ident_code_point d ≡ true = grind (arith, nat_tests) in
    rw (printable, ident) refl

hyphen_written : name_code_point hyphen ≡ hyphen ∷ []
unfolding name_code_point
hyphen_written = refl

-- no name begins with a digit, with `-` and a digit, or with `-` before what ends a name
digit_begins : (d : ℕ) (more : List ℕ) → is_ascii_digit d ≡ true → begins_name (d ∷ more) ≡ false
unfolding begins_name
digit_begins d more digit =
    let start : is_ident_start d ≡ false = grind (arith, nat_tests) in
    let escape : (d == reverse_solidus) ≡ false = grind (arith, nat_tests) in
    let other : (d == hyphen) ≡ false = grind (arith, nat_tests) in
    rw (start, escape, other) refl

hyphen_digit_begins : (d : ℕ) (more : List ℕ) → is_ascii_digit d ≡ true → begins_name (hyphen ∷ d ∷ more) ≡ false
unfolding begins_name
hyphen_digit_begins d more digit =
    let start : is_ident_start d ≡ false = grind (arith, nat_tests) in
    let escape : (d == reverse_solidus) ≡ false = grind (arith, nat_tests) in
    let other : (d == hyphen) ≡ false = grind (arith, nat_tests) in
    rw (other, start, escape) refl

-- where no piece of a name stands, neither an ident code point nor an escape does
pub nothing_begins : (text : List ℕ) → name_piece_length text ≡ 0 → (begins_by is_ident_code_point text ≡ false) × (begins_escape text ≡ false)
unfolding name_piece_length
nothing_begins text none =
    bool_cases (begins_by is_ident_code_point text)
    (λ ident. let one : name_piece_length text ≡ 1 = if_true (begins_by is_ident_code_point text) _ _ ident in absurd (omega (arith, one, none)))
    (λ other. bool_cases (begins_escape text)
    (λ escape. let all : name_piece_length text ≡ escape_length text = if_false (begins_by is_ident_code_point text) _ _ other ∙ if_true (begins_escape text) _ _ escape in
    absurd (omega (arith, all, none, escape_length-positive text)))
    (λ plain. (other, plain)))

hyphen_alone : (rest : List ℕ) → begins_by is_ident_code_point rest ≡ false → begins_escape rest ≡ false → begins_name (hyphen ∷ rest) ≡ false
unfolding begins_name
hyphen_alone [] other plain = refl
hyphen_alone (c ∷ cs) other plain =
    let here : (c == hyphen || is_ident_start c) ≡ false = grind (arith, nat_tests) in
    rw here plain

pub hyphen_alone_begins : (rest : List ℕ) → name_piece_length rest ≡ 0 → begins_name (hyphen ∷ rest) ≡ false
unfolding begins_name
hyphen_alone_begins rest none =
    let fails = nothing_begins rest none in
    hyphen_alone rest fails.0 fails.1

after_no_digit : (digit hyphen' more : Bool) → digit ≡ false → (digit || (hyphen' && more)) ≡ true → (hyphen' ≡ true) × (more ≡ true)
after_no_digit true hyphen' more other unnamed = cc
after_no_digit false true more other unnamed = (refl, unnamed)
after_no_digit false false more other unnamed = cc

only_hyphen : (digit hyphen' : Bool) → digit ≡ false → (digit || hyphen') ≡ true → hyphen' ≡ true
only_hyphen true hyphen' other unnamed = cc
only_hyphen false hyphen' other unnamed = unnamed

hyphen_rest-begins : (c : ℕ) (cs rest : List ℕ) → is_ascii_digit c ≡ false → is_no_identifier (c ∷ cs) ≡ true → name_piece_length rest ≡ 0
    → begins_name (name_rest (c ∷ cs) ++ rest) ≡ false
hyphen_rest-begins c [] rest other unnamed ends =
    let same : c ≡ hyphen = eqb-true c hyphen (only_hyphen (is_ascii_digit c) (c == hyphen) other unnamed) in
    rw (same, hyphen_written) (hyphen_alone_begins rest ends)
hyphen_rest-begins c (d ∷ cs) rest other unnamed ends =
    let parts = after_no_digit (is_ascii_digit c) (c == hyphen) (is_ascii_digit d) other unnamed in
    let same : c ≡ hyphen = eqb-true c hyphen parts.0 in
    rw (same, hyphen_written, digit_written d parts.1) (hyphen_digit_begins d (name_rest cs ++ rest) parts.1)

-- a name that isn't an identifier is written as none
name_rest-begins : (c : ℕ) (cs rest : List ℕ) → is_no_identifier (c ∷ cs) ≡ true → name_piece_length rest ≡ 0 → begins_name (name_rest (c ∷ cs) ++ rest) ≡ false
name_rest-begins c cs rest unnamed ends =
    bool_cases (is_ascii_digit c)
    (λ digit. rw (digit_written c digit) (digit_begins c (name_rest cs ++ rest) digit))
    (λ other. hyphen_rest-begins c cs rest other unnamed ends)

pub no_id_back : (c : ℕ) (cs rest : List ℕ) → is_no_identifier (c ∷ cs) ≡ true → name_piece_length rest ≡ 0
    → first_row (number_sign ∷ (name_rest (c ∷ cs) ++ rest)) ≡ (length (number_sign ∷ name_rest (c ∷ cs)), Some (Hash (c ∷ cs) false))
no_id_back c cs rest unnamed ends = hash_of c cs (name_rest (c ∷ cs)) rest false (name_rest_written (c ∷ cs)) ends (name_rest-begins c cs rest unnamed ends)
