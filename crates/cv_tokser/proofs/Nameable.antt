-- The names and texts that are read of a text hold what a name may hold.
use Rattle.std.proofs.Common.{◌≡◌, ℕ, zero, suc, pred, ◌<◌, List, [], ◌∷◌, length, take, drop, refl, sym, ◌∙◌, ap, arith}
use Rattle.std.specs.Prelude.{Bool, true, false, not, ◌||◌, ◌&&◌, ◌==◌, nat_le, nat_lt, if◌then◌else◌}
use Rattle.std.specs.Char.{is_ascii_digit}
use Rattle.std.proofs.Math.Utf8.{scalar}
use Rattle.std.proofs.lemmas.Bool.{eqb-true}
use Rattle.std.proofs.lemmas.Bool.Decides.{nat_tests}
use Rattle.cv_spec_text.specs.Characters.{hyphen, line_feed, form_feed, carriage_return, reverse_solidus, is_ident_start, is_ident_code_point, begins_by}
use Rattle.cv_spec_text.specs.Runs.{these_if, run_values_within, run_values}
use Rattle.cv_spec_text.specs.Names.{begins_escape, escape_length, code_point_of, first_or_replacement, hex_length, hex_value, escape_value, name_piece_length, name_piece_value, name_value, begins_name}
use Rattle.cv_spec_text.specs.Strings.{string_piece_length, string_piece_value, string_value}
use Rattle.cv_spec_text.specs.Urls.{url_piece_length, url_value}
use Rattle.cv_spec_text.proofs.Rows.{if_case, escape_length-positive, name_piece_length-positive}
use Rattle.cv_spec_text.proofs.Runs.{run_values-end}
use Rattle.cv_text_laws.proofs.Tests.{bool_cases, neither}
use Rattle.cv_tokser.proofs.IdentsBack.{is_no_identifier}
use Rattle.cv_tokser.proofs.WellFormed.{is_nameable, is_kept, AreAll, AreAll-append, AreAll-drop}

weaker : (s z a b : Bool) → (s && not (z || a || b)) ≡ true → (s && not z) ≡ true
weaker true true a b kept = cc
weaker true false a b kept = refl
weaker false z a b kept = cc

pub nameable : (c : ℕ) → is_kept c ≡ true → is_nameable c ≡ true
nameable c kept = weaker (scalar c) (c == 0) (c == form_feed) (c == carriage_return) kept

first-nameable : (text : List ℕ) → AreAll is_kept text → is_nameable (first_or_replacement text) ≡ true
first-nameable [] kept = refl
first-nameable (c ∷ cs) kept = nameable c kept.0

code_point-nameable : (n : ℕ) → is_nameable (code_point_of n) ≡ true
code_point-nameable n =
    if_case (λ (c : ℕ). is_nameable c ≡ true) (n == 0 || (nat_le 0xD800 n && nat_le n 0xDFFF) || nat_lt 0x10FFFF n) (λ _. refl) (λ inside. grind (arith, nat_tests))

escape-nameable : (text : List ℕ) → AreAll is_kept text → is_nameable (escape_value text) ≡ true
unfolding escape_value
escape-nameable text kept =
    let rest = drop 1 text in
    let hex = hex_length rest in
    if_case (λ (c : ℕ). is_nameable c ≡ true) (hex == 0) (λ _. first-nameable rest (AreAll-drop is_kept 1 text kept)) (λ _. code_point-nameable (hex_value (take hex rest)))

-- what a piece gives
name_piece-nameable : (text : List ℕ) → AreAll is_kept text → AreAll is_nameable (name_piece_value text)
unfolding name_piece_value
name_piece-nameable text kept =
    (if_case (λ (c : ℕ). is_nameable c ≡ true) (begins_escape text) (λ _. escape-nameable text kept) (λ _. first-nameable text kept), tt)

string_piece-nameable : (text : List ℕ) → AreAll is_kept text → AreAll is_nameable (string_piece_value text)
unfolding string_piece_value
string_piece-nameable [] kept = tt
string_piece-nameable (c ∷ []) kept = if_case (AreAll is_nameable) (c == reverse_solidus) (λ _. tt) (λ _. (nameable c kept.0, tt))
string_piece-nameable (c ∷ d ∷ cs) kept =
    if_case (AreAll is_nameable) (c == reverse_solidus)
    (λ _. if_case (AreAll is_nameable) (d == line_feed) (λ _. tt) (λ _. (escape-nameable (c ∷ d ∷ cs) kept, tt)))
    (λ _. (nameable c kept.0, tt))

-- what a run gives
module _ (piece : List ℕ → ℕ) (value : List ℕ → List ℕ) (each : (text : List ℕ) → AreAll is_kept text → AreAll is_nameable (value text)) where
  these-nameable : (n : ℕ) (all : List ℕ) → AreAll is_nameable all → AreAll is_nameable (these_if n all)
  these-nameable zero all are = tt
  these-nameable (suc n) all are = are

  within-nameable : (within : ℕ) (text : List ℕ) → AreAll is_kept text → AreAll is_nameable (run_values_within piece value within text)
  within-nameable within [] kept = tt
  within-nameable (suc within) (c ∷ cs) kept = within-nameable within cs kept.1
  within-nameable zero (c ∷ cs) kept =
      these-nameable (piece (c ∷ cs)) _
      (AreAll-append is_nameable (value (c ∷ cs)) _ (each (c ∷ cs) kept) (within-nameable (pred (piece (c ∷ cs))) cs kept.1))

  run-nameable : (text : List ℕ) → AreAll is_kept text → AreAll is_nameable (run_values piece value text)
  unfolding run_values
  run-nameable text kept = within-nameable 0 text kept

pub name-nameable : (text : List ℕ) → AreAll is_kept text → AreAll is_nameable (name_value text)
name-nameable text kept = run-nameable name_piece_length name_piece_value name_piece-nameable text kept

pub url-nameable : (text : List ℕ) → AreAll is_kept text → AreAll is_nameable (url_value text)
url-nameable text kept = run-nameable url_piece_length name_piece_value name_piece-nameable text kept

pub string-nameable : (quote : ℕ) (text : List ℕ) → AreAll is_kept text → AreAll is_nameable (string_value quote text)
string-nameable quote text kept = run-nameable (string_piece_length quote) string_piece_value string_piece-nameable text kept

-- a name that is read isn't empty
these-some : (n : ℕ) (c : ℕ) (cs : List ℕ) → 0 < n → 0 < length (these_if n (c ∷ cs))
these-some zero c cs some = absurd (omega arith)
these-some (suc n) c cs some = omega arith

piece-some : (text : List ℕ) → 0 < name_piece_length text → 0 < length (name_value text)
unfolding run_values name_piece_value name_piece_length
piece-some [] some = absurd (omega arith)
piece-some (c ∷ cs) some = these-some (name_piece_length (c ∷ cs)) _ _ some

pub name-some : (text : List ℕ) → begins_name text ≡ true → 0 < length (name_value text)
name-some text begins = piece-some text (name_piece_length-positive text begins)

escape_piece : (ident escape : Bool) (n : ℕ) → (ident || escape) ≡ true → 0 < n → 0 < (if ident then 1 else (if escape then n else 0))
escape_piece true escape n begins some = omega arith
escape_piece false true n begins some = some
escape_piece false false n begins some = cc

pub piece-name-some : (text : List ℕ) → (begins_by is_ident_code_point text || begins_escape text) ≡ true → 0 < length (name_value text)
unfolding name_piece_length
piece-name-some text begins = piece-some text (escape_piece (begins_by is_ident_code_point text) (begins_escape text) (escape_length text) begins (escape_length-positive text))

-- an ident code point stands for itself
name_value-ident : (c : ℕ) (cs : List ℕ) → is_ident_code_point c ≡ true → name_value (c ∷ cs) ≡ c ∷ name_value cs
unfolding run_values name_piece_length name_piece_value
name_value-ident c cs ident = let other : (c == reverse_solidus) ≡ false = grind (arith, nat_tests) in rw (ident, other) refl

digit-unnamed : (c : ℕ) (cs : List ℕ) → is_ascii_digit c ≡ true → is_no_identifier (c ∷ cs) ≡ true
digit-unnamed c [] digit = rw digit refl
digit-unnamed c (d ∷ cs) digit = rw digit refl

hyphen_digit-unnamed : (d : ℕ) (cs : List ℕ) → is_ascii_digit d ≡ true → is_no_identifier (hyphen ∷ d ∷ cs) ≡ true
hyphen_digit-unnamed d cs digit = rw digit refl

no_piece : (c : ℕ) (cs : List ℕ) → is_ident_code_point c ≡ false → begins_escape (c ∷ cs) ≡ false → name_piece_length (c ∷ cs) ≡ 0
unfolding name_piece_length
no_piece c cs ident escape = rw (ident, escape) refl

no_piece_at_end : name_piece_length [] ≡ 0
unfolding name_piece_length
no_piece_at_end = refl

ident_by_tests : (ident start escape more : Bool) → (ident || escape) ≡ true → (start || escape || more) ≡ false → ident ≡ true
ident_by_tests true start escape more begins fails = refl
ident_by_tests false true true more begins fails = cc
ident_by_tests false true false more begins fails = cc
ident_by_tests false false true more begins fails = cc
ident_by_tests false false false more begins fails = cc

start_by_tests : (start escape more : Bool) → (start || escape || more) ≡ false → start ≡ false
start_by_tests true escape more fails = cc
start_by_tests false escape more fails = refl

-- behind a `-` that begins no name
behind_hyphen : (text : List ℕ) → begins_name (hyphen ∷ text) ≡ false → is_no_identifier (hyphen ∷ name_value text) ≡ true
unfolding begins_name
behind_hyphen [] fails = rw (run_values-end name_piece_length name_piece_value [] no_piece_at_end) refl
behind_hyphen (d ∷ ds) fails =
    let parts = neither (d == hyphen || is_ident_start d) (begins_escape (d ∷ ds)) fails in
    let first : (d == hyphen || is_ident_start d) ≡ false = parts.0 in
    bool_cases (is_ascii_digit d)
    (λ digit. rw (name_value-ident d ds (grind (arith, nat_tests))) (hyphen_digit-unnamed d (name_value ds) digit))
    (λ other. rw (run_values-end name_piece_length name_piece_value (d ∷ ds) (no_piece d ds (grind (arith, nat_tests)) parts.1)) refl)

-- the name of a hash that is no id
pub unnamed : (text : List ℕ) → (begins_by is_ident_code_point text || begins_escape text) ≡ true → begins_name text ≡ false → is_no_identifier (name_value text) ≡ true
unfolding begins_name
unnamed [] begins fails = cc
unnamed (c ∷ cs) begins fails =
    let ident : is_ident_code_point c ≡ true = ident_by_tests (is_ident_code_point c) (is_ident_start c) (begins_escape (c ∷ cs)) _ begins fails in
    rw (name_value-ident c cs ident)
    (bool_cases (is_ascii_digit c)
    (λ digit. digit-unnamed c (name_value cs) digit)
    (λ other.
    let start : is_ident_start c ≡ false = start_by_tests (is_ident_start c) (begins_escape (c ∷ cs)) _ fails in
    let hyphen' : c ≡ hyphen = eqb-true c hyphen (grind (arith, nat_tests)) in
    let fails' : begins_name (hyphen ∷ cs) ≡ false = ap (λ (x : ℕ). begins_name (x ∷ cs)) (sym hyphen') ∙ fails in
    rw hyphen' (behind_hyphen cs fails')))
