-- Each token of a text is well formed.
use Rattle.std.proofs.Common.{◌≡◌, ℕ, inl, ◌<◌, List, [], ◌∷◌, ◌++◌, length, take, drop, refl, ◌∙◌, ap, subst, arith, append-nil, length-take-le}
use Rattle.std.specs.Prelude.{Bool, true, false, not, ◌||◌, ◌&&◌, ◌==◌, Option, None, Some, MatchOption, ⊤, All, chars}
use Rattle.std.specs.Option.{option_to_list}
use Rattle.std.specs.Char.{is_ascii_digit}
use Rattle.std.proofs.Math.Utf8.{scalar, scalars}
use Rattle.std.proofs.lemmas.Str.{scalars-chars}
use Rattle.std.proofs.lemmas.Bool.Decides.{nat_tests}
use Rattle.std.proofs.lemmas.List.Elements.{All-nil, All-cons, All-contains, All-head, All-tail}
use Rattle.std.proofs.Math.Seq.{drop-append_seam}
use Rattle.cv_spec_text.specs.declared.token.Token.{Token}
use Rattle.cv_spec_text.specs.declared.token.Token.TheVariants.{Hash}
use Rattle.cv_spec_text.specs.Characters.{line_feed, form_feed, carriage_return, exclamation_mark, number_sign, percent_sign, left_parenthesis, right_parenthesis, asterisk, comma, hyphen, solidus, colon, semicolon, less_than_sign, greater_than_sign, commercial_at, left_square_bracket, right_square_bracket, left_curly_bracket, right_curly_bracket, is_whitespace, is_quote, is_ident_start, is_ident_code_point, begins_by, begins_with}
use Rattle.cv_spec_text.specs.Text.{preprocessed, code_points}
use Rattle.cv_spec_text.specs.Numbers.{number_length, begins_number}
use Rattle.cv_spec_text.specs.Names.{begins_escape, name_length, name_value, begins_name}
use Rattle.cv_spec_text.specs.Strings.{string_length}
use Rattle.cv_spec_text.specs.Urls.{whitespace_length, url_length, is_closed, is_url_name}
use Rattle.cv_spec_text.specs.Tokens.{Row, begins_pair, string_row, hash_row, number_row, url_body_row, url_row, name_row, single, first_row, tokens}
use Rattle.cv_spec_text.specs.Splits.{Spelling, IsSplit, tokens_spelt, IsSpelt}
use Rattle.cv_spec_text.proofs.Rows.{if_case}
use Rattle.cv_spec_text.proofs.Splits.{tokens_are_split}
use Rattle.cv_text_laws.specs.NumberSpellings.{IsNumberSpelling}
use Rattle.cv_text_laws.proofs.Tests.{bool_cases, both}
use Rattle.cv_text_laws.proofs.Numbers.{number_read, spelling_in_front, within_text, no_number_is_missed}
use Rattle.cv_tokser.proofs.IdentsBack.{is_no_identifier}
use Rattle.cv_tokser.proofs.WellFormed.{is_kept, AreAll, AreAll-drop, AreAll-take, IsName, IsSpelling, IsWellFormed, AreWellFormed}
use Rattle.cv_tokser.proofs.Nameable.{name-nameable, url-nameable, string-nameable, name-some, piece-name-some, unnamed}

-- the token that a row gives, if it gives one, is well formed
abbrev GivesWellFormed : Row → Type 0
GivesWellFormed row = MatchOption row.1 ⊤ IsWellFormed

name_read : (text : List ℕ) → AreAll is_kept text → begins_name text ≡ true → IsName (name_value text)
name_read text kept begins = record { some = name-some text begins; nameable = name-nameable text kept }

-- a number that is read is one from its front to its end
spelling_read : (text : List ℕ) → AreAll is_kept text → begins_number text ≡ true → IsSpelling (take (number_length text) text)
spelling_read text kept begins =
    let number = take (number_length text) text in
    let some : 0 < number_length text = grind (arith, nat_tests) in
    let size : length number ≡ number_length text = length-take-le (number_length text) text (within_text text) in
    let least = (spelling_in_front number [] (number_read text some)).1 in
    let most = within_text number in
    let whole : number_length (number ++ []) ≡ number_length number = ap number_length (append-nil number) in
    record {
      number = record { some = omega arith; all = omega (arith, least, most, whole) };
      kept = AreAll-take is_kept (number_length text) text kept;
    }

string_row-well : (quote : ℕ) (rest : List ℕ) → AreAll is_kept rest → GivesWellFormed (string_row quote rest)
unfolding string_row
string_row-well quote rest kept =
    let after = drop (string_length quote rest) rest in
    if_case GivesWellFormed (begins_with quote after) (λ _. string-nameable quote rest kept)
    (λ _. if_case GivesWellFormed (begins_with line_feed after) (λ _. tt) (λ _. string-nameable quote rest kept))

hash-well : (name : List ℕ) (id : Bool) → IsName name → (id ≡ false → is_no_identifier name ≡ true) → IsWellFormed (Hash name id)
hash-well name true is no_id = is
hash-well name false is no_id = (is, no_id refl)

hash_row-well : (rest : List ℕ) → AreAll is_kept rest → (begins_by is_ident_code_point rest || begins_escape rest) ≡ true → GivesWellFormed (hash_row rest)
unfolding hash_row
hash_row-well rest kept begins =
    hash-well (name_value rest) (begins_name rest) (record { some = piece-name-some rest begins; nameable = name-nameable rest kept }) (unnamed rest begins)

number_row-well : (text : List ℕ) → AreAll is_kept text → begins_number text ≡ true → GivesWellFormed (number_row text)
unfolding number_row
number_row-well text kept begins =
    let rest = drop (number_length text) text in
    let number = spelling_read text kept begins in
    if_case GivesWellFormed (begins_name rest) (λ named. (number, name_read rest (AreAll-drop is_kept (number_length text) text kept) named))
    (λ _. if_case GivesWellFormed (begins_with percent_sign rest) (λ _. number) (λ _. number))

url_body_row-well : (text : List ℕ) → AreAll is_kept text → GivesWellFormed (url_body_row text)
unfolding url_body_row
url_body_row-well text kept =
    let after = drop (url_length text) text in
    if_case GivesWellFormed (is_closed (drop (whitespace_length after) after)) (λ _. url-nameable text kept) (λ _. tt)

url_row-well : (name rest : List ℕ) → IsName name → AreAll is_kept rest → GivesWellFormed (url_row name rest)
unfolding url_row
url_row-well name rest is kept =
    let inner = drop (whitespace_length rest) rest in
    if_case GivesWellFormed (begins_by is_quote inner) (λ _. is) (λ _. url_body_row-well inner (AreAll-drop is_kept (whitespace_length rest) rest kept))

name_row-well : (text : List ℕ) → AreAll is_kept text → begins_name text ≡ true → GivesWellFormed (name_row text)
unfolding name_row
name_row-well text kept begins =
    let rest = drop (name_length text) text in
    let name = name_read text kept begins in
    if_case GivesWellFormed (begins_with left_parenthesis rest)
    (λ _. if_case GivesWellFormed (is_url_name (name_value text))
    (λ _. url_row-well (name_value text) (drop 1 rest) name (AreAll-drop is_kept 1 rest (AreAll-drop is_kept (name_length text) text kept)))
    (λ _. name))
    (λ _. name)

-- a code point that no other row takes
single-well : (c : ℕ) → is_kept c ≡ true → (is_whitespace c || is_quote c || is_ascii_digit c || is_ident_start c) ≡ false → IsWellFormed (single c)
unfolding single
single-well c kept plain =
    let P = IsWellFormed in
    if_case P (c == left_parenthesis) (λ _. tt)
    (λ a. if_case P (c == right_parenthesis) (λ _. tt)
    (λ b. if_case P (c == left_square_bracket) (λ _. tt)
    (λ d. if_case P (c == right_square_bracket) (λ _. tt)
    (λ e. if_case P (c == left_curly_bracket) (λ _. tt)
    (λ f. if_case P (c == right_curly_bracket) (λ _. tt)
    (λ g. if_case P (c == comma) (λ _. tt)
    (λ h. if_case P (c == colon) (λ _. tt)
    (λ i. if_case P (c == semicolon) (λ _. tt)
    (λ j. record { kept = kept; plain = plain; single = rw (a, b, d, e, f, g, h, i, j) refl })))))))))

-- one digit is a number
digit_spelling : (c : ℕ) → is_ascii_digit c ≡ true → IsNumberSpelling (c ∷ [])
digit_spelling c digit = record {
  sign = [];
  mantissa = c ∷ [];
  exponent = [];
  parts = refl;
  signed = inl refl;
  number = inl (record { some = omega arith; digits = All-cons (λ d. is_ascii_digit d ≡ true) c [] digit (All-nil (λ d. is_ascii_digit d ≡ true)) });
  power = inl refl;
}

no_digit_first : (c : ℕ) (cs : List ℕ) → begins_number (c ∷ cs) ≡ false → is_ascii_digit c ≡ false
no_digit_first c cs none =
    bool_cases (is_ascii_digit c)
    (λ digit. absurd (no_number_is_missed (c ∷ []) cs none (digit_spelling c digit)))
    (λ other. other)

no_start_first : (c : ℕ) (cs : List ℕ) → begins_name (c ∷ cs) ≡ false → is_ident_start c ≡ false
unfolding begins_name
no_start_first c cs none = bool_cases (is_ident_start c) (λ start. let named : begins_name (c ∷ cs) ≡ true = rw start refl in cc) (λ other. other)

all_fail : (a b c d : Bool) → a ≡ false → b ≡ false → c ≡ false → d ≡ false → (a || b || c || d) ≡ false
all_fail true b c d e f g h = cc
all_fail false true c d e f g h = cc
all_fail false false true d e f g h = cc
all_fail false false false d e f g h = h

first_row-well : (text : List ℕ) → AreAll is_kept text → GivesWellFormed (first_row text)
unfolding first_row
first_row-well [] kept = tt
first_row-well (c ∷ cs) kept =
    let P = GivesWellFormed in
    if_case P (c == solidus && begins_with asterisk cs) (λ _. tt)
    (λ _. if_case P (is_whitespace c) (λ _. tt)
    (λ white. if_case P (is_quote c) (λ _. string_row-well c cs kept.1)
    (λ quote. if_case P (c == number_sign && (begins_by is_ident_code_point cs || begins_escape cs)) (λ hash. hash_row-well cs kept.1 (both _ _ hash).1)
    (λ _. if_case P (begins_number (c ∷ cs)) (λ number. number_row-well (c ∷ cs) kept number)
    (λ number. if_case P (c == hyphen && begins_pair hyphen greater_than_sign cs) (λ _. tt)
    (λ _. if_case P (begins_name (c ∷ cs)) (λ name. name_row-well (c ∷ cs) kept name)
    (λ name. if_case P (c == less_than_sign && (begins_with exclamation_mark cs && begins_pair hyphen hyphen (drop 1 cs))) (λ _. tt)
    (λ _. if_case P (c == commercial_at && begins_name cs) (λ at'. name_read cs kept.1 (both _ _ at').1)
    (λ _. single-well c kept.0 (all_fail _ _ _ _ white quote (no_digit_first c cs number) (no_start_first c cs name)))))))))))

-- each token of a split
option-well : (token : Option Token) (all : List Token) → MatchOption token ⊤ IsWellFormed → All IsWellFormed all → All IsWellFormed (option_to_list token ++ all)
option-well None all well wells = wells
option-well (Some token) all well wells = All-cons IsWellFormed token all well wells

rest_kept : (spelling rest text : List ℕ) → text ≡ spelling ++ rest → AreAll is_kept text → AreAll is_kept rest
rest_kept spelling rest text whole kept =
    subst (AreAll is_kept) (ap (λ (l : List ℕ). drop (length spelling) l) whole ∙ drop-append_seam spelling rest) (AreAll-drop is_kept (length spelling) text kept)

split-well : (text : List ℕ) (spellings : List Spelling) → AreAll is_kept text → IsSplit text spellings → All IsWellFormed (tokens_spelt spellings)
split-well text [] kept split = All-nil IsWellFormed
split-well text ((spelling, token) ∷ spellings) kept (rest, whole, some, found, split) =
    option-well token (tokens_spelt spellings) (subst GivesWellFormed found (first_row-well text kept))
    (split-well rest spellings (rest_kept spelling rest text whole kept) split)

-- what preprocessing keeps
line_feed_kept : is_kept line_feed ≡ true
line_feed_kept = refl

kept_by_tests : (s z f r : Bool) → s ≡ true → z ≡ false → f ≡ false → r ≡ false → (s && not (z || f || r)) ≡ true
kept_by_tests true true f r s' z' f' r' = cc
kept_by_tests true false true r s' z' f' r' = cc
kept_by_tests true false false true s' z' f' r' = cc
kept_by_tests true false false false s' z' f' r' = refl
kept_by_tests false z f r s' z' f' r' = cc

preprocessed-kept : (cs : List ℕ) → scalars cs ≡ true → AreAll is_kept (preprocessed cs)
preprocessed-kept [] are = tt
preprocessed-kept (c ∷ cs) are =
    let parts = both (scalar c) (scalars cs) are in
    let rest = preprocessed-kept cs parts.1 in
    let P = AreAll is_kept in
    if_case P (c == carriage_return) (λ _. if_case P (begins_with line_feed cs) (λ _. rest) (λ _. (line_feed_kept, rest)))
    (λ a. if_case P (c == form_feed) (λ _. (line_feed_kept, rest))
    (λ b. if_case P (c == 0) (λ _. (refl, rest))
    (λ d. (kept_by_tests (scalar c) (c == 0) (c == form_feed) (c == carriage_return) parts.0 d b a, rest))))

-- Each spelt token is well formed.
spelt-well : (token : Token) → IsSpelt token → IsWellFormed token
spelt-well token (text, utf8, within) =
    let (spellings, split, same) = tokens_are_split.exists (code_points text) in
    let kept : AreAll is_kept (code_points text) = preprocessed-kept (chars text) (scalars-chars text utf8) in
    All-contains IsWellFormed (tokens text) token (subst (λ (l : List Token). All IsWellFormed l) same (split-well (code_points text) spellings kept split)) within

pub are_well_formed : (list : List Token) → All IsSpelt list → AreWellFormed list
are_well_formed [] all = tt
are_well_formed (token ∷ rest) all = (spelt-well token (All-head IsSpelt token rest all), are_well_formed rest (All-tail IsSpelt token rest all))
