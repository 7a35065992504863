-- Which row is the first that fits.
use Rattle.std.proofs.Common.{◌≡◌, ℕ, ◌+◌, ◌<◌, List, [], ◌∷◌, drop, refl, ◌∙◌, arith}
use Rattle.std.specs.Prelude.{Bool, true, false, not, ◌||◌, ◌&&◌, ◌==◌, Some}
use Rattle.std.specs.Char.{is_ascii_digit}
use Rattle.std.proofs.lemmas.Bool.Decides.{nat_tests}
use Rattle.cv_spec_text.specs.declared.token.Token.TheVariants.{At}
use Rattle.cv_spec_text.specs.Characters.{full_stop, solidus, asterisk, number_sign, hyphen, greater_than_sign, less_than_sign, exclamation_mark, commercial_at, is_whitespace, is_quote, is_sign, is_ident_code_point, begins_by, begins_with}
use Rattle.cv_spec_text.specs.Numbers.{number_length}
use Rattle.cv_spec_text.specs.Names.{begins_escape, name_length, name_value, begins_name}
use Rattle.cv_spec_text.specs.Tokens.{begins_pair, hash_row, name_row, number_row, single, first_row}
use Rattle.cv_text_laws.proofs.Tests.{if_false, if_true, bool_cases}
use Rattle.cv_tokser.proofs.NameStarts.{may_start_name, name_start, name_or_number, no_number}

-- the text begins with `-->`
abbrev pub begins_cdc : List ℕ → Bool
begins_cdc [] = false
begins_cdc (c ∷ cs) = c == hyphen && begins_pair hyphen greater_than_sign cs

-- where a name begins and no `-->` stands, a name is read
pub first_row-name : (text : List ℕ) → begins_name text ≡ true → begins_cdc text ≡ false → first_row text ≡ name_row text
unfolding first_row begins_name
first_row-name [] name cdc = cc
first_row-name (c ∷ cs) name cdc =
    let start : may_start_name c ≡ true = name_start c cs name in
    let comment : (c == solidus) ≡ false = grind (arith, nat_tests) in
    let hash : (c == number_sign) ≡ false = grind (arith, nat_tests) in
    if_false (c == solidus && begins_with asterisk cs) _ _ (rw comment refl)
    ∙ if_false (is_whitespace c) _ _ (grind (arith, nat_tests))
    ∙ if_false (is_quote c) _ _ (grind (arith, nat_tests))
    ∙ if_false (c == number_sign && (begins_by is_ident_code_point cs || begins_escape cs)) _ _ (rw hash refl)
    ∙ if_false (not (number_length (c ∷ cs) == 0)) _ _ (rw (name_or_number (c ∷ cs) name) refl)
    ∙ if_false (c == hyphen && begins_pair hyphen greater_than_sign cs) _ _ cdc
    ∙ if_true (begins_name (c ∷ cs)) _ _ name

-- what a number begins with
abbrev pub may_start_number : ℕ → Bool
may_start_number c = is_sign c || (is_ascii_digit c || c == full_stop)

pub number_start : (c : ℕ) (cs : List ℕ) → 0 < number_length (c ∷ cs) → may_start_number c ≡ true
number_start c cs some =
    bool_cases (may_start_number c) (λ holds. holds)
    (λ fails. let none = no_number c cs (grind (arith, nat_tests)) (grind (arith, nat_tests)) (grind (arith, nat_tests)) in absurd (omega (arith, none, some)))

above_zero : (n : ℕ) → 0 < n → not (n == 0) ≡ true
above_zero n some = grind (arith, nat_tests)

-- where a number stands, a number is read
pub first_row-number : (c : ℕ) (cs : List ℕ) → 0 < number_length (c ∷ cs) → first_row (c ∷ cs) ≡ number_row (c ∷ cs)
unfolding first_row
first_row-number c cs some =
    let start : may_start_number c ≡ true = number_start c cs some in
    let comment : (c == solidus) ≡ false = grind (arith, nat_tests) in
    let hash : (c == number_sign) ≡ false = grind (arith, nat_tests) in
    if_false (c == solidus && begins_with asterisk cs) _ _ (rw comment refl)
    ∙ if_false (is_whitespace c) _ _ (grind (arith, nat_tests))
    ∙ if_false (is_quote c) _ _ (grind (arith, nat_tests))
    ∙ if_false (c == number_sign && (begins_by is_ident_code_point cs || begins_escape cs)) _ _ (rw hash refl)
    ∙ if_true (not (number_length (c ∷ cs) == 0)) _ _ (above_zero _ some)

-- `#` in front of a name
pub first_row-hash : (cs : List ℕ) → (begins_by is_ident_code_point cs || begins_escape cs) ≡ true → first_row (number_sign ∷ cs) ≡ hash_row cs
unfolding first_row
first_row-hash cs named = if_true (begins_by is_ident_code_point cs || begins_escape cs) _ _ named

-- `@` in front of a name
pub first_row-at : (cs : List ℕ) → begins_name cs ≡ true → first_row (commercial_at ∷ cs) ≡ (1 + name_length cs, Some (At (name_value cs)))
unfolding first_row begins_name
first_row-at cs named =
    if_false (not (number_length (commercial_at ∷ cs) == 0)) _ _ (rw (no_number commercial_at cs refl refl refl) refl)
    ∙ if_true (begins_name cs) _ _ named

-- what keeps a code point from being a token by itself
pub record StandsAlone (c : ℕ) (rest : List ℕ) : Type 0 where
  pub comment : (c == solidus && begins_with asterisk rest) ≡ false
  pub whitespace : is_whitespace c ≡ false
  pub quote : is_quote c ≡ false
  pub hash : (c == number_sign && (begins_by is_ident_code_point rest || begins_escape rest)) ≡ false
  pub number : number_length (c ∷ rest) ≡ 0
  pub cdc : begins_cdc (c ∷ rest) ≡ false
  pub name : begins_name (c ∷ rest) ≡ false
  pub cdo : (c == less_than_sign && (begins_with exclamation_mark rest && begins_pair hyphen hyphen (drop 1 rest))) ≡ false
  pub «at» : (c == commercial_at && begins_name rest) ≡ false

pub first_row-single : (c : ℕ) (rest : List ℕ) → StandsAlone c rest → first_row (c ∷ rest) ≡ (1, Some (single c))
unfolding first_row
first_row-single c rest alone =
    if_false (c == solidus && begins_with asterisk rest) _ _ alone.comment
    ∙ if_false (is_whitespace c) _ _ alone.whitespace
    ∙ if_false (is_quote c) _ _ alone.quote
    ∙ if_false (c == number_sign && (begins_by is_ident_code_point rest || begins_escape rest)) _ _ alone.hash
    ∙ if_false (not (number_length (c ∷ rest) == 0)) _ _ (rw alone.number refl)
    ∙ if_false (c == hyphen && begins_pair hyphen greater_than_sign rest) _ _ alone.cdc
    ∙ if_false (begins_name (c ∷ rest)) _ _ alone.name
    ∙ if_false (c == less_than_sign && (begins_with exclamation_mark rest && begins_pair hyphen hyphen (drop 1 rest))) _ _ alone.cdo
    ∙ if_false (c == commercial_at && begins_name rest) _ _ alone.«at»
