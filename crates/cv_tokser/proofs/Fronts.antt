-- What a printed token begins with, as far as the tokens before it care.
use Rattle.std.proofs.Common.{◌≡◌, ℕ, ◌<◌, List, [], ◌∷◌, drop, refl, arith}
use Rattle.std.specs.Prelude.{Bool, true, false, not, ◌||◌, ◌==◌}
use Rattle.std.specs.Char.{is_ascii_digit}
use Rattle.std.proofs.lemmas.Bool.Decides.{nat_tests}
use Rattle.cv_spec_text.specs.declared.token.Token.{Token}
use Rattle.cv_spec_text.specs.Characters.{exclamation_mark, percent_sign, asterisk, hyphen, full_stop, plus_sign, reverse_solidus, left_parenthesis, greater_than_sign, is_whitespace, is_sign, is_ident_start, begins_by, begins_with}
use Rattle.cv_spec_text.specs.Numbers.{digits_length, sign_length, fraction_length, exponent_length, number_length, is_exponent_sign}
use Rattle.cv_spec_text.specs.Names.{name_piece_length, begins_name}
use Rattle.cv_spec_text.specs.Joins.{is_ident_like, is_numeric, is_delim, is_cdc, is_open_round, begins_like_name_or_number}
use Rattle.cv_spec_text.specs.Printing.{is_white}
use Rattle.cv_text_laws.proofs.Tests.{bool_cases, contrary}
use Rattle.cv_text_laws.proofs.Digits.{prefix_len-none}
use Rattle.cv_tokser.proofs.NameStarts.{may_start_name, name_start, name_or_number}
use Rattle.cv_tokser.proofs.FirstRows.{may_start_number, number_start}

-- What a text that begins with this token doesn't begin with.
pub record Front (b : Token) (text : List ℕ) : Type 0 where
  pub piece : begins_like_name_or_number b ≡ false → name_piece_length text ≡ 0
  pub signed : begins_like_name_or_number b ≡ false → digits_length (drop (sign_length text) text) ≡ 0
  pub parenthesis : is_open_round b ≡ false → begins_with left_parenthesis text ≡ false
  pub greater : is_delim greater_than_sign b ≡ false → begins_with greater_than_sign text ≡ false
  pub digit : is_numeric b ≡ false → begins_by is_ascii_digit text ≡ false
  pub fraction : is_numeric b ≡ false → fraction_length text ≡ 0
  pub exponent : is_ident_like b ≡ false → exponent_length text ≡ 0
  pub name : is_ident_like b ≡ false → is_cdc b ≡ false → begins_name text ≡ false
  pub percent : is_delim percent_sign b ≡ false → begins_with percent_sign text ≡ false
  pub asterisk : is_delim asterisk b ≡ false → begins_with asterisk text ≡ false
  pub exclamation : is_delim exclamation_mark b ≡ false → begins_with exclamation_mark text ≡ false
  pub whitespace : is_white b ≡ false → begins_by is_whitespace text ≡ false

like_name_by_tests : (a b c d : Bool) → a ≡ true → (a || b || c || d) ≡ false → ⊥
like_name_by_tests true b c d holds fails = cc
like_name_by_tests false b c d holds fails = cc

like_name : (b : Token) → is_ident_like b ≡ true → begins_like_name_or_number b ≡ false → ⊥
like_name b holds fails = like_name_by_tests (is_ident_like b) _ _ _ holds fails

like_number_by_tests : (a b c d : Bool) → b ≡ true → (a || b || c || d) ≡ false → ⊥
like_number_by_tests true b c d holds fails = cc
like_number_by_tests false true c d holds fails = cc
like_number_by_tests false false c d holds fails = cc

like_number : (b : Token) → is_numeric b ≡ true → begins_like_name_or_number b ≡ false → ⊥
like_number b holds fails = like_number_by_tests (is_ident_like b) (is_numeric b) _ _ holds fails

no_fraction : (c : ℕ) (cs : List ℕ) → (c == full_stop) ≡ false → fraction_length (c ∷ cs) ≡ 0
unfolding fraction_length
no_fraction c cs other = rw other refl

no_exponent : (c : ℕ) (cs : List ℕ) → is_exponent_sign c ≡ false → exponent_length (c ∷ cs) ≡ 0
unfolding exponent_length
no_exponent c cs other = rw other refl

-- a token that begins with a name
pub name_front : (b : Token) (text : List ℕ) → is_ident_like b ≡ true → begins_name text ≡ true → Front b text
unfolding begins_name
name_front b [] named begins = cc
name_front b (c ∷ cs) named begins =
    let start : may_start_name c ≡ true = name_start c cs begins in
    record {
      piece = λ fails. absurd (like_name b named fails);
      signed = λ fails. absurd (like_name b named fails);
      parenthesis = λ _. grind (arith, nat_tests);
      greater = λ _. grind (arith, nat_tests);
      digit = λ _. grind (arith, nat_tests);
      fraction = λ _. no_fraction c cs (grind (arith, nat_tests));
      exponent = λ fails. contrary (is_ident_like b) named fails;
      name = λ fails _. contrary (is_ident_like b) named fails;
      percent = λ _. grind (arith, nat_tests);
      asterisk = λ _. grind (arith, nat_tests);
      exclamation = λ _. grind (arith, nat_tests);
      whitespace = λ _. grind (arith, nat_tests);
    }

not_both : (text : List ℕ) → 0 < number_length text → begins_name text ≡ false
not_both text some = bool_cases (begins_name text) (λ holds. absurd (omega (arith, some, name_or_number text holds))) (λ fails. fails)

-- a token that begins with a number
pub number_front : (b : Token) (c : ℕ) (cs : List ℕ) → is_numeric b ≡ true → 0 < number_length (c ∷ cs) → Front b (c ∷ cs)
number_front b c cs numeric some =
    let start : may_start_number c ≡ true = number_start c cs some in
    record {
      piece = λ fails. absurd (like_number b numeric fails);
      signed = λ fails. absurd (like_number b numeric fails);
      parenthesis = λ _. grind (arith, nat_tests);
      greater = λ _. grind (arith, nat_tests);
      digit = λ fails. contrary (is_numeric b) numeric fails;
      fraction = λ fails. contrary (is_numeric b) numeric fails;
      exponent = λ _. no_exponent c cs (grind (arith, nat_tests));
      name = λ _ _. not_both (c ∷ cs) some;
      percent = λ _. grind (arith, nat_tests);
      asterisk = λ _. grind (arith, nat_tests);
      exclamation = λ _. grind (arith, nat_tests);
      whitespace = λ _. grind (arith, nat_tests);
    }

-- A code point that is no letter and no digit, with what follows it.
pub record Symbol (b : Token) (c : ℕ) (rest : List ℕ) : Type 0 where
  pub start : is_ident_start c ≡ false
  pub number : is_ascii_digit c ≡ false
  pub escape : (c == reverse_solidus) ≡ false
  pub minus : (c == hyphen) ≡ true → begins_like_name_or_number b ≡ true
  pub name : is_cdc b ≡ false → begins_name (c ∷ rest) ≡ false
  pub plus : (c == plus_sign) ≡ true → begins_by is_ascii_digit rest ≡ false
  pub point : (c == full_stop) ≡ true → begins_by is_ascii_digit rest ≡ false
  pub parenthesis : (c == left_parenthesis) ≡ true → is_open_round b ≡ true
  pub greater : (c == greater_than_sign) ≡ true → is_delim greater_than_sign b ≡ true
  pub percent : (c == percent_sign) ≡ true → is_delim percent_sign b ≡ true
  pub asterisk : (c == asterisk) ≡ true → is_delim asterisk b ≡ true
  pub exclamation : (c == exclamation_mark) ≡ true → is_delim exclamation_mark b ≡ true
  pub whitespace : is_whitespace c ≡ true → is_white b ≡ true

-- what follows from a test fails with it
pub not_so : (a b : Bool) → (a ≡ true → b ≡ true) → b ≡ false → a ≡ false
not_so true b step fails = contrary b (step refl) fails
not_so false b step fails = refl

symbol_piece : (c : ℕ) (rest : List ℕ) → is_ident_start c ≡ false → is_ascii_digit c ≡ false → (c == reverse_solidus) ≡ false → (c == hyphen) ≡ false
    → name_piece_length (c ∷ rest) ≡ 0
unfolding name_piece_length
symbol_piece c rest start digit escape other = rw (start, digit, other, escape) refl

symbol_signed : (c : ℕ) (rest : List ℕ) → is_ascii_digit c ≡ false → (c == hyphen) ≡ false → ((c == plus_sign) ≡ true → begins_by is_ascii_digit rest ≡ false)
    → digits_length (drop (sign_length (c ∷ rest)) (c ∷ rest)) ≡ 0
symbol_signed c rest digit other plus =
    bool_cases (c == plus_sign)
    (λ is. rw is (prefix_len-none is_ascii_digit rest (plus is)))
    (λ differs. rw (differs, other) (rw digit refl))

pub symbol_fraction : (c : ℕ) (rest : List ℕ) → ((c == full_stop) ≡ true → begins_by is_ascii_digit rest ≡ false) → fraction_length (c ∷ rest) ≡ 0
unfolding fraction_length
symbol_fraction c rest point = bool_cases (c == full_stop) (λ is. rw (is, point is) refl) (λ other. rw other refl)

pub symbol_front : (b : Token) (c : ℕ) (rest : List ℕ) → Symbol b c rest → Front b (c ∷ rest)
symbol_front b c rest is =
    let start : is_ident_start c ≡ false = is.start in
    record {
      piece = λ fails. symbol_piece c rest is.start is.number is.escape (not_so (c == hyphen) _ is.minus fails);
      signed = λ fails. symbol_signed c rest is.number (not_so (c == hyphen) _ is.minus fails) is.plus;
      parenthesis = λ fails. not_so (c == left_parenthesis) _ is.parenthesis fails;
      greater = λ fails. not_so (c == greater_than_sign) _ is.greater fails;
      digit = λ _. is.number;
      fraction = λ _. symbol_fraction c rest is.point;
      exponent = λ _. no_exponent c rest (grind (arith, nat_tests));
      name = λ _ fails. is.name fails;
      percent = λ fails. not_so (c == percent_sign) _ is.percent fails;
      asterisk = λ fails. not_so (c == asterisk) _ is.asterisk fails;
      exclamation = λ fails. not_so (c == exclamation_mark) _ is.exclamation fails;
      whitespace = λ fails. not_so (is_whitespace c) _ is.whitespace fails;
    }

-- a code point that no token before it cares for
abbrev pub is_harmless : ℕ → Bool
is_harmless c =
    not (is_ident_start c || is_ascii_digit c || c == reverse_solidus || is_sign c || c == full_stop || c == left_parenthesis || c == greater_than_sign
    || c == percent_sign || c == asterisk || c == exclamation_mark || is_whitespace c)

pub no_name : (c : ℕ) (rest : List ℕ) → is_ident_start c ≡ false → (c == reverse_solidus) ≡ false → (c == hyphen) ≡ false → begins_name (c ∷ rest) ≡ false
unfolding begins_name
no_name c rest start escape other = rw (start, escape, other) refl

harmless_symbol : (b : Token) (c : ℕ) (rest : List ℕ) → is_harmless c ≡ true → Symbol b c rest
harmless_symbol b c rest harmless =
    let minus : (c == hyphen) ≡ false = grind (arith, nat_tests) in
    let plus : (c == plus_sign) ≡ false = grind (arith, nat_tests) in
    let point : (c == full_stop) ≡ false = grind (arith, nat_tests) in
    let open' : (c == left_parenthesis) ≡ false = grind (arith, nat_tests) in
    let greater : (c == greater_than_sign) ≡ false = grind (arith, nat_tests) in
    let percent : (c == percent_sign) ≡ false = grind (arith, nat_tests) in
    let times : (c == asterisk) ≡ false = grind (arith, nat_tests) in
    let mark : (c == exclamation_mark) ≡ false = grind (arith, nat_tests) in
    let white : is_whitespace c ≡ false = grind (arith, nat_tests) in
    let start : is_ident_start c ≡ false = grind (arith, nat_tests) in
    let escape : (c == reverse_solidus) ≡ false = grind (arith, nat_tests) in
    record {
      start = start;
      number = grind (arith, nat_tests);
      escape = escape;
      minus = λ holds. contrary (c == hyphen) holds minus;
      name = λ _. no_name c rest start escape minus;
      plus = λ holds. contrary (c == plus_sign) holds plus;
      point = λ holds. contrary (c == full_stop) holds point;
      parenthesis = λ holds. contrary (c == left_parenthesis) holds open';
      greater = λ holds. contrary (c == greater_than_sign) holds greater;
      percent = λ holds. contrary (c == percent_sign) holds percent;
      asterisk = λ holds. contrary (c == asterisk) holds times;
      exclamation = λ holds. contrary (c == exclamation_mark) holds mark;
      whitespace = λ holds. contrary (is_whitespace c) holds white;
    }

pub harmless_front : (b : Token) (c : ℕ) (rest : List ℕ) → is_harmless c ≡ true → Front b (c ∷ rest)
harmless_front b c rest harmless = symbol_front b c rest (harmless_symbol b c rest harmless)

-- the end of the text
pub end_front : (b : Token) → Front b []
unfolding name_piece_length fraction_length exponent_length begins_name
end_front b = record {
  piece = λ _. refl;
  signed = λ _. refl;
  parenthesis = λ _. refl;
  greater = λ _. refl;
  digit = λ _. refl;
  fraction = λ _. refl;
  exponent = λ _. refl;
  name = λ _ _. refl;
  percent = λ _. refl;
  asterisk = λ _. refl;
  exclamation = λ _. refl;
  whitespace = λ _. refl;
}
