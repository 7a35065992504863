-- Tokens without a text of their own, and White, are read again.
use Rattle.std.proofs.Common.{◌≡◌, ℕ, List, [], ◌∷◌, ◌++◌, refl, arith}
use Rattle.std.specs.Prelude.{Bool, true, false, not, ◌||◌, ◌==◌, Some, codes}
use Rattle.std.specs.Char.{is_ascii_digit}
use Rattle.std.proofs.lemmas.Bool.Decides.{nat_tests}
use Rattle.cv_spec_text.specs.declared.token.Bracket.{Bracket}
use Rattle.cv_spec_text.specs.declared.token.Bracket.TheVariants.{Round, Square, Curly}
use Rattle.cv_spec_text.specs.declared.token.Token.TheVariants.{White, Cdo, Cdc, Colon, Semicolon, Comma, Open, Close}
use Rattle.cv_spec_text.specs.Characters.{space, full_stop, number_sign, hyphen, solidus, less_than_sign, commercial_at, reverse_solidus, left_parenthesis, right_parenthesis, left_square_bracket, right_square_bracket, left_curly_bracket, right_curly_bracket, comma, colon, semicolon, is_whitespace, is_quote, is_sign, is_ident_start, begins_by}
use Rattle.cv_spec_text.specs.Numbers.{number_length, mantissa_length, fraction_length}
use Rattle.cv_spec_text.specs.Names.{begins_name}
use Rattle.cv_spec_text.specs.Tokens.{single, first_row}
use Rattle.cv_spec_text.specs.Printing.{opening, closing}
use Rattle.cv_tokser.proofs.NameStarts.{no_number}
use Rattle.cv_tokser.proofs.FirstRows.{StandsAlone, first_row-single}

-- a space that no whitespace follows
pub white_back : (rest : List ℕ) → begins_by is_whitespace rest ≡ false → first_row (space ∷ rest) ≡ (1, Some White)
unfolding first_row
white_back [] other = refl
white_back (c ∷ cs) other = rw other refl

pub cdo_back : (rest : List ℕ) → first_row (codes "<!--" ++ rest) ≡ (4, Some Cdo)
unfolding first_row begins_name number_length mantissa_length fraction_length
cdo_back rest = refl

pub cdc_back : (rest : List ℕ) → first_row (codes "-->" ++ rest) ≡ (3, Some Cdc)
unfolding first_row number_length mantissa_length fraction_length
cdc_back rest = refl

-- a code point that begins nothing else, whatever follows
abbrev stands_alone : ℕ → Bool
stands_alone c =
    not (is_whitespace c || is_quote c || is_sign c || is_ascii_digit c || c == full_stop || is_ident_start c || c == reverse_solidus
    || c == solidus || c == number_sign || c == less_than_sign || c == commercial_at)

alone : (c : ℕ) (rest : List ℕ) → stands_alone c ≡ true → StandsAlone c rest
unfolding begins_name
alone c rest stands =
    let comment : (c == solidus) ≡ false = grind (arith, nat_tests) in
    let hash : (c == number_sign) ≡ false = grind (arith, nat_tests) in
    let hyphen' : (c == hyphen) ≡ false = grind (arith, nat_tests) in
    let start : is_ident_start c ≡ false = grind (arith, nat_tests) in
    let escape : (c == reverse_solidus) ≡ false = grind (arith, nat_tests) in
    let less : (c == less_than_sign) ≡ false = grind (arith, nat_tests) in
    let at' : (c == commercial_at) ≡ false = grind (arith, nat_tests) in
    record {
      comment = rw comment refl;
      whitespace = grind (arith, nat_tests);
      quote = grind (arith, nat_tests);
      hash = rw hash refl;
      number = no_number c rest (grind (arith, nat_tests)) (grind (arith, nat_tests)) (grind (arith, nat_tests));
      cdc = rw hyphen' refl;
      name = rw (start, escape, hyphen') refl;
      cdo = rw less refl;
      «at» = rw at' refl;
    }

-- a code point that is this token by itself
pub single_back : (c : ℕ) (rest : List ℕ) → stands_alone c ≡ true → first_row (c ∷ rest) ≡ (1, Some (single c))
single_back c rest stands = first_row-single c rest (alone c rest stands)

pub colon_back : (rest : List ℕ) → first_row (colon ∷ rest) ≡ (1, Some Colon)
unfolding single
colon_back rest = single_back colon rest refl

pub semicolon_back : (rest : List ℕ) → first_row (semicolon ∷ rest) ≡ (1, Some Semicolon)
unfolding single
semicolon_back rest = single_back semicolon rest refl

pub comma_back : (rest : List ℕ) → first_row (comma ∷ rest) ≡ (1, Some Comma)
unfolding single
comma_back rest = single_back comma rest refl

pub open_back : (bracket : Bracket) (rest : List ℕ) → first_row (opening bracket ∷ rest) ≡ (1, Some (Open bracket))
unfolding single
open_back Round rest = single_back left_parenthesis rest refl
open_back Square rest = single_back left_square_bracket rest refl
open_back Curly rest = single_back left_curly_bracket rest refl

pub close_back : (bracket : Bracket) (rest : List ℕ) → first_row (closing bracket ∷ rest) ≡ (1, Some (Close bracket))
unfolding single
close_back Round rest = single_back right_parenthesis rest refl
close_back Square rest = single_back right_square_bracket rest refl
close_back Curly rest = single_back right_curly_bracket rest refl
