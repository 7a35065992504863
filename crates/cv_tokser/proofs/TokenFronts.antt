-- What each printed token begins with.
use Rattle.std.proofs.Common.{◌≡◌, ℕ, ◌<◌, List, [], ◌∷◌, ◌++◌, length, take, refl, sym, ◌∙◌, ap, subst, arith, append_assoc}
use Rattle.std.specs.Prelude.{true, false, ◌||◌, ◌==◌, codes}
use Rattle.std.specs.Char.{is_ascii_digit}
use Rattle.std.proofs.lemmas.Bool.Decides.{nat_tests}
use Rattle.std.proofs.Math.Seq.{take-length}
use Rattle.cv_spec_text.specs.declared.token.Bracket.TheVariants.{Round, Square, Curly}
use Rattle.cv_spec_text.specs.declared.token.Token.{Token}
use Rattle.cv_spec_text.specs.declared.token.Token.TheVariants.{Ident, Function, At, Hash, Str, BadStr, Url, BadUrl, Delim, Number, Percentage, Dimension, White, Cdo, Cdc, Colon, Semicolon, Comma, Open, Close}
use Rattle.cv_spec_text.specs.Characters.{space, quotation_mark, number_sign, percent_sign, hyphen, less_than_sign, commercial_at, colon, semicolon, comma, reverse_solidus, left_parenthesis, right_parenthesis, left_square_bracket, right_square_bracket, left_curly_bracket, right_curly_bracket, is_whitespace, is_quote, is_ident_start}
use Rattle.cv_spec_text.specs.Numbers.{number_length}
use Rattle.cv_spec_text.specs.Names.{begins_name}
use Rattle.cv_spec_text.specs.Tokens.{single}
use Rattle.cv_spec_text.specs.Joins.{is_ident_like, is_numeric, begins_like_name_or_number}
use Rattle.cv_spec_text.specs.Printing.{identifier, name_rest, unit, printed}
use Rattle.cv_text_laws.proofs.Tests.{if_false, if_true, bool_cases, contrary}
use Rattle.cv_text_laws.specs.NumberSpellings.{IsNumberSpelling}
use Rattle.cv_text_laws.proofs.Numbers.{number_read, spelling_in_front}
use Rattle.cv_tokser.specs.Clean.{is_bad}
use Rattle.cv_tokser.proofs.NameStarts.{identifier_begins}
use Rattle.cv_tokser.proofs.NumbersBack.{IsNumber}
use Rattle.cv_tokser.proofs.WellFormed.{IsDelimiter, IsWellFormed}
use Rattle.cv_tokser.proofs.Fronts.{Front, Symbol, name_front, number_front, symbol_front, harmless_front}
use Rattle.cv_tokser.proofs.Ends.{EndsDelim, Ends}

-- a number stands in front, whatever follows it
number_in_front : (number rest : List ℕ) → IsNumber number → 0 < number_length (number ++ rest)
number_in_front number rest is =
    let all : take (number_length number) number ≡ number = ap (λ (n : ℕ). take n number) is.all ∙ take-length number in
    (spelling_in_front number rest (subst IsNumberSpelling all (number_read number (omega (arith, is.some, is.all))))).0

number_begins : (b : Token) (number rest : List ℕ) → IsNumber number → is_numeric b ≡ true → Front b (number ++ rest)
number_begins b [] rest is numeric = absurd (omega (arith, is.some))
number_begins b (c ∷ cs) rest is numeric = number_front b c (cs ++ rest) numeric (number_in_front (c ∷ cs) rest is)

identifier_front : (b : Token) (name rest : List ℕ) → is_ident_like b ≡ true → 0 < length name → Front b (identifier name ++ rest)
identifier_front b [] rest named some = absurd (omega (arith, some))
identifier_front b (c ∷ cs) rest named some = name_front b (identifier (c ∷ cs) ++ rest) named (identifier_begins c cs rest)

url_begins : (rest : List ℕ) → begins_name (codes "url(" ++ rest) ≡ true
unfolding begins_name
url_begins rest = refl

space_symbol : (rest : List ℕ) → Symbol White space rest
unfolding begins_name
space_symbol rest = record {
  start = refl;
  number = refl;
  escape = refl;
  minus = λ holds. cc;
  name = λ _. refl;
  plus = λ holds. cc;
  point = λ holds. cc;
  parenthesis = λ holds. cc;
  greater = λ holds. cc;
  percent = λ holds. cc;
  asterisk = λ holds. cc;
  exclamation = λ holds. cc;
  whitespace = λ _. refl;
}

parenthesis_symbol : (rest : List ℕ) → Symbol (Open Round) left_parenthesis rest
unfolding begins_name
parenthesis_symbol rest = record {
  start = refl;
  number = refl;
  escape = refl;
  minus = λ holds. cc;
  name = λ _. refl;
  plus = λ holds. cc;
  point = λ holds. cc;
  parenthesis = λ _. refl;
  greater = λ holds. cc;
  percent = λ holds. cc;
  asterisk = λ holds. cc;
  exclamation = λ holds. cc;
  whitespace = λ holds. cc;
}

cdc_symbol : (rest : List ℕ) → Symbol Cdc hyphen rest
cdc_symbol rest = record {
  start = refl;
  number = refl;
  escape = refl;
  minus = λ _. refl;
  name = λ fails. cc;
  plus = λ holds. cc;
  point = λ holds. cc;
  parenthesis = λ holds. cc;
  greater = λ holds. cc;
  percent = λ holds. cc;
  asterisk = λ holds. cc;
  exclamation = λ holds. cc;
  whitespace = λ holds. cc;
}

hyphen_like : (c : ℕ) → (c == hyphen) ≡ true → begins_like_name_or_number (Delim c) ≡ true
hyphen_like c holds = rw holds refl

-- `(` by itself is no delimiter
not_parenthesis : (c : ℕ) → single c ≡ Delim c → (c == left_parenthesis) ≡ false
unfolding single
not_parenthesis c alone =
    bool_cases (c == left_parenthesis)
    (λ holds. let opens : single c ≡ Open Round = if_true (c == left_parenthesis) _ _ holds in cc)
    (λ fails. fails)

delim_symbol : (c : ℕ) (rest : List ℕ) → IsDelimiter c → (c == reverse_solidus) ≡ false → EndsDelim c rest → Symbol (Delim c) c rest
delim_symbol c rest is other ends =
    let plain : (is_whitespace c || is_quote c || is_ascii_digit c || is_ident_start c) ≡ false = is.plain in
    let white : is_whitespace c ≡ false = grind (arith, nat_tests) in
    let no_parenthesis : (c == left_parenthesis) ≡ false = not_parenthesis c is.single in
    record {
      start = grind (arith, nat_tests);
      number = grind (arith, nat_tests);
      escape = other;
      minus = hyphen_like c;
      name = λ _. ends.alone.name;
      plus = ends.plus;
      point = ends.point;
      parenthesis = λ holds. contrary (c == left_parenthesis) holds no_parenthesis;
      greater = λ holds. holds;
      percent = λ holds. holds;
      asterisk = λ holds. holds;
      exclamation = λ holds. holds;
      whitespace = λ holds. contrary (is_whitespace c) holds white;
    }

-- Each printed token has the front of its kind, where what follows ends it.
pub token_front : (b : Token) (rest : List ℕ) → IsWellFormed b → is_bad b ≡ false → Ends b rest → Front b (printed b ++ rest)
token_front (Ident name) rest well clean ends = identifier_front (Ident name) name rest refl well.some
token_front (Function name) rest well clean ends =
    rw (append_assoc (identifier name) (left_parenthesis ∷ []) rest) (identifier_front (Function name) name (left_parenthesis ∷ rest) refl well.some)
token_front (At name) rest well clean ends = harmless_front (At name) commercial_at (identifier name ++ rest) refl
token_front (Hash name true) rest well clean ends = harmless_front (Hash name true) number_sign (identifier name ++ rest) refl
token_front (Hash name false) rest well clean ends = harmless_front (Hash name false) number_sign (name_rest name ++ rest) refl
token_front (Str text) rest well clean ends = harmless_front (Str text) quotation_mark _ refl
token_front BadStr rest well clean ends = cc
token_front (Url text) rest well clean ends = name_front (Url text) _ refl (url_begins _)
token_front BadUrl rest well clean ends = cc
token_front (Delim c) rest well clean ends =
    subst (λ (text : List ℕ). Front (Delim c) (text ++ rest)) (sym (if_false (c == reverse_solidus) _ _ clean))
    (symbol_front (Delim c) c rest (delim_symbol c rest well clean ends))
token_front (Number number) rest well clean ends = number_begins (Number number) number rest well.number refl
token_front (Percentage number) rest well clean ends =
    rw (append_assoc number (percent_sign ∷ []) rest) (number_begins (Percentage number) number (percent_sign ∷ rest) well.number refl)
token_front (Dimension number name) rest well clean ends =
    rw (append_assoc number (unit name) rest) (number_begins (Dimension number name) number (unit name ++ rest) well.0.number refl)
token_front White rest well clean ends = symbol_front White space rest (space_symbol rest)
token_front Cdo rest well clean ends = harmless_front Cdo less_than_sign _ refl
token_front Cdc rest well clean ends = symbol_front Cdc hyphen _ (cdc_symbol _)
token_front Colon rest well clean ends = harmless_front Colon colon rest refl
token_front Semicolon rest well clean ends = harmless_front Semicolon semicolon rest refl
token_front Comma rest well clean ends = harmless_front Comma comma rest refl
token_front (Open Round) rest well clean ends = symbol_front (Open Round) left_parenthesis rest (parenthesis_symbol rest)
token_front (Open Square) rest well clean ends = harmless_front (Open Square) left_square_bracket rest refl
token_front (Open Curly) rest well clean ends = harmless_front (Open Curly) left_curly_bracket rest refl
token_front (Close Round) rest well clean ends = harmless_front (Close Round) right_parenthesis rest refl
token_front (Close Square) rest well clean ends = harmless_front (Close Square) right_square_bracket rest refl
token_front (Close Curly) rest well clean ends = harmless_front (Close Curly) right_curly_bracket rest refl
