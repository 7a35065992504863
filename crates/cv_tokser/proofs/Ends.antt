-- What ends each token, and that it is met where the table of pairs puts nothing between two tokens.
use Rattle.std.proofs.Common.{◌≡◌, ℕ, List, [], ◌∷◌, drop, refl, arith}
use Rattle.std.specs.Prelude.{Bool, true, false, ◌||◌, ◌&&◌, ◌==◌, ⊤}
use Rattle.std.specs.Char.{is_ascii_digit}
use Rattle.std.proofs.lemmas.Bool.{eqb-true}
use Rattle.std.proofs.lemmas.Bool.Decides.{nat_tests}
use Rattle.cv_spec_text.specs.declared.token.Token.{Token}
use Rattle.cv_spec_text.specs.declared.token.Token.TheVariants.{Ident, Function, At, Hash, Delim, Number, Dimension, White}
use Rattle.cv_spec_text.specs.Characters.{exclamation_mark, number_sign, percent_sign, asterisk, plus_sign, hyphen, full_stop, solidus, less_than_sign, greater_than_sign, commercial_at, reverse_solidus, is_whitespace, is_quote, is_sign, is_ident_start, is_ident_code_point, begins_by, begins_with}
use Rattle.cv_spec_text.specs.Numbers.{fraction_length, mantissa_length, number_length}
use Rattle.cv_spec_text.specs.Names.{begins_escape, name_piece_length, begins_name}
use Rattle.cv_spec_text.specs.Urls.{whitespace_length, is_url_name}
use Rattle.cv_spec_text.specs.Tokens.{begins_pair}
use Rattle.cv_spec_text.specs.Joins.{is_ident_like, is_numeric, is_delim, is_cdc, is_open_round, begins_like_name_or_number, is_double_hyphen, joins_delim, joins}
use Rattle.cv_spec_text.specs.Printing.{is_white}
use Rattle.cv_text_laws.proofs.Tests.{bool_cases}
use Rattle.cv_text_laws.proofs.Digits.{prefix_len-none}
use Rattle.cv_tokser.specs.Clean.{is_bad, is_url_function}
use Rattle.cv_tokser.proofs.FirstRows.{StandsAlone}
use Rattle.cv_tokser.proofs.NumbersBack.{EndsNumber}
use Rattle.cv_tokser.proofs.DimensionsBack.{EndsUnit}
use Rattle.cv_tokser.proofs.IdentsBack.{EndsIdent, nothing_begins, hyphen_alone_begins}
use Rattle.cv_tokser.proofs.WellFormed.{IsDelimiter, IsWellFormed}
use Rattle.cv_tokser.proofs.Fronts.{Front, no_name, symbol_fraction}

-- what ends a number that is a token by itself
pub record EndsAlone (rest : List ℕ) : Type 0 where
  pub number : EndsNumber rest
  pub name : begins_name rest ≡ false
  pub percent : begins_with percent_sign rest ≡ false

-- what ends a delimiter
pub record EndsDelim (c : ℕ) (rest : List ℕ) : Type 0 where
  pub alone : StandsAlone c rest
  pub plus : (c == plus_sign) ≡ true → begins_by is_ascii_digit rest ≡ false
  pub point : (c == full_stop) ≡ true → begins_by is_ascii_digit rest ≡ false

-- What may stand behind a token, so that it is read as that token and no more.
abbrev pub Ends : Token → List ℕ → Type 0
Ends (Ident name) rest = EndsIdent name rest
Ends (Function name) rest = is_url_name name ≡ true → begins_by is_quote (drop (whitespace_length rest) rest) ≡ true
Ends (At name) rest = name_piece_length rest ≡ 0
Ends (Hash name id) rest = name_piece_length rest ≡ 0
Ends (Delim c) rest = EndsDelim c rest
Ends (Number number) rest = EndsAlone rest
Ends (Dimension number unit) rest = EndsUnit rest
Ends White rest = begins_by is_whitespace rest ≡ false
Ends _ rest = ⊤

-- parts of tests
three_parts : (a b c : Bool) → (a || b || c) ≡ false → (a ≡ false) × (b ≡ false) × (c ≡ false)
three_parts true b c fails = cc
three_parts false true c fails = cc
three_parts false false c fails = (refl, refl, fails)

four_parts : (a b c d : Bool) → (a || b || c || d) ≡ false → (a ≡ false) × (b ≡ false) × (c ≡ false) × (d ≡ false)
four_parts true b c d fails = cc
four_parts false true c d fails = cc
four_parts false false true d fails = cc
four_parts false false false d fails = (refl, refl, refl, fails)

six_parts : (a b c d e f : Bool) → (a || b || c || d || e || f) ≡ false → (a ≡ false) × (b ≡ false) × (c ≡ false) × (d ≡ false) × (e ≡ false) × (f ≡ false)
six_parts true b c d e f fails = cc
six_parts false true c d e f fails = cc
six_parts false false true d e f fails = cc
six_parts false false false true e f fails = cc
six_parts false false false false true f fails = cc
six_parts false false false false false f fails = (refl, refl, refl, refl, refl, fails)

second_fails : (a b : Bool) → (a && b) ≡ false → a ≡ true → b ≡ false
second_fails true b fails holds = fails
second_fails false b fails holds = cc

first_fails : (a b : Bool) → (a && b) ≡ false → b ≡ true → a ≡ false
first_fails true b fails holds = cc
first_fails false b fails holds = refl

not_together : (a b : Bool) → (a ≡ true → b ≡ false) → (a && b) ≡ false
not_together true b step = step refl
not_together false b step = refl

apart : (p q : Bool) → p ≡ false → q ≡ false → (p || q) ≡ false
apart true q fails fails' = cc
apart false q fails fails' = fails'

-- what would join to each delimiter doesn't follow
record Unjoined (c : ℕ) (b : Token) : Type 0 where
  hash : (c == number_sign) ≡ true → begins_like_name_or_number b ≡ false
  minus : (c == hyphen) ≡ true → begins_like_name_or_number b ≡ false
  plus : (c == plus_sign || c == full_stop) ≡ true → is_numeric b ≡ false
  at' : (c == commercial_at) ≡ true → (is_ident_like b || is_delim hyphen b || is_cdc b) ≡ false
  slash : (c == solidus) ≡ true → is_delim asterisk b ≡ false
  less : (c == less_than_sign) ≡ true → is_delim exclamation_mark b ≡ false

unjoined : (c : ℕ) (b : Token) → joins_delim c b ≡ false → Unjoined c b
unjoined c b fails =
    let parts = six_parts (c == number_sign && begins_like_name_or_number b) (c == hyphen && begins_like_name_or_number b) ((c == plus_sign || c == full_stop) && is_numeric b)
    (c == commercial_at && (is_ident_like b || is_delim hyphen b || is_cdc b)) (c == solidus && is_delim asterisk b) (c == less_than_sign && is_delim exclamation_mark b) fails in
    record {
      hash = second_fails _ _ parts.0;
      minus = second_fails _ _ parts.1;
      plus = second_fails _ _ parts.2;
      at' = second_fails _ _ parts.3;
      slash = second_fails _ _ parts.4;
      less = second_fails _ _ parts.5;
    }

signed_number : (c : ℕ) (rest : List ℕ) → is_sign c ≡ true → begins_by is_ascii_digit rest ≡ false → fraction_length rest ≡ 0 → number_length (c ∷ rest) ≡ 0
unfolding number_length mantissa_length
signed_number c rest sign digit fraction = rw (sign, prefix_len-none is_ascii_digit rest digit, fraction) refl

unsigned_number : (c : ℕ) (rest : List ℕ) → is_sign c ≡ false → is_ascii_digit c ≡ false → fraction_length (c ∷ rest) ≡ 0 → number_length (c ∷ rest) ≡ 0
unfolding number_length mantissa_length
unsigned_number c rest sign digit fraction = rw (sign, digit, fraction) refl

no_hyphen : (text : List ℕ) → begins_by is_ident_code_point text ≡ false → begins_with hyphen text ≡ false
no_hyphen [] other = refl
no_hyphen (c ∷ cs) other = grind (arith, nat_tests)

no_pair : (text : List ℕ) → begins_by is_ident_code_point text ≡ false → begins_pair hyphen greater_than_sign text ≡ false
no_pair text other = rw (no_hyphen text other) refl

hyphen_begins : (c : ℕ) (rest : List ℕ) → (c == hyphen) ≡ true → name_piece_length rest ≡ 0 → begins_name (c ∷ rest) ≡ false
hyphen_begins c rest is none = let same : c ≡ hyphen = eqb-true c hyphen is in rw same (hyphen_alone_begins rest none)

delim_ends : (c : ℕ) (b : Token) (rest : List ℕ) → IsDelimiter c → (c == reverse_solidus) ≡ false → joins_delim c b ≡ false → Front b rest → EndsDelim c rest
delim_ends c b rest is other fails front =
    let un = unjoined c b fails in
    let plain : (is_whitespace c || is_quote c || is_ascii_digit c || is_ident_start c) ≡ false = is.plain in
    let digit : is_ascii_digit c ≡ false = grind (arith, nat_tests) in
    let start : is_ident_start c ≡ false = grind (arith, nat_tests) in
    let numeric : is_sign c ≡ true → is_numeric b ≡ false =
    λ sign. bool_cases (c == hyphen) (λ holds. (four_parts (is_ident_like b) (is_numeric b) _ _ (un.minus holds)).1)
    (λ differs. un.plus (grind (arith, nat_tests))) in
    let point : (c == full_stop) ≡ true → begins_by is_ascii_digit rest ≡ false = λ holds. front.digit (un.plus (grind (arith, nat_tests))) in
    record {
      alone = record {
        comment = not_together (c == solidus) (begins_with asterisk rest) (λ holds. front.asterisk (un.slash holds));
        whitespace = grind (arith, nat_tests);
        quote = grind (arith, nat_tests);
        hash = not_together (c == number_sign) (begins_by is_ident_code_point rest || begins_escape rest)
            (λ holds. let nothing = nothing_begins rest (front.piece (un.hash holds)) in apart _ _ nothing.0 nothing.1);
        number = bool_cases (is_sign c)
            (λ sign. signed_number c rest sign (front.digit (numeric sign)) (front.fraction (numeric sign)))
            (λ unsigned. unsigned_number c rest unsigned digit (symbol_fraction c rest point));
        cdc = not_together (c == hyphen) (begins_pair hyphen greater_than_sign rest)
            (λ holds. no_pair rest (nothing_begins rest (front.piece (un.minus holds))).0);
        name = bool_cases (c == hyphen)
            (λ holds. hyphen_begins c rest holds (front.piece (un.minus holds)))
            (λ differs. no_name c rest start other differs);
        cdo = not_together (c == less_than_sign) (begins_with exclamation_mark rest && begins_pair hyphen hyphen (drop 1 rest))
            (λ holds. rw (front.exclamation (un.less holds)) refl);
        «at» = not_together (c == commercial_at) (begins_name rest)
            (λ holds. let parts = three_parts (is_ident_like b) (is_delim hyphen b) (is_cdc b) (un.at' holds) in front.name parts.0 parts.2);
      };
      plus = λ holds. front.digit (un.plus (grind (arith, nat_tests)));
      point = point;
    }

-- Where nothing is put between two tokens, the second ends the first.
pub ends_by_front : (a b : Token) (rest : List ℕ) → IsWellFormed a → is_bad a ≡ false → joins a b ≡ false → (is_white a && is_white b) ≡ false
    → (is_url_function a ≡ true → begins_by is_quote (drop (whitespace_length rest) rest) ≡ true) → Front b rest → Ends a rest
ends_by_front (Ident name) b rest well clean fails white url front =
    let parts = three_parts (begins_like_name_or_number b) (is_open_round b) (is_delim greater_than_sign b && is_double_hyphen name) fails in
    record {
      piece = front.piece parts.0;
      parenthesis = front.parenthesis parts.1;
      greater = λ double. front.greater (first_fails (is_delim greater_than_sign b) (is_double_hyphen name) parts.2 double);
    }
ends_by_front (Function name) b rest well clean fails white url front = url
ends_by_front (At name) b rest well clean fails white url front = front.piece fails
ends_by_front (Hash name id) b rest well clean fails white url front = front.piece fails
ends_by_front (Delim c) b rest well clean fails white url front = delim_ends c b rest well clean fails front
ends_by_front (Number number) b rest well clean fails white url front =
    let parts = four_parts (is_ident_like b) (is_numeric b) (is_cdc b) (is_delim percent_sign b) fails in
    record {
      number = record { digit = front.digit parts.1; fraction = front.fraction parts.1; exponent = front.exponent parts.0 };
      name = front.name parts.0 parts.2;
      percent = front.percent parts.3;
    }
ends_by_front (Dimension number unit) b rest well clean fails white url front = record { piece = front.piece fails; exponent = front.signed fails }
ends_by_front White b rest well clean fails white url front = front.whitespace white
ends_by_front _ b rest well clean fails white url front = tt
