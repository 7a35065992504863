-- Names that are written as they stand.
use Rattle.std.proofs.Common.{◌≡◌, ℕ, ◌<◌, suc, zero, List, [], ◌∷◌, ◌++◌, refl, sym, ◌∙◌, ap, ap₂, arith, lit<}
use Rattle.std.specs.Prelude.{Bool, true, false, not, ◌==◌, ◌&&◌, ◌||◌, IsAscii}
use Rattle.std.specs.List.{list_all}
use Rattle.std.specs.Char.{is_ascii_alphabetic, is_ascii_digit}
use Rattle.std.proofs.lemmas.Bool.Decides.{nat_tests}
use Rattle.std.proofs.lemmas.Bool.{eqb-true}
use Rattle.cv_spec_text.specs.Characters.{hyphen, is_ident_code_point, begins_by}
use Rattle.cv_spec_text.specs.Numbers.{is_exponent_sign}
use Rattle.cv_spec_text.specs.Printing.{is_control, name_code_point, name_rest, with_no_digit_first, identifier, unit}
use Rattle.cv_tokser.specs.Plain.{begins_hyphens, is_plain, is_plain_byte, is_plain_first}

both : (a b : Bool) → (a && b) ≡ true → (a ≡ true) × (b ≡ true)
both true b is = (refl, is)
both false b is = absurd cc

byte_ascii : (b : ℕ) → is_plain_byte b ≡ true → b < 128
byte_ascii b is = grind (arith, nat_tests)

byte_printed : (b : ℕ) → is_plain_byte b ≡ true → is_control b ≡ false
byte_printed b is = grind (arith, nat_tests)

byte_named : (b : ℕ) → is_plain_byte b ≡ true → is_ident_code_point b ≡ true
byte_named b is = grind (arith, nat_tests)

letter_first : (b : ℕ) → is_ascii_alphabetic b ≡ true → is_ascii_digit b ≡ false
letter_first b is = grind (arith, nat_tests)

letter_no_hyphen : (b : ℕ) → is_ascii_alphabetic b ≡ true → (b == hyphen) ≡ false
letter_no_hyphen b is = grind (arith, nat_tests)

not_false : (b : Bool) → not b ≡ true → b ≡ false
not_false true is = absurd cc
not_false false is = refl

byte_itself : (b : ℕ) → is_plain_byte b ≡ true → name_code_point b ≡ b ∷ []
unfolding name_code_point
byte_itself b is = rw (byte_printed b is, byte_named b is) refl

rest_itself : (bytes : List ℕ) → list_all is_plain_byte bytes ≡ true → name_rest bytes ≡ bytes
rest_itself [] is = refl
rest_itself (b ∷ rest) is =
    let (here, later) = both (is_plain_byte b) (list_all is_plain_byte rest) is in ap₂ (λ (first more : List ℕ). first ++ more) (byte_itself b here) (rest_itself rest later)

all_ascii : (bytes : List ℕ) → list_all is_plain_byte bytes ≡ true → IsAscii bytes
all_ascii [] is i = lit< tt
all_ascii (b ∷ rest) is zero = byte_ascii b (both (is_plain_byte b) (list_all is_plain_byte rest) is).0
all_ascii (b ∷ rest) is (suc i) = all_ascii rest (both (is_plain_byte b) (list_all is_plain_byte rest) is).1 i

first_itself : (b : ℕ) (rest : List ℕ) → is_ascii_alphabetic b ≡ true → list_all is_plain_byte (b ∷ rest) ≡ true → with_no_digit_first (b ∷ rest) ≡ b ∷ rest
first_itself b rest letter all =
    let (here, later) = both (is_plain_byte b) (list_all is_plain_byte rest) all in
    rw (letter_first b letter) (ap₂ (λ (first more : List ℕ). first ++ more) (byte_itself b here) (rest_itself rest later))

identifier_itself : (b : ℕ) (rest : List ℕ) → is_ascii_alphabetic b ≡ true → list_all is_plain_byte (b ∷ rest) ≡ true → identifier (b ∷ rest) ≡ b ∷ rest
unfolding identifier
identifier_itself b [] letter all = rw (letter_no_hyphen b letter) (first_itself b [] letter all)
identifier_itself b (c ∷ rest) letter all = rw (letter_no_hyphen b letter) (first_itself b (c ∷ rest) letter all)

pub record IsItself (bytes : List ℕ) : Type 0 where
  pub ascii : IsAscii bytes
  pub identifier_is : identifier bytes ≡ bytes
  pub unit_is : unit bytes ≡ bytes

by_letter : (bytes : List ℕ) → begins_by is_plain_first bytes ≡ true → list_all is_plain_byte bytes ≡ true → IsItself bytes
by_letter [] first all = absurd cc
by_letter (b ∷ rest) first all =
    let (letter, other) = both (is_ascii_alphabetic b) (not (is_exponent_sign b)) first in
    let plain = not_false (is_exponent_sign b) other in
    let same = identifier_itself b rest letter all in
    record {
      ascii = all_ascii (b ∷ rest) all;
      identifier_is = same;
      unit_is = rw plain same;
    }

hyphens_itself : (rest : List ℕ) → list_all is_plain_byte rest ≡ true → identifier (hyphen ∷ hyphen ∷ rest) ≡ hyphen ∷ hyphen ∷ rest
unfolding identifier
hyphens_itself rest all = ap₂ (λ (first more : List ℕ). hyphen ∷ (first ++ more)) (byte_itself hyphen refl) (rest_itself rest all)

by_hyphens : (bytes : List ℕ) → begins_hyphens bytes ≡ true → list_all is_plain_byte bytes ≡ true → IsItself bytes
by_hyphens [] two all = absurd cc
by_hyphens (b ∷ []) two all = absurd cc
by_hyphens (b ∷ c ∷ rest) two all =
    let (first, second) = both (b == hyphen) (c == hyphen) two in
    let b_is : b ≡ hyphen = eqb-true b hyphen first in
    let c_is : c ≡ hyphen = eqb-true c hyphen second in
    let later = (both (is_plain_byte c) (list_all is_plain_byte rest) (both (is_plain_byte b) (list_all is_plain_byte (c ∷ rest)) all).1).1 in
    let same : identifier (b ∷ c ∷ rest) ≡ b ∷ c ∷ rest = rw (b_is, c_is) (hyphens_itself rest later) in
    record {
      ascii = all_ascii (b ∷ c ∷ rest) all;
      identifier_is = same;
      unit_is = ap (λ d. unit (d ∷ c ∷ rest)) b_is ∙ ap (λ d. identifier (d ∷ c ∷ rest)) (sym b_is) ∙ same;
    }

by_front : (bytes : List ℕ) (letter : Bool) → begins_by is_plain_first bytes ≡ letter → (letter || begins_hyphens bytes) ≡ true → list_all is_plain_byte bytes ≡ true → IsItself bytes
by_front bytes true is front all = by_letter bytes is all
by_front bytes false is front all = by_hyphens bytes front all

pub itself : (bytes : List ℕ) → is_plain bytes ≡ true → IsItself bytes
itself bytes is =
    let (front, all) = both (begins_by is_plain_first bytes || begins_hyphens bytes) (list_all is_plain_byte bytes) is in by_front bytes (begins_by is_plain_first bytes) refl front all
