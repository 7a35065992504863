-- A number that is read is the longest spelling of a number that stands there.
use Rattle.std.proofs.Common.{◌≡◌, ℕ, inl, inr, suc, ◌+◌, ◌<◌, ◌≤◌, List, [], ◌∷◌, ◌++◌, length, take, drop, refl, sym, ◌∙◌, ap, subst, arith, append_assoc, length-append, length-drop, length-take-le, take-append-drop}
use Rattle.std.specs.Prelude.{true, false, ◌==◌, ◌&&◌, ◌⊎◌, All}
use Rattle.std.specs.Char.{is_ascii_digit}
use Rattle.std.proofs.Math.Seq.{drop-append_seam, take-add}
use Rattle.std.proofs.lemmas.List.Folds.{length-prefix_len}
use Rattle.std.proofs.lemmas.Bool.{eqb-true}
use Rattle.std.proofs.lemmas.Bool.Decides.{nat_tests}
use Rattle.cv_spec_text.specs.Characters.{full_stop, is_sign, begins_by}
use Rattle.cv_spec_text.specs.Numbers.{digits_length, sign_length, fraction_length, mantissa_length, exponent_length, number_length, begins_number, is_exponent_sign}
use Rattle.cv_spec_text.proofs.Rows.{if_case}
use Rattle.cv_spec_text.proofs.Within.{sign_length-le, mantissa_length-le, exponent_length-le}
use Rattle.cv_text_laws.specs.NumberSpellings.{AreDigits, IsOptionalSign, IsPointed, IsExponent, IsNumberSpelling, NumbersAreLongest, NoNumberIsMissed}
use Rattle.cv_text_laws.proofs.Tests.{if_false, if_true, bool_cases, both}
use Rattle.cv_text_laws.proofs.Digits.{prefix_len-all, prefix_len-none, prefix_len-some, one_more, take-prefix_len, begins-all}

-- what begins with a digit, or with this point, begins with no sign
unsigned_digits : (digits rest : List ℕ) → AreDigits digits → begins_by is_sign (digits ++ rest) ≡ false
unsigned_digits [] rest are = absurd (omega (arith, are.some))
unsigned_digits (c ∷ cs) rest are = let digit : is_ascii_digit c ≡ true = begins-all is_ascii_digit (c ∷ cs) [] are.some are.digits in grind (arith, nat_tests)

-- a sign, or none, in front of what begins with none
sign_in_front : (sign rest : List ℕ) → IsOptionalSign sign → begins_by is_sign rest ≡ false → sign_length (sign ++ rest) ≡ length sign
sign_in_front sign rest (inl none) other = rw none (if_false (begins_by is_sign rest) 1 0 other)
sign_in_front sign rest (inr (c, is, signed)) other = rw is (if_true (is_sign c) 1 0 signed)

-- `.` and digits in front
fraction_in_front : (fraction rest : List ℕ) → AreDigits fraction → fraction_length (full_stop ∷ (fraction ++ rest)) ≡ 1 + length fraction + digits_length rest
unfolding fraction_length
fraction_in_front fraction rest are =
    let begins = begins-all is_ascii_digit fraction rest are.some are.digits in
    rw begins (omega (arith, prefix_len-all is_ascii_digit fraction rest are.digits))

-- A mantissa in front: it is read as far as it goes, and no farther where neither a digit nor a fraction follows.
record ReadsMantissa (mantissa : List ℕ) (rest : List ℕ) : Type 0 where
  least : length mantissa ≤ mantissa_length (mantissa ++ rest)
  all : begins_by is_ascii_digit rest ≡ false → fraction_length rest ≡ 0 → mantissa_length (mantissa ++ rest) ≡ length mantissa
  some : 0 < length mantissa
  unsigned : begins_by is_sign (mantissa ++ rest) ≡ false

digits_in_front : (mantissa rest : List ℕ) → AreDigits mantissa → ReadsMantissa mantissa rest
unfolding mantissa_length
digits_in_front mantissa rest are =
    let digits = prefix_len-all is_ascii_digit mantissa rest are.digits in
    record {
      least = omega (arith, digits);
      all = λ other pointless.
          let here : digits_length (mantissa ++ rest) ≡ length mantissa = omega (arith, digits, prefix_len-none is_ascii_digit rest other) in
          rw (here, drop-append_seam mantissa rest, pointless) (omega arith);
      some = are.some;
      unsigned = unsigned_digits mantissa rest are;
    }

pointed_unsigned : (whole more : List ℕ) → All (λ c. is_ascii_digit c ≡ true) whole → begins_by is_sign (whole ++ full_stop ∷ more) ≡ false
pointed_unsigned [] more all = refl
pointed_unsigned (c ∷ cs) more all = unsigned_digits (c ∷ cs) (full_stop ∷ more) (record { some = omega arith; digits = all })

pointed_in_front : (mantissa rest : List ℕ) → IsPointed mantissa → ReadsMantissa mantissa rest
unfolding mantissa_length
pointed_in_front mantissa rest is =
    let regrouped : mantissa ++ rest ≡ is.whole ++ (full_stop ∷ (is.fraction ++ rest)) =
    ap (λ (l : List ℕ). l ++ rest) is.parts ∙ append_assoc is.whole (full_stop ∷ is.fraction) rest in
    let size : length mantissa ≡ length is.whole + (1 + length is.fraction) = ap length is.parts ∙ length-append is.whole (full_stop ∷ is.fraction) ∙ omega arith in
    let here : digits_length (is.whole ++ (full_stop ∷ (is.fraction ++ rest))) ≡ length is.whole =
    omega (arith, prefix_len-all is_ascii_digit is.whole (full_stop ∷ (is.fraction ++ rest)) is.whole_digits, prefix_len-none is_ascii_digit (full_stop ∷ (is.fraction ++ rest)) refl) in
    let read : mantissa_length (mantissa ++ rest) ≡ length is.whole + (1 + length is.fraction + digits_length rest) =
    rw (regrouped, here, drop-append_seam is.whole (full_stop ∷ (is.fraction ++ rest)), fraction_in_front is.fraction rest is.fraction_digits) refl in
    record {
      least = omega (arith, read, size);
      all = λ other pointless. omega (arith, read, size, prefix_len-none is_ascii_digit rest other);
      some = omega (arith, size);
      unsigned = rw regrouped (pointed_unsigned is.whole (is.fraction ++ rest) is.whole_digits);
    }

mantissa_in_front : (mantissa rest : List ℕ) → (AreDigits mantissa ⊎ IsPointed mantissa) → ReadsMantissa mantissa rest
mantissa_in_front mantissa rest (inl digits) = digits_in_front mantissa rest digits
mantissa_in_front mantissa rest (inr pointed) = pointed_in_front mantissa rest pointed

-- an exponent in front is read
exponent_parts : (mark : ℕ) (sign digits rest : List ℕ) → is_exponent_sign mark ≡ true → IsOptionalSign sign → AreDigits digits
    → length (mark ∷ (sign ++ digits)) ≤ exponent_length (mark ∷ (sign ++ (digits ++ rest)))
unfolding exponent_length
exponent_parts mark sign digits rest marked signed are =
    let size = sign_in_front sign (digits ++ rest) signed (unsigned_digits digits rest are) in
    let all = prefix_len-all is_ascii_digit digits rest are.digits in
    let some : (digits_length (digits ++ rest) == 0) ≡ false = let n : 0 < digits_length (digits ++ rest) = omega (arith, all, are.some) in grind (arith, nat_tests) in
    rw (marked, size, drop-append_seam sign (digits ++ rest), some) (omega (arith, all, length-append sign digits))

exponent_in_front : (exponent rest : List ℕ) → IsExponent exponent → length exponent ≤ exponent_length (exponent ++ rest)
exponent_in_front exponent rest is =
    let regrouped : exponent ++ rest ≡ is.mark ∷ (is.sign ++ (is.digits ++ rest)) =
    ap (λ (l : List ℕ). l ++ rest) is.parts ∙ ap (λ (l : List ℕ). is.mark ∷ l) (append_assoc is.sign is.digits rest) in
    rw (regrouped, is.parts) (exponent_parts is.mark is.sign is.digits rest is.marked is.signed is.are_digits)

-- what begins with `e` or `E` begins with no digit and no point
before_exponent : (exponent rest : List ℕ) → IsExponent exponent → (begins_by is_ascii_digit (exponent ++ rest) ≡ false) × (fraction_length (exponent ++ rest) ≡ 0)
unfolding fraction_length
before_exponent exponent rest is =
    let marked : is_exponent_sign is.mark ≡ true = is.marked in
    let digit : is_ascii_digit is.mark ≡ false = grind (arith, nat_tests) in
    let point : (is.mark == full_stop) ≡ false = grind (arith, nat_tests) in
    rw is.parts (digit, rw point refl)

-- what a mantissa and an exponent behind it come to
mantissa_and_exponent : (mantissa exponent rest : List ℕ) → (AreDigits mantissa ⊎ IsPointed mantissa) → ((exponent ≡ []) ⊎ IsExponent exponent)
    → let text = mantissa ++ (exponent ++ rest) in
    (0 < mantissa_length text) × (length mantissa + length exponent ≤ mantissa_length text + exponent_length (drop (mantissa_length text) text))
mantissa_and_exponent mantissa exponent rest number (inl none) =
    let reads = mantissa_in_front mantissa rest number in
    rw none (omega (arith, reads.least, reads.some), omega (arith, reads.least))
mantissa_and_exponent mantissa exponent rest number (inr is) =
    let reads = mantissa_in_front mantissa (exponent ++ rest) number in
    let before = before_exponent exponent rest is in
    let all = reads.all before.0 before.1 in
    rw (all, drop-append_seam mantissa (exponent ++ rest)) (reads.some, omega (arith, exponent_in_front exponent rest is))

-- a number behind its sign
number_length-signed : (sign rest : List ℕ) → IsOptionalSign sign → begins_by is_sign rest ≡ false → 0 < mantissa_length rest
    → number_length (sign ++ rest) ≡ length sign + mantissa_length rest + exponent_length (drop (mantissa_length rest) rest)
unfolding number_length
number_length-signed sign rest signed unsigned some =
    let here : (mantissa_length rest == 0) ≡ false = grind (arith, nat_tests) in
    rw (sign_in_front sign rest signed unsigned, drop-append_seam sign rest) (if_false (mantissa_length rest == 0) 0 _ here)

-- a spelling in front is read as far as it goes, or farther
pub spelling_in_front : (front rest : List ℕ) → IsNumberSpelling front → (0 < number_length (front ++ rest)) × (length front ≤ number_length (front ++ rest))
spelling_in_front front rest is =
    let behind = is.mantissa ++ (is.exponent ++ rest) in
    let regrouped : front ++ rest ≡ is.sign ++ behind =
    ap (λ (l : List ℕ). l ++ rest) is.parts ∙ append_assoc is.sign (is.mantissa ++ is.exponent) rest ∙ ap (λ (l : List ℕ). is.sign ++ l) (append_assoc is.mantissa is.exponent rest) in
    let size : length front ≡ length is.sign + (length is.mantissa + length is.exponent) =
    ap length is.parts ∙ length-append is.sign (is.mantissa ++ is.exponent) ∙ ap (λ (n : ℕ). length is.sign + n) (length-append is.mantissa is.exponent) in
    let parts = mantissa_and_exponent is.mantissa is.exponent rest is.number is.power in
    let unsigned = (mantissa_in_front is.mantissa (is.exponent ++ rest) is.number).unsigned in
    let read = number_length-signed is.sign behind is.signed unsigned parts.0 in
    rw regrouped (omega (arith, read, parts.0), omega (arith, read, parts.1, size))

-- the parts of a number that is read
sign_read : (text : List ℕ) → IsOptionalSign (take (sign_length text) text)
sign_read [] = inl refl
sign_read (c ∷ cs) = bool_cases (is_sign c) (λ signed. rw signed (inr (c, refl, signed))) (λ other. rw other (inl refl))

digits_read : (text : List ℕ) → 0 < digits_length text → AreDigits (take (digits_length text) text)
digits_read text some = record { some = omega (arith, length-prefix_len is_ascii_digit text); digits = take-prefix_len is_ascii_digit text }

pointed_read : (whole text : List ℕ) → All (λ c. is_ascii_digit c ≡ true) whole → 0 < fraction_length text → IsPointed (whole ++ take (fraction_length text) text)
unfolding fraction_length
pointed_read whole [] all some = absurd (omega arith)
pointed_read whole (c ∷ cs) all some =
    bool_cases (c == full_stop && begins_by is_ascii_digit cs)
    (λ begins.
    let point : c ≡ full_stop = eqb-true c full_stop (both _ _ begins).0 in
    rw begins (record {
      whole = whole;
      fraction = take (digits_length cs) cs;
      parts = rw (point, one_more (digits_length cs)) refl;
      whole_digits = all;
      fraction_digits = digits_read cs (prefix_len-some is_ascii_digit cs (both _ _ begins).1);
    }))
    (λ other. let none : fraction_length (c ∷ cs) ≡ 0 = rw other refl in absurd (omega (arith, none)))

mantissa_read : (text : List ℕ) → 0 < mantissa_length text → AreDigits (take (mantissa_length text) text) ⊎ IsPointed (take (mantissa_length text) text)
unfolding mantissa_length
mantissa_read text some =
    let digits = digits_length text in
    let behind = drop digits text in
    bool_cases (fraction_length behind == 0)
    (λ none.
    let pointless : digits + fraction_length behind ≡ digits = grind (arith, nat_tests) in
    rw pointless (inl (digits_read text (omega arith))))
    (λ pointed.
    let more : 0 < fraction_length behind = grind (arith, nat_tests) in
    rw (take-add digits (fraction_length behind) text) (inr (pointed_read (take digits text) behind (take-prefix_len is_ascii_digit text) more)))

exponent_read : (text : List ℕ) → (take (exponent_length text) text ≡ []) ⊎ IsExponent (take (exponent_length text) text)
unfolding exponent_length
exponent_read [] = inl refl
exponent_read (c ∷ cs) =
    let sign = sign_length cs in
    let digits = digits_length (drop sign cs) in
    bool_cases (is_exponent_sign c)
    (λ marked. bool_cases (digits == 0)
    (λ none. rw (marked, none) (inl refl))
    (λ some.
    let many : 0 < digits = grind (arith, nat_tests) in
    let size : 1 + sign + digits ≡ suc (sign + digits) = omega arith in
    rw (marked, some, size) (inr (record {
      mark = c;
      sign = take sign cs;
      digits = take digits (drop sign cs);
      parts = ap (λ (l : List ℕ). c ∷ l) (take-add sign digits cs);
      marked = marked;
      signed = sign_read cs;
      are_digits = digits_read (drop sign cs) many;
    }))))
    (λ other. rw other (inl refl))

-- what is read is a spelling
pub number_read : (text : List ℕ) → 0 < number_length text → IsNumberSpelling (take (number_length text) text)
unfolding number_length
number_read text some =
    let sign = sign_length text in
    let unsigned = drop sign text in
    let mantissa = mantissa_length unsigned in
    let behind = drop mantissa unsigned in
    let exponent = exponent_length behind in
    bool_cases (mantissa == 0)
    (λ none. let nothing : number_length text ≡ 0 = if_true (mantissa == 0) 0 _ none in absurd (omega (arith, nothing)))
    (λ more.
    let many : 0 < mantissa = grind (arith, nat_tests) in
    let size : number_length text ≡ sign + (mantissa + exponent) = if_false (mantissa == 0) 0 _ more ∙ omega arith in
    subst (λ (n : ℕ). IsNumberSpelling (take n text)) (sym size) (record {
      sign = take sign text;
      mantissa = take mantissa unsigned;
      exponent = take exponent behind;
      parts = take-add sign (mantissa + exponent) text ∙ ap (λ (l : List ℕ). take sign text ++ l) (take-add mantissa exponent unsigned);
      signed = sign_read text;
      number = mantissa_read unsigned many;
      power = exponent_read behind;
    }))

begins-positive : (text : List ℕ) → begins_number text ≡ true → 0 < number_length text
begins-positive text begins = grind (arith, nat_tests)

none-zero : (text : List ℕ) → begins_number text ≡ false → number_length text ≡ 0
none-zero text none = grind (arith, nat_tests)

pub within_text : (text : List ℕ) → number_length text ≤ length text
unfolding number_length
within_text text =
    let sign = sign_length text in
    let mantissa = mantissa_length (drop sign text) in
    if_case (λ n. n ≤ length text) (mantissa == 0) (λ _. omega arith)
    (λ _. omega (arith, sign_length-le text, mantissa_length-le (drop sign text), exponent_length-le (drop mantissa (drop sign text)), length-drop mantissa (drop sign text), length-drop sign text))

pub numbers_are_longest : NumbersAreLongest
numbers_are_longest text begins = record {
  is = number_read text (begins-positive text begins);
  longest = λ other rest same spelt.
      let whole : other ++ rest ≡ text = same ∙ take-append-drop (number_length text) text in
      let within = (spelling_in_front other rest spelt).1 in
      let read : number_length (other ++ rest) ≡ number_length text = ap number_length whole in
      omega (arith, within, read, length-take-le (number_length text) text (within_text text));
}

pub no_number_is_missed : NoNumberIsMissed
no_number_is_missed front rest none spelt = absurd (omega (arith, (spelling_in_front front rest spelt).0, none-zero (front ++ rest) none))
