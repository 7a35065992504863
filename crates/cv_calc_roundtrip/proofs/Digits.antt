-- Digits, and the spelling of a number that is made of them (CSS Syntax 3, "Consume a number").
use Rattle.std.specs.Prelude.{ℕ, suc, Bool, true, false, ◌&&◌, ◌||◌, ◌==◌, nat_lt, ◌+◌, ◌-◌, ◌*◌, ◌<◌, ◌≤◌, ◌^◌, List, [], ◌∷◌, ◌++◌, length, take, drop, if◌then◌else◌, encode_utf8_all, encode_utf8}
use Rattle.std.specs.List.{filter, prefix_len}
use Rattle.std.specs.Char.{is_ascii_digit}
use Rattle.std.specs.Str.{all_ascii_digits}
use Rattle.std.specs.Str.Parse.{digits_value}
use Rattle.std.proofs.Common.{◌≡◌, refl, sym, ◌∙◌, ap, arith, length-append}
use Rattle.std.proofs.Math.Seq.{drop-append_seam}
use Rattle.std.proofs.lemmas.List.{drop_all, take_all, append-nil}
use Rattle.std.proofs.lemmas.Str.{encode_ascii}
use Rattle.std.proofs.lemmas.Bool.Decides.{nat_tests}
use Rattle.cv_spec_text.specs.Characters.{hyphen, plus_sign, full_stop, begins_with}
use Rattle.cv_spec_text.specs.Numbers.{sign_length, fraction_length, mantissa_length, exponent_length, number_length}
use Rattle.cv_spec_ratio.specs.Ratio.{Ratio, ratio, signed}
use Rattle.cv_frac.specs.Literal.{is_number, unsigned_part, mantissa_digits, exact_unsigned, exact, without_leading, without_trailing, unless_all_zero, significant, is_short, zero_digit}

abbrev pub AreDigits : List ℕ → Type 0
AreDigits ds = all_ascii_digits ds ≡ true

pub and_true : (b d : Bool) → (b && d) ≡ true → (b ≡ true) × (d ≡ true)
and_true true d h = (refl, h)
and_true false d h = cc

pub both_true : (b d : Bool) → b ≡ true → d ≡ true → (b && d) ≡ true
both_true true d h k = k
both_true false d h k = cc

pub digits_cons : (d : ℕ) (ds : List ℕ) → AreDigits (d ∷ ds) → (is_ascii_digit d ≡ true) × AreDigits ds
digits_cons d ds h = and_true (is_ascii_digit d) (all_ascii_digits ds) h

pub digits_append : (ds es : List ℕ) → AreDigits ds → AreDigits es → AreDigits (ds ++ es)
digits_append [] es h k = k
digits_append (d ∷ ds) es h k = let p = digits_cons d ds h in both_true (is_ascii_digit d) (all_ascii_digits (ds ++ es)) p.0 (digits_append ds es p.1 k)

-- ---- bytes

digit_small : (d : ℕ) → is_ascii_digit d ≡ true → d < 128
digit_small d h = grind (arith, nat_tests)

pub encode_digits : (ds rest : List ℕ) → AreDigits ds → encode_utf8_all (ds ++ rest) ≡ ds ++ encode_utf8_all rest
encode_digits [] rest h = refl
encode_digits (d ∷ ds) rest h =
    let p = digits_cons d ds h in
    let e : encode_utf8 d ≡ d ∷ [] = encode_ascii d (digit_small d p.0) in
    rw e (ap (λ (xs : List ℕ). d ∷ xs) (encode_digits ds rest p.1))

-- ---- fronts

pub front_digits : (ds rest : List ℕ) → AreDigits ds → prefix_len is_ascii_digit rest ≡ 0 → prefix_len is_ascii_digit (ds ++ rest) ≡ length ds
front_digits [] rest h k = k
front_digits (d ∷ ds) rest h k =
    let p = digits_cons d ds h in
    let more : prefix_len is_ascii_digit (ds ++ rest) ≡ length ds = front_digits ds rest p.1 k in
    rw p.0 (omega (arith, more))

pub filter_digits : (ds rest : List ℕ) → AreDigits ds → filter is_ascii_digit (ds ++ rest) ≡ ds ++ filter is_ascii_digit rest
filter_digits [] rest h = refl
filter_digits (d ∷ ds) rest h = let p = digits_cons d ds h in rw p.0 (ap (λ (xs : List ℕ). d ∷ xs) (filter_digits ds rest p.1))

no_sign : (d : ℕ) → is_ascii_digit d ≡ true → (d == plus_sign || d == hyphen) ≡ false
no_sign d h = grind (arith, nat_tests)

no_hyphen : (d : ℕ) → is_ascii_digit d ≡ true → (d == hyphen) ≡ false
no_hyphen d h = grind (arith, nat_tests)

-- ---- a number without a sign

-- the digits of a spelling without a sign, and how many of them stand behind the point
pub record Unsigned (text digits : List ℕ) (places : ℕ) : Type 0 where
  pub some : 0 < length text
  pub mantissa : mantissa_length text ≡ length text
  pub shown : mantissa_digits text ≡ digits
  pub value : (negative : Bool) → exact_unsigned negative text ≡ ratio (signed negative (digits_value 10 digits)) (10 ^ places)
  pub no_sign : sign_length text ≡ 0
  pub no_minus : begins_with hyphen text ≡ false
  pub bytes : encode_utf8_all text ≡ text

value_by : (text rest digits : List ℕ) (n : ℕ) (negative : Bool) → prefix_len is_ascii_digit text ≡ n → drop n text ≡ rest → fraction_length rest ≡ length rest →
    mantissa_length text ≡ length text → filter is_ascii_digit text ≡ digits →
    exact_unsigned negative text ≡ ratio (signed negative (digits_value 10 digits)) (10 ^ (length rest - 1))
value_by text rest digits n negative front tail fraction whole shown =
    let none : drop (length text) text ≡ [] = drop_all (length text) text (omega arith) in
    let all : take (length text) text ≡ text = take_all (length text) text (omega arith) in
    rw (whole, none, all, shown, front, tail, fraction) (ap (λ m. ratio (signed negative m) (10 ^ (length rest - 1))) (times_one (digits_value 10 digits)))
  where
    times_one : (m : ℕ) → m * 1 ≡ m
    times_one m = omega arith

shown_by : (text digits : List ℕ) → mantissa_length text ≡ length text → filter is_ascii_digit text ≡ digits → mantissa_digits text ≡ digits
shown_by text digits whole shown =
    let all : take (length text) text ≡ text = take_all (length text) text (omega arith) in
    rw (whole, all) shown

no_fraction : fraction_length [] ≡ 0
unfolding fraction_length
no_fraction = refl

mantissa_by : (text rest : List ℕ) (n : ℕ) → prefix_len is_ascii_digit text ≡ n → drop n text ≡ rest → fraction_length rest ≡ length rest → length text ≡ n + length rest → mantissa_length text ≡ length text
unfolding mantissa_length
mantissa_by text rest n front tail fraction all = rw (front, tail, fraction) (sym all)

pub unsigned_whole : (ds : List ℕ) → 0 < length ds → AreDigits ds → Unsigned ds ds 0
unsigned_whole [] some h = absurd (omega (arith, some))
unsigned_whole (d ∷ ds) some h =
    let p = digits_cons d ds h in
    let front : prefix_len is_ascii_digit (d ∷ ds) ≡ length (d ∷ ds) = ap (prefix_len is_ascii_digit) (sym (append-nil (d ∷ ds))) ∙ front_digits (d ∷ ds) [] h refl in
    let tail : drop (length (d ∷ ds)) (d ∷ ds) ≡ [] = drop_all (length (d ∷ ds)) (d ∷ ds) (omega arith) in
    let whole : mantissa_length (d ∷ ds) ≡ length (d ∷ ds) = mantissa_by (d ∷ ds) [] (length (d ∷ ds)) front tail no_fraction (omega arith) in
    let filtered : filter is_ascii_digit (d ∷ ds) ≡ d ∷ ds = ap (filter is_ascii_digit) (sym (append-nil (d ∷ ds))) ∙ filter_digits (d ∷ ds) [] h ∙ append-nil (d ∷ ds) in
    record {
      some = some;
      mantissa = whole;
      shown = shown_by (d ∷ ds) (d ∷ ds) whole filtered;
      value = λ negative. value_by (d ∷ ds) [] (d ∷ ds) (length (d ∷ ds)) negative front tail no_fraction whole filtered;
      no_sign = rw (no_sign d p.0) refl;
      no_minus = no_hyphen d p.0;
      bytes = ap encode_utf8_all (sym (append-nil (d ∷ ds))) ∙ encode_digits (d ∷ ds) [] h ∙ append-nil (d ∷ ds);
    }

point_fraction : (d : ℕ) (ds : List ℕ) → AreDigits (d ∷ ds) → fraction_length (full_stop ∷ d ∷ ds) ≡ length (full_stop ∷ d ∷ ds)
unfolding fraction_length
point_fraction d ds h =
    let p = digits_cons d ds h in
    let front : prefix_len is_ascii_digit ds ≡ length ds = ap (prefix_len is_ascii_digit) (sym (append-nil ds)) ∙ front_digits ds [] p.1 refl in
    rw p.0 (omega (arith, front))

pub unsigned_point : (ds es : List ℕ) → 0 < length ds → 0 < length es → AreDigits ds → AreDigits es → Unsigned (ds ++ full_stop ∷ es) (ds ++ es) (length es)
unsigned_point [] es some more h k = absurd (omega (arith, some))
unsigned_point (d ∷ ds) [] some more h k = absurd (omega (arith, more))
unsigned_point (d ∷ ds) (e ∷ es) some more h k =
    let p = digits_cons d ds h in
    let rest : List ℕ = full_stop ∷ e ∷ es in
    let text : List ℕ = (d ∷ ds) ++ rest in
    let fraction : fraction_length rest ≡ length rest = point_fraction e es k in
    let front : prefix_len is_ascii_digit text ≡ length (d ∷ ds) = front_digits (d ∷ ds) rest h refl in
    let tail : drop (length (d ∷ ds)) text ≡ rest = drop-append_seam (d ∷ ds) rest in
    let whole : mantissa_length text ≡ length text = mantissa_by text rest (length (d ∷ ds)) front tail fraction (length-append (d ∷ ds) rest) in
    let filtered : filter is_ascii_digit text ≡ (d ∷ ds) ++ e ∷ es =
    filter_digits (d ∷ ds) rest h ∙ ap (λ (xs : List ℕ). (d ∷ ds) ++ xs) (ap (filter is_ascii_digit) (sym (append-nil (e ∷ es))) ∙ filter_digits (e ∷ es) [] k ∙ append-nil (e ∷ es)) in
    record {
      some = omega arith;
      mantissa = whole;
      shown = shown_by text ((d ∷ ds) ++ e ∷ es) whole filtered;
      value = λ negative. value_by text rest ((d ∷ ds) ++ e ∷ es) (length (d ∷ ds)) negative front tail fraction whole filtered ∙ ap (λ n. ratio (signed negative (digits_value 10 ((d ∷ ds) ++ e ∷ es))) (10 ^ n)) (one_less (length es));
      no_sign = rw (no_sign d p.0) refl;
      no_minus = no_hyphen d p.0;
      bytes = encode_digits (d ∷ ds) rest h ∙ ap (λ (xs : List ℕ). (d ∷ ds) ++ xs) (point_bytes (e ∷ es) k);
    }
  where
    one_less : (n : ℕ) → suc (suc n) - 1 ≡ suc n
    one_less n = omega arith

    point_bytes : (es : List ℕ) → AreDigits es → encode_utf8_all (full_stop ∷ es) ≡ full_stop ∷ es
    point_bytes es k =
        let e : encode_utf8 full_stop ≡ full_stop ∷ [] = encode_ascii full_stop (omega arith) in
        rw e (ap (λ (xs : List ℕ). full_stop ∷ xs) (ap encode_utf8_all (sym (append-nil es)) ∙ encode_digits es [] k ∙ append-nil es))

-- ---- with a sign or without

number_by : (text rest : List ℕ) (s : ℕ) → sign_length text ≡ s → drop s text ≡ rest → mantissa_length rest ≡ length rest → 0 < length rest → length text ≡ s + length rest →
    is_number text ≡ true
unfolding number_length exponent_length
number_by text rest s sign tail whole some all =
    let none : drop (length rest) rest ≡ [] = drop_all (length rest) rest (omega arith) in
    let above : (length rest == 0) ≡ false = positive (length rest) some in
    rw (sign, tail, whole, none, above, all) (passes s (length rest) some)
  where
    positive : (n : ℕ) → 0 < n → (n == 0) ≡ false
    positive n h = grind (arith, nat_tests)

    passes : (s n : ℕ) → 0 < n → (nat_lt 0 (s + n + 0) && (s + n + 0 == s + n)) ≡ true
    passes s n h = both_true _ _ (less s n h) (same s n)
      where
        less : (s n : ℕ) → 0 < n → nat_lt 0 (s + n + 0) ≡ true
        less s n h = grind (arith, nat_tests)

        same : (s n : ℕ) → (s + n + 0 == s + n) ≡ true
        same s n = grind (arith, nat_tests)

leading_le : (ds : List ℕ) → length (without_leading ds) ≤ length ds
unfolding without_leading
leading_le [] = omega arith
leading_le (d ∷ ds) = go (d == zero_digit) (leading_le ds)
  where
    go : (b : Bool) → length (without_leading ds) ≤ length ds → length (if b then without_leading ds else d ∷ ds) ≤ length (d ∷ ds)
    go true h = omega (arith, h)
    go false h = omega arith

unless_le : (d : ℕ) (ds : List ℕ) → length (unless_all_zero d ds) ≤ suc (length ds)
unfolding unless_all_zero
unless_le d [] = go (d == zero_digit)
  where
    go : (b : Bool) → length (if b then [] else d ∷ []) ≤ 1
    go true = omega arith
    go false = omega arith
unless_le d (e ∷ es) = omega arith

trailing_le : (ds : List ℕ) → length (without_trailing ds) ≤ length ds
unfolding without_trailing
trailing_le [] = omega arith
trailing_le (d ∷ ds) = omega (arith, unless_le d (without_trailing ds), trailing_le ds)

significant_le : (ds : List ℕ) → length (significant ds) ≤ length ds
unfolding significant
significant_le ds = omega (arith, trailing_le (without_leading ds), leading_le ds)

short_by : (text rest digits : List ℕ) → unsigned_part text ≡ rest → mantissa_digits rest ≡ digits → length digits ≤ 36 → is_short text ≡ true
short_by text rest digits tail shown short = rw (tail, shown) (few (length (significant digits)) (omega (arith, significant_le digits, short)))
  where
    few : (n : ℕ) → n ≤ 36 → nat_lt n 37 ≡ true
    few n h = grind (arith, nat_tests)

-- what a spelling means
pub record Spells (text : List ℕ) (v : Ratio) : Type 0 where
  pub number : is_number text ≡ true
  pub short : is_short text ≡ true
  pub means : exact text ≡ v
  pub bytes : encode_utf8_all text ≡ text

pub spells_plain : (text digits : List ℕ) (places : ℕ) (v : Ratio) → Unsigned text digits places → length digits ≤ 36 → ratio (signed false (digits_value 10 digits)) (10 ^ places) ≡ v → Spells text v
spells_plain text digits places v u short is =
    let tail : drop (sign_length text) text ≡ text = ap (λ n. drop n text) u.no_sign in
    record {
      number = number_by text text 0 u.no_sign refl u.mantissa u.some (omega arith);
      short = short_by text text digits tail u.shown short;
      means = rw (u.no_minus, tail) (u.value false ∙ is);
      bytes = u.bytes;
    }

pub spells_minus : (text digits : List ℕ) (places : ℕ) (v : Ratio) → Unsigned text digits places → length digits ≤ 36 → ratio (signed true (digits_value 10 digits)) (10 ^ places) ≡ v → Spells (hyphen ∷ text) v
spells_minus text digits places v u short is =
    let e : encode_utf8 hyphen ≡ hyphen ∷ [] = encode_ascii hyphen (omega arith) in
    record {
      number = number_by (hyphen ∷ text) text 1 refl refl u.mantissa u.some (omega arith);
      short = short_by (hyphen ∷ text) text digits refl u.shown short;
      means = u.value true ∙ is;
      bytes = rw e (ap (λ (xs : List ℕ). hyphen ∷ xs) u.bytes);
    }
