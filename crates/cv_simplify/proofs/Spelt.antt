-- A well formed token is one of a text, and so are those of punctuation, names and numbers.
use Rattle.std.specs.Prelude.{ℕ, zero, suc, Bool, true, false, ◌&&◌, ◌+◌, ◌<◌, ◌==◌, ◌%◌, ◌/◌, if◌then◌else◌, List, [], ◌∷◌, ◌++◌, length, replicate, decimal, Contains}
use Rattle.std.specs.Fmt.{digits, digits_onto, digit_glyph}
use Rattle.std.specs.List.{prefix_len}
use Rattle.std.specs.Char.{is_ascii_digit}
use Rattle.std.proofs.Common.{◌≡◌, refl, sym, ◌∙◌, ap, subst, arith, append-nil, length-append}
use Rattle.std.proofs.Math.Seq.{drop-length, drop-append_seam}
use Rattle.std.proofs.lemmas.Bool.Decides.{nat_tests}
use Rattle.std.proofs.lemmas.Str.{chars-encodes}
use Rattle.cv_spec_text.specs.declared.token.Token.{Token}
use Rattle.cv_spec_text.specs.Characters.{full_stop, is_sign, begins_by}
use Rattle.cv_spec_text.specs.Numbers.{fraction_length, mantissa_length, exponent_length, number_length}
use Rattle.cv_spec_text.specs.Text.{preprocessed}
use Rattle.cv_spec_text.specs.Tokens.{tokens_of, tokens as tokens_in}
use Rattle.cv_spec_text.specs.Printing.{is_white, written, bytes}
use Rattle.cv_spec_text.specs.Splits.{IsSpelt}
use Rattle.cv_tokser.specs.Clean.{is_bad, is_url_function, IsClean}
use Rattle.cv_tokser.proofs.WellFormed.{is_kept, AreAll, AreAll-append, IsSpelling, IsWellFormed, AreWellFormed}
use Rattle.cv_tokser.proofs.Kept.{written-kept, kept-scalars, kept-preprocessed}
use Rattle.cv_tokser.proofs.ListsBack.{lists_back}

and_no : (b : Bool) → (b && false) ≡ false
and_no true = refl
and_no false = refl

pub token_spelt : (t : Token) → is_bad t ≡ false → is_url_function t ≡ false → IsWellFormed t → IsSpelt t
token_spelt t good other well =
    let clean : IsClean (t ∷ []) = (good, and_no (is_white t), (λ url. let never : false ≡ true = sym other ∙ url in cc), tt) in
    let all : AreWellFormed (t ∷ []) = (well, tt) in
    let kept = written-kept (t ∷ []) all in
    let read : tokens_in (bytes (t ∷ [])) ≡ t ∷ [] =
    ap (λ (l : List ℕ). tokens_of (preprocessed l)) (chars-encodes (written (t ∷ [])) (kept-scalars (written (t ∷ [])) kept))
    ∙ ap tokens_of (kept-preprocessed (written (t ∷ [])) kept) ∙ lists_back (t ∷ []) clean all in
    let here : Contains (t ∷ []) t = (0, omega arith, refl) in
    (bytes (t ∷ []), (written (t ∷ []), (kept-scalars (written (t ∷ [])) kept, refl)), subst (λ (l : List Token). Contains l t) (sym read) here)

-- ---- digits

abbrev pub AreDigits : List ℕ → Type 0
AreDigits text = AreAll is_ascii_digit text

glyph_digit : (d : ℕ) → d < 10 → is_ascii_digit (digit_glyph false d) ≡ true
glyph_digit d small = grind (arith, nat_tests)

onto_digits : (k n : ℕ) (acc : List ℕ) → AreDigits acc → AreDigits (digits_onto k 10 false n acc)
onto_digits zero n acc all = all
onto_digits (suc k) n acc all = go (n / 10 == 0) (onto_digits k (n / 10) (digit_glyph false (n % 10) ∷ acc) (glyph_digit (n % 10) (omega arith), all))
  where
    go : (b : Bool) → AreDigits (digits_onto k 10 false (n / 10) (digit_glyph false (n % 10) ∷ acc)) →
        AreDigits (if b then digit_glyph false (n % 10) ∷ acc else digits_onto k 10 false (n / 10) (digit_glyph false (n % 10) ∷ acc))
    go true rest = (glyph_digit (n % 10) (omega arith), all)
    go false rest = rest

onto_some : (k n : ℕ) (acc : List ℕ) → 0 < length acc → 0 < length (digits_onto k 10 false n acc)
onto_some zero n acc some = some
onto_some (suc k) n acc some = go (n / 10 == 0) (onto_some k (n / 10) (digit_glyph false (n % 10) ∷ acc) (omega arith))
  where
    go : (b : Bool) → 0 < length (digits_onto k 10 false (n / 10) (digit_glyph false (n % 10) ∷ acc)) →
        0 < length (if b then digit_glyph false (n % 10) ∷ acc else digits_onto k 10 false (n / 10) (digit_glyph false (n % 10) ∷ acc))
    go true rest = omega arith
    go false rest = rest

pub decimal_digits : (n : ℕ) → AreDigits (decimal n)
unfolding digits
decimal_digits n = onto_digits 64 n [] tt

pub decimal_some : (n : ℕ) → 0 < length (decimal n)
unfolding digits
decimal_some n = go (n / 10 == 0) (onto_some 63 (n / 10) (digit_glyph false (n % 10) ∷ []) (omega arith))
  where
    go : (b : Bool) → 0 < length (digits_onto 63 10 false (n / 10) (digit_glyph false (n % 10) ∷ [])) →
        0 < length (if b then digit_glyph false (n % 10) ∷ [] else digits_onto 63 10 false (n / 10) (digit_glyph false (n % 10) ∷ []))
    go true rest = omega arith
    go false rest = rest

pub zeros_digits : (k : ℕ) → AreDigits (replicate k 0x30)
zeros_digits zero = tt
zeros_digits (suc k) = (refl, zeros_digits k)

pub digits_append : (xs ys : List ℕ) → AreDigits xs → AreDigits ys → AreDigits (xs ++ ys)
digits_append xs ys all more = AreAll-append is_ascii_digit xs ys all more

-- ---- spellings of numbers

digit_kept : (c : ℕ) → is_ascii_digit c ≡ true → is_kept c ≡ true
digit_kept c digit = grind (arith, nat_tests)

digits_kept : (ds : List ℕ) → AreDigits ds → AreAll is_kept ds
digits_kept [] all = tt
digits_kept (d ∷ ds) all = (digit_kept d all.0, digits_kept ds all.1)

digit_unsigned : (c : ℕ) → is_ascii_digit c ≡ true → is_sign c ≡ false
digit_unsigned c digit = grind (arith, nat_tests)

digits_run : (ds rest : List ℕ) → AreDigits ds → begins_by is_ascii_digit rest ≡ false → prefix_len is_ascii_digit (ds ++ rest) ≡ length ds
digits_run [] [] all other = refl
digits_run [] (c ∷ rest) all other = rw other refl
digits_run (d ∷ ds) rest all other = rw (all.0, digits_run ds rest all.1 other) (omega arith)

digits_all : (ds : List ℕ) → AreDigits ds → prefix_len is_ascii_digit ds ≡ length ds
digits_all [] all = refl
digits_all (d ∷ ds) all = rw (all.0, digits_all ds all.1) (omega arith)

-- digits, and a point with digits or nothing
pub record IsMantissa (text : List ℕ) : Type 0 where
  pub some : 0 < length text
  pub mantissa : mantissa_length text ≡ length text
  pub unsigned : begins_by is_sign text ≡ false
  pub kept : AreAll is_kept text

no_sign : (ds rest : List ℕ) → AreDigits ds → 0 < length ds → begins_by is_sign (ds ++ rest) ≡ false
no_sign [] rest all some = absurd (omega arith)
no_sign (d ∷ ds) rest all some = digit_unsigned d all.0

pub of_digits : (ds : List ℕ) → AreDigits ds → 0 < length ds → IsMantissa ds
unfolding mantissa_length fraction_length
of_digits ds all some = record {
  some = some;
  mantissa = rw (digits_all ds all, drop-length ds) (omega arith);
  unsigned = subst (λ (l : List ℕ). begins_by is_sign l ≡ false) (append-nil ds) (no_sign ds [] all some);
  kept = digits_kept ds all;
}

fraction_is : (fs : List ℕ) → AreDigits fs → 0 < length fs → fraction_length (full_stop ∷ fs) ≡ 1 + length fs
unfolding fraction_length
fraction_is [] all some = absurd (omega arith)
fraction_is (f ∷ fs) all some = rw (all.0, digits_all fs all.1) (omega arith)

pub of_point : (ds fs : List ℕ) → AreDigits ds → 0 < length ds → AreDigits fs → 0 < length fs → IsMantissa (ds ++ full_stop ∷ fs)
unfolding mantissa_length
of_point ds fs all some more further = record {
  some = omega (arith, length-append ds (full_stop ∷ fs));
  mantissa = rw (digits_run ds (full_stop ∷ fs) all refl, drop-append_seam ds (full_stop ∷ fs), fraction_is fs more further, length-append ds (full_stop ∷ fs)) (omega arith);
  unsigned = no_sign ds (full_stop ∷ fs) all some;
  kept = AreAll-append is_kept ds (full_stop ∷ fs) (digits_kept ds all) (refl, digits_kept fs more);
}

positive_length : (m : List ℕ) → IsMantissa m → number_length m ≡ length m
unfolding number_length exponent_length
positive_length m h =
    let nonzero : (length m == 0) ≡ false = grind (arith, nat_tests, h.some) in
    rw (h.unsigned, h.mantissa, drop-length m, nonzero) (omega arith)

negative_length : (m : List ℕ) → IsMantissa m → number_length (0x2d ∷ m) ≡ length (0x2d ∷ m)
unfolding number_length exponent_length
negative_length m h =
    let nonzero : (length m == 0) ≡ false = grind (arith, nat_tests, h.some) in
    rw (h.mantissa, drop-length m, nonzero) (omega arith)

pub positive : (m : List ℕ) → IsMantissa m → IsSpelling m
positive m h = record { number = record { some = h.some; all = positive_length m h }; kept = h.kept }

pub negative : (m : List ℕ) → IsMantissa m → IsSpelling (0x2d ∷ m)
negative m h = record { number = record { some = omega arith; all = negative_length m h }; kept = (refl, h.kept) }
