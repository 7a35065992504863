-- The tokens of a colour's text are those of texts.
use Rattle.std.specs.Prelude.{ℕ, zero, suc, Bool, true, false, ◌==◌, ◌&&◌, ◌<◌, List, [], ◌∷◌, codes, decimal, Contains, IsAscii, All, bytes_eq, nat_lt, ◌++◌}
use Rattle.std.proofs.Common.{◌≡◌, refl, sym, ◌∙◌, ap, subst, arith, lit<}
use Rattle.std.specs.Fmt.{digits}
use Rattle.std.proofs.lemmas.Str.{chars-IsAscii, IsUtf8-from_ascii}
use Rattle.std.proofs.lemmas.Fmt.{IsAscii-decimal}
use Rattle.std.proofs.lemmas.Slice.Eq.{bytes_eq-Decides}
use Rattle.std.proofs.lemmas.Bool.Decides.{nat_tests}
use Rattle.cv_spec_text.specs.Text.{preprocessed}
use Rattle.cv_spec_text.specs.Tokens.{first_row, number_row, name_row, single, tokens, tokens_of}
use Rattle.cv_spec_text.specs.Names.{begins_name, name_piece_length, name_piece_value}
use Rattle.cv_spec_text.specs.Numbers.{number_length, mantissa_length, fraction_length, exponent_length}
use Rattle.cv_spec_text.specs.Runs.{run_values, run_length}
use Rattle.std.proofs.lemmas.List.Elements.{All-from_recursion, All-append}
use Rattle.cv_spec_ratio.specs.Ratio.{Ratio}
use Rattle.cv_color.specs.Text.{channels_text, alpha_text, separated, closing}
use Rattle.cv_color.proofs.CleanText.{rgb_list, rgba_list}
use Rattle.cv_spec_text.specs.Splits.{IsSpelt}
use Rattle.cv_spec_text.specs.declared.token.Bracket.TheVariants.{Round}
use Rattle.cv_spec_text.specs.declared.token.Token.{Token}
use Rattle.cv_spec_text.specs.declared.token.Token.TheVariants.{Ident, Function, Number, White, Comma, Close}

tokens_of_ascii : (text : List ℕ) → IsAscii text → tokens text ≡ tokens_of (preprocessed text)
tokens_of_ascii text ascii = ap (λ cs. tokens_of (preprocessed cs)) (chars-IsAscii text ascii)

-- the one token of an ASCII text is spelt
pub spelt_by : (text : List ℕ) (token : Token) → IsAscii text → tokens_of (preprocessed text) ≡ token ∷ [] → IsSpelt token
spelt_by text token ascii is =
    let only : Contains (token ∷ []) token = (0, lit< tt, refl) in
    (text, IsUtf8-from_ascii text ascii, subst (λ ts. Contains ts token) (sym (tokens_of_ascii text ascii ∙ is)) only)

-- ---- numbers below 256, by a test that computes over all of them

abbrev is_number : List ℕ → List Token → Bool
is_number text (Number spelling ∷ []) = bytes_eq spelling text
is_number text _ = false

same_text : (xs ys : List ℕ) → bytes_eq xs ys ≡ true → xs ≡ ys
same_text xs ys t = grind (arith, bytes_eq-Decides xs ys, t)

number_is : (text : List ℕ) (ts : List Token) → is_number text ts ≡ true → ts ≡ Number text ∷ []
number_is text (Number spelling ∷ []) h = ap (λ s. Number s ∷ []) (same_text spelling text h)
number_is text _ h = cc

abbrev passes : ℕ → Bool
passes n = is_number (decimal n) (tokens_of (preprocessed (decimal n)))

all_below : ℕ → Bool
all_below zero = true
all_below (suc n) = passes n && all_below n

both : (a b : Bool) → (a && b) ≡ true → (a ≡ true) × (b ≡ true)
both true b h = (refl, h)
both false b h = cc

same_below : (m n : ℕ) → (m == n) ≡ true → m ≡ n
same_below m n e = grind (arith, nat_tests)

less_below : (m n : ℕ) → (m == n) ≡ false → m < suc n → m < n
less_below m n e h = grind (arith, nat_tests)

below : (m n : ℕ) → all_below n ≡ true → m < n → passes m ≡ true
unfolding all_below
below m zero h within = absurd (omega (arith, within))
below m (suc n) h within = by (m == n) refl (both (passes n) (all_below n) h).0 (below m n (both (passes n) (all_below n) h).1)
  where
    by : (b : Bool) → (m == n) ≡ b → passes n ≡ true → (m < n → passes m ≡ true) → passes m ≡ true
    by true e here others = subst (λ k. passes k ≡ true) (sym (same_below m n e)) here
    by false e here others = others (less_below m n e within)

all_pass : all_below 256 ≡ true
unfolding all_below digits run_values run_length first_row number_row begins_name number_length mantissa_length fraction_length exponent_length
all_pass = refl

pub number_spelt : (n : ℕ) → n < 256 → IsSpelt (Number (decimal n))
number_spelt n h = spelt_by (decimal n) (Number (decimal n)) (IsAscii-decimal n (omega (arith, h))) (number_is (decimal n) (tokens_of (preprocessed (decimal n))) (below n 256 all_pass h))

-- ---- words and punctuation

is_ascii_text : List ℕ → Bool
is_ascii_text [] = true
is_ascii_text (c ∷ cs) = nat_lt c 128 && is_ascii_text cs

below_128 : (c : ℕ) → nat_lt c 128 ≡ true → c < 128
below_128 c h = grind (arith, nat_tests)

ascii_by : (cs : List ℕ) → is_ascii_text cs ≡ true → IsAscii cs
unfolding is_ascii_text
ascii_by [] h i = lit< tt
ascii_by (c ∷ cs) h zero = below_128 c (both (nat_lt c 128) (is_ascii_text cs) h).0
ascii_by (c ∷ cs) h (suc i) = ascii_by cs (both (nat_lt c 128) (is_ascii_text cs) h).1 i

computed : (text : List ℕ) (token : Token) → is_ascii_text text ≡ true → tokens_of (preprocessed text) ≡ token ∷ [] → IsSpelt token
computed text token ascii is = spelt_by text token (ascii_by text ascii) is

rgb_spelt : IsSpelt (Function (codes "rgb"))
unfolding is_ascii_text run_values run_length first_row name_row name_piece_length name_piece_value begins_name number_length mantissa_length fraction_length exponent_length
rgb_spelt = computed (codes "rgb(") (Function (codes "rgb")) refl refl

rgba_spelt : IsSpelt (Function (codes "rgba"))
unfolding is_ascii_text run_values run_length first_row name_row name_piece_length name_piece_value begins_name number_length mantissa_length fraction_length exponent_length
rgba_spelt = computed (codes "rgba(") (Function (codes "rgba")) refl refl

current_spelt : IsSpelt (Ident (codes "currentcolor"))
unfolding is_ascii_text run_values run_length first_row name_row name_piece_length name_piece_value begins_name number_length mantissa_length fraction_length exponent_length
current_spelt = computed (codes "currentcolor") (Ident (codes "currentcolor")) refl refl

white_spelt : IsSpelt White
unfolding is_ascii_text run_values run_length first_row
white_spelt = computed (codes " ") White refl refl

comma_spelt : IsSpelt Comma
unfolding is_ascii_text run_values first_row begins_name single number_length mantissa_length fraction_length
comma_spelt = computed (codes ",") Comma refl refl

close_spelt : IsSpelt (Close Round)
unfolding is_ascii_text run_values first_row begins_name single number_length mantissa_length fraction_length
close_spelt = computed (codes ")") (Close Round) refl refl

-- ---- whole texts

abbrev pub Spelt : List Token → Type 0
Spelt = All IsSpelt

pub spelt_current : Spelt (Ident (codes "currentcolor") ∷ [])
spelt_current = All-from_recursion IsSpelt (Ident (codes "currentcolor") ∷ []) (current_spelt, tt)

pub spelt_opaque : (r g b : ℕ) → r < 256 → g < 256 → b < 256 → Spelt (rgb_list r g b)
spelt_opaque r g b hr hg hb =
    All-from_recursion IsSpelt (rgb_list r g b)
    (rgb_spelt, (number_spelt r hr, (comma_spelt, (white_spelt, (number_spelt g hg, (comma_spelt, (white_spelt, (number_spelt b hb, (close_spelt, tt)))))))))

before_alpha : ℕ → ℕ → ℕ → List Token
before_alpha r g b = Function (codes "rgba") ∷ channels_text r g b ++ separated []

before_spelt : (r g b : ℕ) → r < 256 → g < 256 → b < 256 → Spelt (before_alpha r g b)
unfolding before_alpha
before_spelt r g b hr hg hb =
    All-from_recursion IsSpelt (before_alpha r g b)
    (rgba_spelt, (number_spelt r hr, (comma_spelt, (white_spelt, (number_spelt g hg, (comma_spelt, (white_spelt, (number_spelt b hb, (comma_spelt, (white_spelt, tt))))))))))

pub spelt_alpha : (r g b : ℕ) (a : Ratio) → r < 256 → g < 256 → b < 256 → Spelt (alpha_text a) → Spelt (rgba_list r g b (alpha_text a))
unfolding before_alpha
spelt_alpha r g b a hr hg hb alpha =
    let last : Spelt closing = All-from_recursion IsSpelt closing (close_spelt, tt) in
    All-append IsSpelt (before_alpha r g b) (alpha_text a ++ closing) (before_spelt r g b hr hg hb) (All-append IsSpelt (alpha_text a) closing alpha last)
