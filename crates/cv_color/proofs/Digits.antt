-- Hexadecimal digits are ASCII, so that a text has them as characters where it has them as bytes.
use Rattle.std.specs.Prelude.{ℕ, zero, suc, Bool, true, false, ◌&&◌, ◌<◌, List, [], ◌∷◌, ◌++◌, length, chars, encode_utf8_all, IsUtf8, IsAscii, None}
use Rattle.std.specs.List.{list_all}
use Rattle.std.specs.Char.{is_ascii_hexdigit, digit_value}
use Rattle.std.proofs.Common.{◌≡◌, get_or, refl, sym, ◌∙◌, ap, ap₂, arith, lit<}
use Rattle.std.proofs.lemmas.Bool.Decides.{nat_tests}
use Rattle.std.proofs.lemmas.List.Folds.{list_all_at}
use Rattle.std.proofs.lemmas.Str.{chars-IsAscii, encode_ascii, encodes-chars}
use Rattle.cv_color.specs.Hex.{of_digits, hex}

pub digit_small : (c : ℕ) → is_ascii_hexdigit c ≡ true → digit_value c < 16
digit_small c h = grind (arith, nat_tests)

ascii_digit : (c : ℕ) → is_ascii_hexdigit c ≡ true → c < 128
ascii_digit c h = grind (arith, nat_tests)

both : (a b : Bool) → (a && b) ≡ true → (a ≡ true) × (b ≡ true)
both true b h = (refl, h)
both false b h = cc

-- each digit of a list of digits is one
pub digit_at : (cs : List ℕ) (i d : ℕ) → list_all is_ascii_hexdigit cs ≡ true → i < length cs → is_ascii_hexdigit (get_or cs i d) ≡ true
digit_at cs i d h within = by (is_ascii_hexdigit (get_or cs i d)) refl
  where
    by : (b : Bool) → is_ascii_hexdigit (get_or cs i d) ≡ b → is_ascii_hexdigit (get_or cs i d) ≡ true
    by true e = e
    by false e = let other = list_all_at is_ascii_hexdigit cs i d within e in cc

ascii_digits : (cs : List ℕ) → list_all is_ascii_hexdigit cs ≡ true → IsAscii cs
ascii_digits [] h i = lit< tt
ascii_digits (c ∷ cs) h zero = ascii_digit c (both (is_ascii_hexdigit c) (list_all is_ascii_hexdigit cs) h).0
ascii_digits (c ∷ cs) h (suc i) = ascii_digits cs (both (is_ascii_hexdigit c) (list_all is_ascii_hexdigit cs) h).1 i

encoded : (cs : List ℕ) → list_all is_ascii_hexdigit cs ≡ true → encode_utf8_all cs ≡ cs
encoded [] h = refl
encoded (c ∷ cs) h =
    let (here, there) = both (is_ascii_hexdigit c) (list_all is_ascii_hexdigit cs) h in
    ap₂ (λ (a b : List ℕ). a ++ b) (encode_ascii c (ascii_digit c here)) (encoded cs there)

pub hex-chars : (bs : List ℕ) → IsUtf8 bs → hex bs ≡ hex (chars bs)
hex-chars bs utf8 = by (list_all is_ascii_hexdigit bs) refl (list_all is_ascii_hexdigit (chars bs)) refl
  where
    by : (s : Bool) → list_all is_ascii_hexdigit bs ≡ s → (t : Bool) → list_all is_ascii_hexdigit (chars bs) ≡ t → hex bs ≡ hex (chars bs)
    by true e t f = ap hex (sym (chars-IsAscii bs (ascii_digits bs e)))
    by false e true f = ap hex (sym (encodes-chars bs utf8) ∙ encoded (chars bs) f)
    by false e false f = rw (e, f) refl

-- no other number of digits has a colour
pub other_length : (cs : List ℕ) → (length cs ≡ 3 → ⊥) → (length cs ≡ 4 → ⊥) → (length cs ≡ 6 → ⊥) → (length cs ≡ 8 → ⊥) → of_digits cs ≡ None
other_length [] h3 h4 h6 h8 = refl
other_length (a ∷ []) h3 h4 h6 h8 = refl
other_length (a ∷ b ∷ []) h3 h4 h6 h8 = refl
other_length (a ∷ b ∷ c ∷ []) h3 h4 h6 h8 = absurd (h3 refl)
other_length (a ∷ b ∷ c ∷ d ∷ []) h3 h4 h6 h8 = absurd (h4 refl)
other_length (a ∷ b ∷ c ∷ d ∷ e ∷ []) h3 h4 h6 h8 = refl
other_length (a ∷ b ∷ c ∷ d ∷ e ∷ f ∷ []) h3 h4 h6 h8 = absurd (h6 refl)
other_length (a ∷ b ∷ c ∷ d ∷ e ∷ f ∷ g ∷ []) h3 h4 h6 h8 = refl
other_length (a ∷ b ∷ c ∷ d ∷ e ∷ f ∷ g ∷ h ∷ []) h3 h4 h6 h8 = absurd (h8 refl)
other_length (a ∷ b ∷ c ∷ d ∷ e ∷ f ∷ g ∷ h ∷ i ∷ more) h3 h4 h6 h8 = refl
