-- The texts of a document are ASCII, and short.
use Rattle.std.proofs.Common.{◌≡◌, ◌∙◌, ap, ℕ, zero, suc, ◌+◌, ◌*◌, ◌<◌, ◌≤◌, ◌%◌, ◌==◌, Bool, true, false, ◌&&◌, List, [], ◌∷◌, ◌++◌, length, refl, arith, length-append}
use Rattle.std.specs.Prelude.{codes, decimal, nat_lt, IsAscii, if◌then◌else◌}
use Rattle.std.specs.List.{list_all}
use Rattle.std.proofs.lemmas.Bool.Decides.{nat_tests}
use Rattle.std.proofs.lemmas.Fmt.{IsAscii-decimal, length-decimal-le}
use Rattle.std.proofs.lemmas.Str.{IsAscii-append}
use Rattle.cv_gen.specs.Generated.{chain, link, sheet, style_end, style_of}

both : (a b : Bool) → (a && b) ≡ true → (a ≡ true) × (b ≡ true)
both true b h = (refl, h)
both false b h = cc

below : (b : ℕ) → nat_lt b 128 ≡ true → b < 128
below b h = grind (arith, nat_tests)

ascii : (bs : List ℕ) → list_all (λ b. nat_lt b 128) bs ≡ true → IsAscii bs
ascii [] h i = omega arith
ascii (b ∷ bs) h zero = below b (both _ _ h).0
ascii (b ∷ bs) h (suc i) = ascii bs (both _ _ h).1 i

-- ---- texts around a number, and around two

module _ (a b c : List ℕ) where
  ascii_three : IsAscii a → IsAscii b → IsAscii c → IsAscii (a ++ b ++ c)
  ascii_three ha hb hc = IsAscii-append (a ++ b) c (IsAscii-append a b ha hb) hc

  length_three : length (a ++ b ++ c) ≡ length a + length b + length c
  length_three = length-append (a ++ b) c ∙ ap (λ n. n + length c) (length-append a b)

ascii_five : (a b c d e : List ℕ) → IsAscii a → IsAscii b → IsAscii c → IsAscii d → IsAscii e → IsAscii (a ++ b ++ c ++ d ++ e)
ascii_five a b c d e ha hb hc hd he = ascii_three (a ++ b ++ c) d e (ascii_three a b c ha hb hc) hd he

length_five : (a b c d e : List ℕ) → length (a ++ b ++ c ++ d ++ e) ≡ length a + length b + length c + length d + length e
length_five a b c d e = length_three (a ++ b ++ c) d e ∙ ap (λ n. n + length d + length e) (length_three a b c)

-- ---- ASCII

pub sheet_is_ascii : IsAscii sheet
unfolding sheet
sheet_is_ascii = ascii (codes "@property --base { syntax: \"<length>\"; inherits: true; initial-value: 4px }") refl

pub link_is_ascii : (k : ℕ) → k < 40 → IsAscii (link k)
unfolding link
link_is_ascii k h =
    ascii_five (codes "--s") (decimal (k + 1)) (codes ": calc(var(--s") (decimal k) (codes ") + 1px); ")
    (ascii (codes "--s") refl) (IsAscii-decimal (k + 1) (omega arith)) (ascii (codes ": calc(var(--s") refl) (IsAscii-decimal k (omega arith)) (ascii (codes ") + 1px); ") refl)

pub chain_is_ascii : (n : ℕ) → n ≤ 40 → IsAscii (chain n)
unfolding chain
chain_is_ascii zero h = ascii (codes "--s0: var(--base); ") refl
chain_is_ascii (suc n) h = IsAscii-append (chain n) (link n) (chain_is_ascii n (omega arith)) (link_is_ascii n (omega arith))

few : (i : ℕ) → i % 41 < 41
few i = omega arith

pub style_end_is_ascii : (i : ℕ) → IsAscii (style_end i)
unfolding style_end
style_end_is_ascii i =
    ascii_three (codes "width: var(--s") (decimal (i % 41)) (codes "); padding-left: 1em; font-size: calc(100% + 1px)")
    (ascii (codes "width: var(--s") refl) (IsAscii-decimal (i % 41) (omega (arith, few i))) (ascii (codes "); padding-left: 1em; font-size: calc(100% + 1px)") refl)

pub first_is_ascii : IsAscii (chain 40 ++ style_end 0)
first_is_ascii = IsAscii-append (chain 40) (style_end 0) (chain_is_ascii 40 (omega arith)) (style_end_is_ascii 0)

-- ---- length

pub length-sheet : length sheet ≤ 1000
unfolding sheet
length-sheet = omega arith

length-link : (k : ℕ) → k < 40 → length (link k) ≤ 40
unfolding link
length-link k h =
    let parts = length_five (codes "--s") (decimal (k + 1)) (codes ": calc(var(--s") (decimal k) (codes ") + 1px); ") in
    omega (arith, parts, length-decimal-le 2 (k + 1) (omega arith) (omega arith) (omega arith), length-decimal-le 2 k (omega arith) (omega arith) (omega arith))

length-chain : (n : ℕ) → n ≤ 40 → length (chain n) ≤ 20 + n * 40
unfolding chain
length-chain zero h = omega arith
length-chain (suc n) h = omega (arith, length-append (chain n) (link n), length-chain n (omega arith), length-link n (omega arith))

length-style_end : (i : ℕ) → length (style_end i) ≤ 100
unfolding style_end
length-style_end i =
    let parts = length_three (codes "width: var(--s") (decimal (i % 41)) (codes "); padding-left: 1em; font-size: calc(100% + 1px)") in
    let small : i % 41 < 41 = few i in
    omega (arith, parts, length-decimal-le 2 (i % 41) (omega arith) (omega arith) (omega arith))

pub length-style_of : (i : ℕ) → length (style_of i) ≤ 2000
length-style_of i = go (i == 0)
  where
    go : (b : Bool) → length (if b then chain 40 ++ style_end 0 else style_end i) ≤ 2000
    go true = omega (arith, length-append (chain 40) (style_end 0), length-chain 40 (omega arith), length-style_end 0)
    go false = omega (arith, length-style_end i)
