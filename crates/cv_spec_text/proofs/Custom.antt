-- The name of a custom property is told by its bytes.
use Rattle.std.proofs.Common.{◌≡◌, ℕ, ◌<◌, List, [], ◌∷◌, ◌++◌, length, refl, sym, ◌∙◌, ap, subst, arith, length-append, lit<}
use Rattle.std.specs.Prelude.{Bool, true, false, ◌==◌, ◌&&◌, chars, encode_utf8, encode_utf8_all, IsUtf8}
use Rattle.std.proofs.lemmas.Str.{cons_from_encodes, encode_ascii, encodes-chars, length-encode, len_utf8_bounds}
use Rattle.std.proofs.lemmas.Bool.Decides.{nat_tests}
use Rattle.cv_spec_text.specs.Characters.{hyphen}
use Rattle.cv_spec_text.specs.Keywords.{is_custom}

-- two tests that imply each other have one answer
both_ways : (a b : Bool) → (a ≡ true → b ≡ true) → (b ≡ true → a ≡ true) → a ≡ b
both_ways true true there back = refl
both_ways false false there back = refl
both_ways true false there back = sym (there refl)
both_ways false true there back = back refl

both : (a b : Bool) → (a && b) ≡ true → (a ≡ true) × (b ≡ true)
both true b holds = (refl, holds)
both false b holds = cc

same_number : (a b : ℕ) → (a == b) ≡ true → a ≡ b
same_number a b same = grind (arith, nat_tests)

hyphen_bytes : encode_utf8 hyphen ≡ hyphen ∷ []
hyphen_bytes = encode_ascii hyphen (lit< tt)

-- a hyphen is written in front of bytes
after_hyphen : (rest : List ℕ) → hyphen ∷ rest ≡ encode_utf8 hyphen ++ rest
after_hyphen rest = ap (λ (l : List ℕ). l ++ rest) (sym hyphen_bytes)

hyphens_behind : (fs : List ℕ) (d : ℕ) (more : List ℕ) → encode_utf8_all fs ≡ d ∷ more → is_custom (hyphen ∷ hyphen ∷ fs) ≡ true
hyphens_behind [] d more same = cc
hyphens_behind (f ∷ fs) d more same = refl

-- bytes that begin so have such characters
from_bytes : (bs cs : List ℕ) → encode_utf8_all cs ≡ bs → is_custom bs ≡ true → is_custom cs ≡ true
from_bytes [] cs same custom = cc
from_bytes (a ∷ []) cs same custom = cc
from_bytes (a ∷ b ∷ []) cs same custom = cc
from_bytes (a ∷ b ∷ d ∷ more) cs same custom =
    let (first, second) = both (a == hyphen) (b == hyphen) custom in
    let a_is : a ≡ hyphen = same_number a hyphen first in
    let b_is : b ≡ hyphen = same_number b hyphen second in
    let (es, cs_is, es_same) = cons_from_encodes cs (b ∷ d ∷ more) hyphen (same ∙ ap (λ (x : ℕ). x ∷ b ∷ d ∷ more) a_is ∙ after_hyphen (b ∷ d ∷ more)) in
    let (fs, es_is, fs_same) = cons_from_encodes es (d ∷ more) hyphen (es_same ∙ ap (λ (x : ℕ). x ∷ d ∷ more) b_is ∙ after_hyphen (d ∷ more)) in
    ap is_custom (cs_is ∙ ap (λ (l : List ℕ). hyphen ∷ l) es_is) ∙ hyphens_behind fs d more fs_same

custom_by_length : (rest : List ℕ) → 0 < length rest → is_custom (hyphen ∷ hyphen ∷ rest) ≡ true
custom_by_length [] some = absurd (omega (arith, some))
custom_by_length (c ∷ cs) some = refl

-- such characters have such bytes
from_characters : (cs : List ℕ) → is_custom cs ≡ true → is_custom (encode_utf8_all cs) ≡ true
from_characters [] custom = cc
from_characters (a ∷ []) custom = cc
from_characters (a ∷ b ∷ []) custom = cc
from_characters (a ∷ b ∷ c ∷ cs) custom =
    let (first, second) = both (a == hyphen) (b == hyphen) custom in
    let a_is : a ≡ hyphen = same_number a hyphen first in
    let b_is : b ≡ hyphen = same_number b hyphen second in
    let rest = encode_utf8 c ++ encode_utf8_all cs in
    let some : 0 < length rest =
    omega (arith, length-append (encode_utf8 c) (encode_utf8_all cs), length-encode c, (len_utf8_bounds c).0) in
    ap (λ (l : List ℕ). is_custom (encode_utf8_all l)) (ap (λ (x : ℕ). x ∷ b ∷ c ∷ cs) a_is ∙ ap (λ (x : ℕ). hyphen ∷ x ∷ c ∷ cs) b_is)
    ∙ ap is_custom (sym (after_hyphen (encode_utf8 hyphen ++ rest)) ∙ ap (λ (l : List ℕ). hyphen ∷ l) (sym (after_hyphen rest)))
    ∙ custom_by_length rest some

pub is_custom-chars : (bs : List ℕ) → IsUtf8 bs → is_custom bs ≡ is_custom (chars bs)
is_custom-chars bs utf8 =
    let same = encodes-chars bs utf8 in
    both_ways (is_custom bs) (is_custom (chars bs)) (from_bytes bs (chars bs) same)
    (λ custom. subst (λ (l : List ℕ). is_custom l ≡ true) same (from_characters (chars bs) custom))
