-- A table of ASCII words, by a test that computes.
use Rattle.std.proofs.Common.{◌≡◌, ◌<◌, ℕ, zero, suc, Bool, true, false, ◌&&◌, List, [], ◌∷◌, refl, arith}
use Rattle.std.specs.Prelude.{nat_lt, IsAscii}
use Rattle.std.specs.Borrow.{Bor}
use Rattle.std.specs.List.{All, list_all}
use Rattle.std.proofs.lemmas.Bool.Decides.{nat_tests}

abbrev pub are_ascii : List (Bor (List ℕ)) → Bool
are_ascii words = list_all (λ word. list_all (λ b. nat_lt b 128) word.now) words

both : (a b : Bool) → (a && b) ≡ true → (a ≡ true) × (b ≡ true)
both true b h = (refl, h)
both false b h = cc

below : (b : ℕ) → nat_lt b 128 ≡ true → b < 128
below b h = grind (arith, nat_tests)

ascii : (bs : List ℕ) → list_all (λ b. nat_lt b 128) bs ≡ true → IsAscii bs
ascii [] h i = omega arith
ascii (b ∷ bs) h zero = below b (both _ _ h).0
ascii (b ∷ bs) h (suc i) = ascii bs (both _ _ h).1 i

pub all_ascii : (words : List (Bor (List ℕ))) → are_ascii words ≡ true → All (λ word. IsAscii word.now) words
all_ascii [] h k d lt = absurd (omega arith)
all_ascii (word ∷ words) h zero d lt = ascii word.now (both _ _ h).0
all_ascii (word ∷ words) h (suc k) d lt = all_ascii words (both _ _ h).1 k d (omega arith)
