-- Two different texts are told apart.
use Rattle.std.proofs.Common.{◌≡◌, ℕ, List, refl, sym}
use Rattle.std.specs.Prelude.{Bool, true, false, ◌≢◌, bytes_eq}
use Rattle.std.proofs.lemmas.Slice.Eq.{bytes_eq-Decides}

by_answer : (a b : List ℕ) (answer : Bool) → bytes_eq a b ≡ answer → b ≢ a → answer ≡ false
by_answer a b true is differs = absurd (differs (sym ((bytes_eq-Decides a b).0 is)))
by_answer a b false is differs = refl

pub told_apart : (a b : List ℕ) → b ≢ a → bytes_eq a b ≡ false
told_apart a b differs = by_answer a b (bytes_eq a b) refl differs
