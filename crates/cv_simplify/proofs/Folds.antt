-- A fold that has come to a state which nothing changes.
use Rattle.std.specs.Prelude.{List, [], ◌∷◌, fold, map}
use Rattle.std.proofs.Common.{◌≡◌, ℕ, zero, suc, ◌<◌, length, take, get_or, refl, ◌∙◌, ap, arith}

module _ {S A : Type 0} (step : S → A → S) (s : S) (stuck : (a : A) → step s a ≡ s) where
  pub stays : (xs : List A) → fold step s xs ≡ s
  stays [] = refl
  stays (x ∷ xs) = ap (λ t. fold step t xs) (stuck x) ∙ stays xs

  pub absorbed : {B : Type 0} (f : B → A) (start : S) (xs : List B) (i : ℕ) (d : B) → i < length xs →
      step (fold step start (map f (take i xs))) (f (get_or xs i d)) ≡ s → fold step start (map f xs) ≡ s
  absorbed f start [] i d h e = absurd (omega arith)
  absorbed f start (x ∷ xs) zero d h e = ap (λ t. fold step t (map f xs)) e ∙ stays (map f xs)
  absorbed f start (x ∷ xs) (suc i) d h e = absorbed f (step start (f x)) xs i d (omega arith) e

  pub absorbed_here : (start : S) (xs : List A) (i : ℕ) (d : A) → i < length xs →
      step (fold step start (take i xs)) (get_or xs i d) ≡ s → fold step start xs ≡ s
  absorbed_here start [] i d h e = absurd (omega arith)
  absorbed_here start (x ∷ xs) zero d h e = ap (λ t. fold step t xs) e ∙ stays xs
  absorbed_here start (x ∷ xs) (suc i) d h e = absorbed_here (step start x) xs i d (omega arith) e
