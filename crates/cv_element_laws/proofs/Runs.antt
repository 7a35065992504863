-- What holds of the values of a run.
use Rattle.std.proofs.Common.{ℕ, suc, zero, pred, List, [], ◌∷◌, ◌++◌}
use Rattle.std.specs.Prelude.{All}
use Rattle.std.proofs.lemmas.List.Elements.{All-nil, All-tail, All-append}
use Rattle.cv_spec_text.specs.Runs.{run_values, run_values_within, these_if}

module _ {A B : Type 0} (size : List A → ℕ) (value : List A → List B) (P : A → Type 0) (Q : B → Type 0) (each : (l : List A) → All P l → All Q (value l)) where
  all_within : (within : ℕ) (all : List A) → All P all → All Q (run_values_within size value within all)
  all_within within [] holds = All-nil Q
  all_within (suc within) (x ∷ xs) holds = all_within within xs (All-tail P x xs holds)
  all_within zero (x ∷ xs) holds = by (all_within (pred (size (x ∷ xs))) xs (All-tail P x xs holds)) (size (x ∷ xs))
    where
      by : All Q (run_values_within size value (pred (size (x ∷ xs))) xs) → (n : ℕ) → All Q (these_if n (value (x ∷ xs) ++ run_values_within size value (pred (size (x ∷ xs))) xs))
      by rest zero = All-nil Q
      by rest (suc n) = All-append Q (value (x ∷ xs)) _ (each (x ∷ xs) holds) rest

  -- what holds of the values of lists whose elements are so holds of the values of the run
  pub run_values-All : (all : List A) → All P all → All Q (run_values size value all)
  unfolding run_values
  run_values-All all holds = all_within 0 all holds
