-- One more piece of a run of pieces that each take something.
use Rattle.std.proofs.Common.{◌≡◌, ℕ, ◌<◌, ◌≤◌, List, ◌++◌, length, drop, sym, ◌∙◌, ap, append_assoc}
use Rattle.cv_spec_text.specs.Runs.{run_values}
use Rattle.cv_spec_text.proofs.Runs.{run_values-more}

pub run_read : {A B : Type 0} (size : List A → ℕ) (value : List A → List B) (whole read more : List B) (rest : List A) (n : ℕ)
    → read ++ run_values size value rest ≡ whole → size rest ≡ n → 0 < n → n ≤ length rest → value rest ≡ more
    → (read ++ more) ++ run_values size value (drop n rest) ≡ whole
run_read size value whole read more rest n was size_is some fits value_is =
    append_assoc read more (run_values size value (drop n rest))
    ∙ ap (λ ys. read ++ ys) (ap (λ ys. ys ++ run_values size value (drop n rest)) (sym value_is) ∙ sym (run_values-more size value n rest size_is some fits))
    ∙ was
