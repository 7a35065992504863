-- A text has no more tokens than characters.
use Rattle.std.proofs.Common.{ℕ, suc, zero, pred, ◌≤◌, Bool, true, false, List, [], ◌∷◌, ◌++◌, length, Option, Some, None, length-append, arith}
use Rattle.std.specs.Prelude.{◌==◌, chars, if◌then◌else◌}
use Rattle.std.specs.Option.{option_to_list}
use Rattle.cv_spec_text.specs.declared.token.Token.{Token}
use Rattle.cv_spec_text.specs.Characters.{line_feed, form_feed, carriage_return, replacement_character, begins_with}
use Rattle.cv_spec_text.specs.Runs.{run_values, run_values_within, these_if}
use Rattle.cv_spec_text.specs.Text.{code_points, preprocessed}
use Rattle.cv_spec_text.specs.Tokens.{first_row, row_length, row_tokens, tokens}

module _ {A B : Type 0} (piece : List A → ℕ) (value : List A → List B) (one : (l : List A) → length (value l) ≤ 1) where
  few_within : (within : ℕ) (all : List A) → length (run_values_within piece value within all) ≤ length all
  few_within within [] = omega arith
  few_within (suc within) (x ∷ xs) = omega (arith, few_within within xs)
  few_within zero (x ∷ xs) = by (few_within (pred (piece (x ∷ xs))) xs) (piece (x ∷ xs))
    where
      by : length (run_values_within piece value (pred (piece (x ∷ xs))) xs) ≤ length xs
          → (n : ℕ) → length (these_if n (value (x ∷ xs) ++ run_values_within piece value (pred (piece (x ∷ xs))) xs)) ≤ suc (length xs)
      by rest zero = omega arith
      by rest (suc n) = omega (arith, length-append (value (x ∷ xs)) (run_values_within piece value (pred (piece (x ∷ xs))) xs), one (x ∷ xs))

  -- a run whose pieces give one value at most has no more values than there are elements
  pub run_values-few : (all : List A) → length (run_values piece value all) ≤ length all
  unfolding run_values
  run_values-few all = few_within 0 all

one_token : (text : List ℕ) → length (row_tokens text) ≤ 1
one_token text = by (first_row text).1
  where
    by : (token : Option Token) → length (option_to_list token) ≤ 1
    by None = omega arith
    by (Some token) = omega arith

-- preprocessing makes no text longer
preprocessed-le : (cs : List ℕ) → length (preprocessed cs) ≤ length cs
preprocessed-le [] = omega arith
preprocessed-le (c ∷ cs) = by (preprocessed-le cs) (c == carriage_return) (begins_with line_feed cs) (c == form_feed) (c == 0)
  where
    by : length (preprocessed cs) ≤ length cs → (returns breaks feeds none : Bool)
        → length (if returns then (if breaks then preprocessed cs else line_feed ∷ preprocessed cs)
        else (if feeds then line_feed ∷ preprocessed cs else (if none then replacement_character ∷ preprocessed cs else c ∷ preprocessed cs))) ≤ suc (length cs)
    by rest true true feeds none = omega arith
    by rest true false feeds none = omega arith
    by rest false breaks true none = omega arith
    by rest false breaks false true = omega arith
    by rest false breaks false false = omega arith

pub few_tokens : (text : List ℕ) → length (tokens text) ≤ length (chars text)
few_tokens text = omega (arith, run_values-few row_length row_tokens one_token (code_points text), preprocessed-le (chars text))
