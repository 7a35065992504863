-- A term goes past each item with which it can't be joined.
use Rattle.std.specs.Prelude.{Bool, true, false, ◌&&◌, List, [], ◌∷◌, ◌++◌, Option, Some, None, option_map, fold, map, slice_set}
use Rattle.std.proofs.Common.{◌≡◌, ℕ, zero, suc, ◌+◌, ◌<◌, ◌≤◌, length, take, drop, reverse, get_or, refl, sym, ◌∙◌, ap, ap₂, arith}
use Rattle.std.proofs.lemmas.List.{reverse-append}
use Rattle.cv_spec_ratio.specs.Ratio.{Ratio}
use Rattle.cv_calc.specs.declared.calc.Calc.{Calc}
use Rattle.cv_calc.specs.declared.calc.Calc.TheViews.{out-Calc}
use Rattle.cv_simplify.specs.declared.joining.Joining.{Joining}
use Rattle.cv_simplify.specs.declared.joining.Joined.TheVariants.{Apart, Outside, One}
use Rattle.cv_simplify.specs.declared.joining.Joining.TheVariants as joining
use Rattle.cv_simplify.specs.Checked.{joined_within, term_first, with_term, with_further, with_terms, further, term_scaled, with_scaled, is_num, and_num, all_nums}
use Rattle.cv_simplify.proofs.Folds.{stays, absorbed, absorbed_here}

module _ (how : Joining) (d : Calc) where
  -- what stands before a place, and the rest with the term
  abbrev pub passed : ℕ → List Calc → Option (List Calc)
  passed i row = option_map (λ more. take i row ++ more) (with_term how (drop i row) d)

  pub option_cons : (c : Calc) (before : List Calc) (o : Option (List Calc)) → option_map (λ more. c ∷ (before ++ more)) o ≡ option_map (λ ds. c ∷ ds) (option_map (λ more. before ++ more) o)
  option_cons c before None = refl
  option_cons c before (Some more) = refl

  no_more : (o : Option (List Calc)) → option_map (λ more. [] ++ more) o ≡ o
  no_more None = refl
  no_more (Some more) = refl

  pub passed-zero : (row : List Calc) → with_term how row d ≡ passed zero row
  passed-zero row = sym (no_more (with_term how row d))

  pub passed-suc : (i : ℕ) (row : List Calc) (c : Calc) → i < length row → joined_within how (get_or row i c) d ≡ Apart → passed i row ≡ passed (i + 1) row
  unfolding with_term
  passed-suc i row c h none = go i row h none ∙ ap (λ k. passed k row) (next i)
    where
      next : (i : ℕ) → suc i ≡ i + 1
      next i = omega arith

      go : (i : ℕ) (row : List Calc) → i < length row → joined_within how (get_or row i c) d ≡ Apart → passed i row ≡ passed (suc i) row
      go i [] h none = absurd (omega arith)
      go zero (x ∷ xs) h none = no_more _ ∙ ap (λ o. term_first o x xs (with_term how xs d)) none
      go (suc i) (x ∷ xs) h none = option_cons x (take i xs) _ ∙ ap (option_map (λ ds. x ∷ ds)) (go i xs (omega arith) none) ∙ sym (option_cons x (take (suc i) xs) _)

  pub passed-set : (i : ℕ) (row : List Calc) (c e : Calc) → i < length row → joined_within how (get_or row i c) d ≡ One e → passed i row ≡ Some (slice_set row i e)
  unfolding with_term
  passed-set i [] c e h is = absurd (omega arith)
  passed-set zero (x ∷ xs) c e h is = no_more _ ∙ ap (λ o. term_first o x xs (with_term how xs d)) is
  passed-set (suc i) (x ∷ xs) c e h is = option_cons x (take i xs) _ ∙ ap (option_map (λ ds. x ∷ ds)) (passed-set i xs c e (omega arith) is)

  pub passed-outside : (i : ℕ) (row : List Calc) (c : Calc) → i < length row → joined_within how (get_or row i c) d ≡ Outside → passed i row ≡ None
  unfolding with_term
  passed-outside i [] c h is = absurd (omega arith)
  passed-outside zero (x ∷ xs) c h is = no_more _ ∙ ap (λ o. term_first o x xs (with_term how xs d)) is
  passed-outside (suc i) (x ∷ xs) c h is = option_cons x (take i xs) _ ∙ ap (option_map (λ ds. x ∷ ds)) (passed-outside i xs c (omega arith) is)

  pub passed-end : (row : List Calc) (i : ℕ) → length row ≤ i → passed i row ≡ Some (row ++ d ∷ [])
  unfolding with_term
  passed-end [] zero h = refl
  passed-end [] (suc i) h = refl
  passed-end (x ∷ xs) zero h = absurd (omega arith)
  passed-end (x ∷ xs) (suc i) h = option_cons x (take i xs) _ ∙ ap (option_map (λ ds. x ∷ ds)) (passed-end xs i (omega arith))

-- a term that can't be joined within bounds ends a row
pub ends : (row rest : List Calc) (t : Calc) → with_term joining.Sum row t ≡ None → with_terms row (reverse (rest ++ t ∷ [])) ≡ None
ends row rest t none =
    ap (with_terms row) (reverse-append rest (t ∷ [])) ∙ ap (λ o. fold with_further o (reverse rest)) none ∙ stays with_further None (λ c. refl) (reverse rest)

-- a step for which there is nothing, or that comes to nothing, ends a fold
pub ended_without : {S A B : Type 0} (f : S → A → Option S) (g : B → Option A) (start : Option S) (xs : List B) (i : ℕ) (d : B) (s : S) → i < length xs →
    Some s ≡ fold (further f) start (map g (take i xs)) → g (get_or xs i d) ≡ None → fold (further f) start (map g xs) ≡ None
ended_without f g start xs i d s h is none = absorbed (further f) None (λ a. refl) g start xs i d h (ap₂ (further f) (sym is) none)

pub ended_at : {S A B : Type 0} (f : S → A → Option S) (g : B → Option A) (start : Option S) (xs : List B) (i : ℕ) (d : B) (s : S) (a : A) → i < length xs →
    Some s ≡ fold (further f) start (map g (take i xs)) → g (get_or xs i d) ≡ Some a → f s a ≡ None → fold (further f) start (map g xs) ≡ None
ended_at f g start xs i d s a h is item none = absorbed (further f) None (λ b. refl) g start xs i d h (ap₂ (further f) (sym is) item ∙ none)

pub scaled_ends : (n : Ratio) (xs : List Calc) (i : ℕ) (d : Calc) (row : List Calc) → i < length xs →
    Some row ≡ fold (with_scaled n) (Some []) (take i xs) → term_scaled n (get_or xs i d) ≡ None → fold (with_scaled n) (Some []) xs ≡ None
scaled_ends n xs i d row h is none = absorbed_here (with_scaled n) None (λ a. refl) (Some []) xs i d h (ap₂ (further (λ r e. Some (r ++ e ∷ []))) (sym is) none)

-- a term that is no number ends the test of all
pub nums_end : (xs : List Calc) (i : ℕ) (d : Calc) → i < length xs → is_num (out-Calc (get_or xs i d)) ≡ false → all_nums xs ≡ false
nums_end xs i d h none = absorbed_here and_num false (λ a. refl) true xs i d h (ap₂ (λ a b. a && b) refl none ∙ and_false (all_nums (take i xs)))
  where
    and_false : (b : Bool) → (b && false) ≡ false
    and_false true = refl
    and_false false = refl
