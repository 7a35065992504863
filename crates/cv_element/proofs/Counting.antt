-- Rows of numbers that each stand once, and how long they are together.
use Rattle.std.proofs.Common.{◌≡◌, ℕ, suc, ◌+◌, ◌<◌, ◌≤◌, zero-le, Bool, true, false, List, [], ◌∷◌, ◌++◌, length, get_or, inl, inr, refl, sym, ◌∙◌, ap, subst, arith}
use Rattle.std.specs.Prelude.{Contains, eqb, sum_by, slice_get}
use Rattle.std.specs.List.{IsDistinct, list_any}
use Rattle.std.proofs.lemmas.Bool.{eqb-true}
use Rattle.std.proofs.lemmas.Cmp.{nat_eq_equiv}
use Rattle.std.proofs.lemmas.List.{length_push}
use Rattle.std.proofs.lemmas.List.Elements.{Contains-push_cases}
use Rattle.std.proofs.lemmas.List.Sums.{sum_by-cons}
use Rattle.std.proofs.lemmas.Map.Keys.{IsDistinct-push}
use Rattle.std.proofs.lemmas.Map.Steps.{length-le_from_distinct_below}
use Rattle.std.proofs.lemmas.Map.Views.{Contains-from_any}

module _ (row : List ℕ) (to : ℕ) (once : IsDistinct eqb row) (new : ¬ Contains row to) where
  absent : list_any (eqb to) row ≡ false
  absent = by (list_any (eqb to) row) refl
    where
      by : (b : Bool) → list_any (eqb to) row ≡ b → list_any (eqb to) row ≡ false
      by true is = absurd (new (Contains-from_any eqb-true to row is))
      by false is = is

  -- the row goes on with a new number
  pub once-push : IsDistinct eqb (row ++ to ∷ [])
  once-push = IsDistinct-push nat_eq_equiv row to once absent

  -- a row of numbers below n, each once, has room for a new one
  pub has_room : (n : ℕ) → ((x : ℕ) → Contains row x → x < n) → to < n → length row < n
  has_room n below within = omega (arith, length_push row to, length-le_from_distinct_below (row ++ to ∷ []) n once-push all_below)
    where
      all_below : (q : ℕ) → list_any (eqb q) (row ++ to ∷ []) ≡ true → q < n
      all_below q has =
          elim (Contains-push_cases row to q (Contains-from_any eqb-true q (row ++ to ∷ []) has)) [
            | inl old ↦ below q old
            | inr same ↦ subst (λ x. x < n) same within
          ]

pub once-none : IsDistinct eqb []
unfolding IsDistinct
once-none = tt
