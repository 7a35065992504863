-- Marks on nodes.
use Rattle.std.proofs.Common.{◌≡◌, ℕ, zero, suc, ◌+◌, ◌<◌, ◌≤◌, Bool, true, false, not, cond, List, [], ◌∷◌, length, replicate, get_or, set, ◌⊎◌, ◌↔◌, inl, inr, refl, sym, ◌∙◌, ap, arith}
use Rattle.std.proofs.lemmas.Bool.{cases_eq, cases_lt}
use Rattle.std.proofs.lemmas.List.{get_or-set_other, get_or_past}
use Rattle.std.proofs.lemmas.Grind.{get_or-set_at}
use Rattle.std.proofs.lemmas.List.Sums.{sum_by-cons}
use Rattle.cv_cycle.specs.Marks.{IsMarked, unmarked_count}

-- a marked node is a node
pub IsMarked-below : (marked : List Bool) (node : ℕ) → IsMarked marked node → node < length marked
IsMarked-below marked node is =
    elim (cases_lt node (length marked)) [
      | inl below ↦ below
      | inr past ↦ absurd (let e : get_or marked node false ≡ false = get_or_past marked node false past in cc)
    ]

-- a node that is marked after one more was marked is that one, or was marked before
pub IsMarked-set_cases : (marked : List Bool) (node other : ℕ) → IsMarked (set marked node true) other → IsMarked marked other ⊎ (node ≡ other)
IsMarked-set_cases marked node other is =
    elim (cases_eq other node) [
      | inl same ↦ inr (sym same)
      | inr apart ↦ inl (sym (get_or-set_other marked node other true false apart) ∙ is)
    ]

pub IsMarked-set : (marked : List Bool) (node other : ℕ) → IsMarked marked other → IsMarked (set marked node true) other
IsMarked-set marked node other is =
    let below : other < length marked = IsMarked-below marked other is in
    elim (cases_eq other node) [
      | inl same ↦ get_or-set_at marked node other true false same (omega arith)
      | inr apart ↦ get_or-set_other marked node other true false apart ∙ is
    ]

-- the marked nodes, after one more was marked
pub IsMarked-set_is : (marked : List Bool) (node : ℕ) → node < length marked → (v : ℕ) → (IsMarked marked v ⊎ (node ≡ v)) ↔ IsMarked (set marked node true) v
IsMarked-set_is marked node below v = (to, IsMarked-set_cases marked node v)
  where
    to : IsMarked marked v ⊎ (node ≡ v) → IsMarked (set marked node true) v
    to (inl old) = IsMarked-set marked node v old
    to (inr same) = get_or-set_at marked node v true false (sym same) below

pub unmarked_at : (marked : List Bool) (node : ℕ) → ¬ IsMarked marked node → get_or marked node false ≡ false
unmarked_at marked node none = by_flag (get_or marked node false) refl
  where
    by_flag : (b : Bool) → get_or marked node false ≡ b → get_or marked node false ≡ false
    by_flag true is = absurd (none is)
    by_flag false is = is

-- one node fewer has no mark
pub unmarked_count-set : (marked : List Bool) (node : ℕ) → node < length marked → get_or marked node false ≡ false → unmarked_count (set marked node true) + 1 ≡ unmarked_count marked
unmarked_count-set [] node below none = absurd (omega arith)
unmarked_count-set (flag ∷ marked) zero below none =
    let one : ◌≡◌ {A = ℕ} (cond (not flag) 1 0) 1 = ap (λ b. cond (not b) 1 0) none in
    omega (arith, one, sum_by-cons (λ b. cond (not b) 1 0) flag marked, sum_by-cons (λ b. cond (not b) 1 0) true marked)
unmarked_count-set (flag ∷ marked) (suc node) below none =
    let rest : unmarked_count (set marked node true) + 1 ≡ unmarked_count marked = unmarked_count-set marked node (omega arith) none in
    omega (arith, rest, sum_by-cons (λ b. cond (not b) 1 0) flag marked, sum_by-cons (λ b. cond (not b) 1 0) flag (set marked node true))

pub unmarked_count-least : (marked : List Bool) → unmarked_count marked ≤ length marked
unmarked_count-least [] = omega arith
unmarked_count-least (true ∷ marked) =
    let rest : unmarked_count marked ≤ length marked = unmarked_count-least marked in
    omega (arith, rest, sum_by-cons (λ b. cond (not b) 1 0) true marked)
unmarked_count-least (false ∷ marked) =
    let rest : unmarked_count marked ≤ length marked = unmarked_count-least marked in
    omega (arith, rest, sum_by-cons (λ b. cond (not b) 1 0) false marked)

pub unmarked_count-fresh : (nodes : ℕ) → unmarked_count (replicate nodes false) ≡ nodes
unmarked_count-fresh zero = omega arith
unmarked_count-fresh (suc nodes) =
    omega (arith, unmarked_count-fresh nodes, sum_by-cons (λ b. cond (not b) 1 0) false (replicate nodes false))

-- where each node has a mark, none has none
pub unmarked_count-none : (marked : List Bool) → ((v : ℕ) → v < length marked → IsMarked marked v) → unmarked_count marked ≡ 0
unmarked_count-none [] all = omega arith
unmarked_count-none (flag ∷ marked) all =
    let none : ◌≡◌ {A = ℕ} (cond (not flag) 1 0) 0 = ap (λ b. cond (not b) 1 0) (all 0 (omega arith)) in
    let rest : unmarked_count marked ≡ 0 = unmarked_count-none marked (λ v below. all (suc v) (omega arith)) in
    omega (arith, none, rest, sum_by-cons (λ b. cond (not b) 1 0) flag marked)

pub none_marked-fresh : (nodes node : ℕ) → ¬ IsMarked (replicate nodes false) node
none_marked-fresh nodes node is = let clash : true ≡ false = sym is ∙ get_or-fresh nodes node in cc
  where
    get_or-fresh : (n v : ℕ) → get_or (replicate n false) v false ≡ false
    get_or-fresh zero v = refl
    get_or-fresh (suc n) zero = refl
    get_or-fresh (suc n) (suc v) = get_or-fresh n v
