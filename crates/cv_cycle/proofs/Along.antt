-- Walks over a graph's edges.
use Rattle.std.proofs.Common.{◌≡◌, ℕ, ◌<◌, List, [], ◌∷◌, length, Some, inl, inr, ap, subst, arith}
use Rattle.std.specs.Prelude.{slice_get, All}
use Rattle.std.proofs.lemmas.Bool.{cases_lt}
use Rattle.std.proofs.lemmas.Option.{get_or_from_slice_get, slice_get_within}
use Rattle.std.proofs.lemmas.List.{get_or_past}
use Rattle.std.proofs.lemmas.List.Elements.{All-get_or}
use Rattle.cv_graph.specs.Edges.{IsGraph, targets, HasEdge}
use Rattle.cv_spec_element.specs.Walks.{Walk, Reaches, IsCyclic}

-- one more edge at the end of a walk
walk-push : (edge : ℕ → ℕ → Type 0) (p : ℕ) (via : List ℕ) (c q : ℕ) → Walk edge p via c → edge c q → (more : List ℕ) × Walk edge p more q
walk-push edge p [] c q walk last = (c ∷ [], (walk, last))
walk-push edge p (d ∷ via) c q walk last =
    let rest = walk-push edge d via c q walk.1 last in
    (d ∷ rest.0, (walk.0, rest.1))

pub Reaches-push : (edge : ℕ → ℕ → Type 0) (p c q : ℕ) → Reaches edge p c → edge c q → Reaches edge p q
Reaches-push edge p c q reaches last = walk-push edge p reaches.0 c q reaches.1 last

pub target_below : (rows : List (List ℕ)) (node k to : ℕ) → IsGraph rows → node < length rows → slice_get (targets rows node) k ≡ Some to → to < length rows
target_below rows node k to graph below is =
    let row : All (λ v. v < length rows) (targets rows node) = All-get_or (λ r. All (λ v. v < length rows) r) rows node [] below graph.in_range in
    subst (λ v. v < length rows) (get_or_from_slice_get (targets rows node) k to 0 is)
    (All-get_or (λ v. v < length rows) (targets rows node) k 0 (slice_get_within (targets rows node) k to is) row)

-- only a node has edges
pub HasEdge-from : (rows : List (List ℕ)) (from to : ℕ) → HasEdge rows from to → from < length rows
HasEdge-from rows from to edge =
    elim (cases_lt from (length rows)) [
      | inl below ↦ below
      | inr past ↦
          let none : length (targets rows from) ≡ 0 = ap (λ row. length row) (get_or_past rows from [] past) in
          absurd (omega (arith, edge.1))
    ]

pub IsCyclic-below : (rows : List (List ℕ)) (node : ℕ) → IsCyclic (HasEdge rows) node → node < length rows
IsCyclic-below rows node ([], edge) = HasEdge-from rows node node edge
IsCyclic-below rows node (c ∷ via, walk) = HasEdge-from rows node c walk.0
