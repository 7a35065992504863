-- Marks that spread along edges reach what is reached.
use Rattle.std.proofs.Common.{◌≡◌, ℕ, ◌+◌, ◌<◌, ◌≤◌, List, [], ◌∷◌, length, Bool, Some, ◌⊎◌, ◌↔◌, inl, inr, refl, sym, ◌∙◌, ap, subst, get_or, below_more, arith}
use Rattle.std.specs.Prelude.{slice_get, slice_index, Contains}
use Rattle.std.proofs.lemmas.Grind.{get_or_default_zero}
use Rattle.std.proofs.lemmas.Option.{get_or_from_slice_get, slice_get_within}
use Rattle.std.proofs.lemmas.List.Elements.{All-get_or}
use Rattle.cv_graph.specs.Edges.{IsGraph, targets, most_targets, HasEdge}
use Rattle.cv_spec_element.specs.Walks.{Walk, Reaches}
use Rattle.cv_cycle.specs.Marks.{IsMarked, StandsIn}
use Rattle.cv_cycle.specs.Spreading.{IsReached, AreFound, Grows}
use Rattle.cv_cycle.specs.declared.spread.Found.{Found}
use Rattle.cv_cycle.proofs.Along.{Reaches-push}

pub edge_at : (rows : List (List ℕ)) (node k to : ℕ) → slice_get (targets rows node) k ≡ Some to → HasEdge rows node to
edge_at rows node k to is = (k, slice_get_within (targets rows node) k to is, get_or_from_slice_get (targets rows node) k to to is)

pub reached_along : (rows : List (List ℕ)) (starts : List Bool) (node to : ℕ) → IsReached rows starts node → HasEdge rows node to → IsReached rows starts to
reached_along rows starts node to (inl marked) edge = inr (node, marked, ([], edge))
reached_along rows starts node to (inr far) edge = inr (far.0, far.1, Reaches-push (HasEdge rows) far.0 node to far.2 edge)

pub few_targets : (rows : List (List ℕ)) (node : ℕ) → IsGraph rows → node < length rows → length (targets rows node) ≤ most_targets
few_targets rows node graph below = All-get_or (λ row. length row ≤ most_targets) rows node [] below graph.few_targets

-- what holds of the first targets holds of all, where there are no more
pub each_target : (rows : List (List ℕ)) (node count : ℕ) (P : ℕ → Type 0) → length (targets rows node) ≤ count → ((k : ℕ) → k < count → k < length (targets rows node) → P (slice_index (targets rows node) k)) → (to : ℕ) → HasEdge rows node to → P to
each_target rows node count P few each to edge =
    let here : P (get_or (targets rows node) edge.0 0) = each edge.0 (omega (arith, edge.1)) edge.1 in
    subst P (sym (get_or_default_zero (targets rows node) edge.0 to edge.1) ∙ edge.2) here

-- the nodes of the list before the place have their targets marked, and so has one more
pub closed_more : (rows : List (List ℕ)) (s s' : Found) (place : ℕ) → place < length s.nodes.items → Grows s s' → ((i to : ℕ) → i < place → HasEdge rows (slice_index s.nodes.items i) to → IsMarked s.marks.items to) → ((to : ℕ) → HasEdge rows (slice_index s.nodes.items place) to → IsMarked s'.marks.items to) → (i to : ℕ) → i < place + 1 → HasEdge rows (slice_index s'.nodes.items i) to → IsMarked s'.marks.items to
closed_more rows s s' place below grows before here i to under =
    below_more (λ j. HasEdge rows (slice_index s'.nodes.items j) to → IsMarked s'.marks.items to) place (λ j less edge. grows.kept to (before j to less (subst (λ v. HasEdge rows v to) (grows.same j (omega arith)) edge))) (λ edge. here to (subst (λ v. HasEdge rows v to) (grows.same place below) edge)) i under

module _ (rows : List (List ℕ)) (starts : List Bool) (s : Found) (found : AreFound rows starts s) (begun : (node : ℕ) → IsMarked starts node → IsMarked s.marks.items node) (closed : (i to : ℕ) → i < length s.nodes.items → HasEdge rows (slice_index s.nodes.items i) to → IsMarked s.marks.items to) where
  along : (node to : ℕ) → IsMarked s.marks.items node → HasEdge rows node to → IsMarked s.marks.items to
  along node to marked edge =
      let there = found.listed node marked in
      closed there.0 to there.2 (subst (λ v. HasEdge rows v to) (sym there.3) edge)

  along_walk : (node : ℕ) (via : List ℕ) (to : ℕ) → IsMarked s.marks.items node → Walk (HasEdge rows) node via to → IsMarked s.marks.items to
  along_walk node [] to marked walk = along node to marked walk
  along_walk node (c ∷ via) to marked walk = along_walk c via to (along node c marked walk.0) walk.1

  pub all_reached : (node : ℕ) → IsMarked s.marks.items node ↔ IsReached rows starts node
  all_reached node = (to, from)
    where
      to : IsMarked s.marks.items node → IsReached rows starts node
      to marked =
          let there = found.listed node marked in
          subst (λ v. IsReached rows starts v) there.3 (found.reached there.0 there.2)

      from : IsReached rows starts node → IsMarked s.marks.items node
      from (inl marked) = begun node marked
      from (inr far) = along_walk far.0 far.2.0 node (begun far.0 far.1) far.2.1
