-- A component was closed: the order of the nodes of complete components goes on along the edges.
use Rattle.std.proofs.Common.{◌≡◌, ℕ, suc, ◌+◌, ◌-◌, ◌<◌, ◌≤◌, ◌↔◌, zero-le, List, [], get_or, ◌⊎◌, inl, inr, refl, sym, ◌∙◌, ap, subst, arith}
use Rattle.std.proofs.lemmas.Bool.{cases_lt}
use Rattle.cv_graph.specs.Edges.{HasEdge}
use Rattle.cv_spec_element.specs.Walks.{IsCyclic}
use Rattle.cv_cycle.specs.Marks.{StandsIn}
use Rattle.cv_cycle.specs.Search.{edge, StandsFrom, IsTarget, IsOrdered}
use Rattle.cv_cycle.proofs.Readings.{edge_from_HasEdge, IsCyclic-IsTarget}

module _ (rows : List (List ℕ)) (stack : ℕ → ℕ) (size top : ℕ) (IsClosed IsClosed' IsFlagged : ℕ → Type 0) (order order' : List ℕ) (done : ℕ) (before : IsOrdered rows order done IsClosed) (unclosed : (i : ℕ) → i < size → ¬ IsClosed (stack i)) (apart : (i j : ℕ) → i < size → j < size → stack i ≡ stack j → i ≡ j) (closed_are : (v : ℕ) → (IsClosed v ⊎ StandsFrom stack size top v) ↔ IsClosed' v) (kept : (v w : ℕ) → IsClosed' v → edge (IsTarget rows) v w → IsClosed' w) (sound : (v : ℕ) → IsFlagged v → IsCyclic (edge (IsTarget rows)) v) (flagged : (i : ℕ) → top ≤ i → i < size → suc top < size → IsFlagged (stack i)) (same : (i : ℕ) → i < done → get_or order' i 0 ≡ get_or order i 0) (copied : (i : ℕ) → i < size - top → get_or order' (done + i) 0 ≡ stack (top + i)) where
  abbrev at : ℕ → ℕ
  at i = get_or order' i 0

  -- a place behind the old ones has a node of the component
  new_at : (i : ℕ) → done ≤ i → i < done + (size - top) → at i ≡ stack (top + (i - done))
  new_at i from below =
      let place : done + (i - done) ≡ i = omega arith in
      subst (λ j. at j ≡ stack (top + (i - done))) place (copied (i - done) (omega arith))

  new_within : (i : ℕ) → done ≤ i → i < done + (size - top) → top + (i - done) < size
  new_within i from below = omega arith

  closed_at : (i : ℕ) → i < done → IsClosed (at i)
  closed_at i below = (before.written (at i)).1 (i, zero-le, below, sym (same i below))

  old_stands : (w place : ℕ) → done ≤ place → IsClosed w → StandsIn order' 0 place w
  old_stands w place from closed =
      let stands = (before.written w).0 closed in
      (stands.0, stands.1, omega (arith, stands.2, from), same stands.0 stands.2 ∙ stands.3)

  written : (v : ℕ) → IsClosed' v ↔ StandsIn order' 0 (done + (size - top)) v
  written v = (forth, back)
    where
      forth : IsClosed' v → StandsIn order' 0 (done + (size - top)) v
      forth closed =
          elim ((closed_are v).1 closed) [
            | inl old ↦ old_stands v (done + (size - top)) (omega arith) old
            | inr stands ↦
                let place : top + (stands.0 - top) ≡ stands.0 = omega (arith, stands.1) in
                let value : at (done + (stands.0 - top)) ≡ stack stands.0 = copied (stands.0 - top) (omega (arith, stands.1, stands.2)) ∙ ap stack place in
                (done + (stands.0 - top), zero-le, omega (arith, stands.1, stands.2), value ∙ stands.3)
          ]

      back : StandsIn order' 0 (done + (size - top)) v → IsClosed' v
      back stands =
          elim (cases_lt stands.0 done) [
            | inl old ↦ (closed_are v).0 (inl (subst (λ x. IsClosed x) stands.3 (closed_at stands.0 old)))
            | inr new ↦
                (closed_are v).0 (inr (top + (stands.0 - done), omega arith, new_within stands.0 new stands.2, sym (new_at stands.0 new stands.2) ∙ stands.3))
          ]

  clash : (i j : ℕ) → i < done → done ≤ j → j < done + (size - top) → at i ≡ at j → ⊥
  clash i j old new below e =
      unclosed (top + (j - done)) (new_within j new below) (subst (λ x. IsClosed x) (e ∙ new_at j new below) (closed_at i old))

  once : (i j : ℕ) → i < done + (size - top) → j < done + (size - top) → at i ≡ at j → i ≡ j
  once i j below_i below_j e =
      elim (cases_lt i done) [
        | inl old_i ↦ elim (cases_lt j done) [
          | inl old_j ↦ before.once i j old_i old_j (sym (same i old_i) ∙ e ∙ same j old_j)
          | inr new_j ↦ absurd (clash i j old_i new_j below_j e)
        ]
        | inr new_i ↦ elim (cases_lt j done) [
          | inl old_j ↦ absurd (clash j i old_j new_i below_i (sym e))
          | inr new_j ↦
              let places : top + (i - done) ≡ top + (j - done) = apart (top + (i - done)) (top + (j - done)) (new_within i new_i below_i) (new_within j new_j below_j) (sym (new_at i new_i below_i) ∙ e ∙ new_at j new_j below_j) in
              omega (arith, places)
        ]
      ]

  -- in the component an edge back to it makes a cycle
  no_edge_back : (i w : ℕ) → top ≤ i → i < size → ¬ IsCyclic (HasEdge rows) (stack i) → HasEdge rows (stack i) w → StandsFrom stack size top w → ⊥
  no_edge_back i w from below loopless step stands =
      elim (cases_lt (suc top) size) [
        | inl two ↦ loopless ((IsCyclic-IsTarget rows (stack i)).0 (sound (stack i) (flagged i from below two)))
        | inr one ↦
            let place : stands.0 ≡ i = omega (arith, stands.1, stands.2) in
            let itself : w ≡ stack i = sym stands.3 ∙ ap stack place in
            loopless ([], subst (λ x. HasEdge rows (stack i) x) itself step)
      ]

  new_earlier : (i w : ℕ) → done ≤ i → i < done + (size - top) → ¬ IsCyclic (HasEdge rows) (at i) → HasEdge rows (at i) w → StandsIn order' 0 i w
  new_earlier i w from below loopless step =
      let node : at i ≡ stack (top + (i - done)) = new_at i from below in
      let step_there : HasEdge rows (stack (top + (i - done))) w = subst (λ x. HasEdge rows x w) node step in
      let loopless_there : ¬ IsCyclic (HasEdge rows) (stack (top + (i - done))) = subst (λ x. ¬ IsCyclic (HasEdge rows) x) node loopless in
      let closed_here : IsClosed' (stack (top + (i - done))) = (closed_are (stack (top + (i - done)))).0 (inr (top + (i - done), omega arith, new_within i from below, refl)) in
      elim ((closed_are w).1 (kept (stack (top + (i - done))) w closed_here (edge_from_HasEdge rows (stack (top + (i - done))) w step_there))) [
        | inl closed ↦ old_stands w i from closed
        | inr stands ↦ absurd (no_edge_back (top + (i - done)) w (omega arith) (new_within i from below) loopless_there step_there stands)
      ]

  old_earlier : (i w : ℕ) → i < done → ¬ IsCyclic (HasEdge rows) (at i) → HasEdge rows (at i) w → StandsIn order' 0 i w
  old_earlier i w old loopless step =
      let stands = before.earlier i w old (subst (λ x. ¬ IsCyclic (HasEdge rows) x) (same i old) loopless) (subst (λ x. HasEdge rows x w) (same i old) step) in
      (stands.0, stands.1, stands.2, same stands.0 (omega (arith, stands.2, old)) ∙ stands.3)

  pub IsOrdered-close : IsOrdered rows order' (done + (size - top)) IsClosed'
  IsOrdered-close = record {
    written = written;
    once = once;
    earlier = λ i w below loopless step. elim (cases_lt i done) [
      | inl old ↦ old_earlier i w old loopless step
      | inr new ↦ new_earlier i w new below loopless step
    ];
  }
