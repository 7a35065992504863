-- Edges are turned round one after another.
use Rattle.std.proofs.Common.{◌≡◌, ◌≢◌, ℕ, zero, suc, ◌+◌, ◌<◌, ◌≤◌, ◌↔◌, Bool, true, false, List, [], ◌∷◌, ◌++◌, length, replicate, get_or, Some, ◌⊎◌, inl, inr, refl, sym, ◌∙◌, ap, subst, arith}
use Rattle.std.specs.Prelude.{Contains, eqb, slice_get, slice_index}
use Rattle.std.specs.List.{IsDistinct}
use Rattle.std.proofs.lemmas.Bool.{cases_eq, cases_lt}
use Rattle.std.proofs.lemmas.Grind.{get_or_default_zero}
use Rattle.std.proofs.lemmas.List.Elements.{Contains-push, Contains-push_cases, Contains-append_left}
use Rattle.std.proofs.lemmas.Option.{get_or_from_slice_get, slice_get_within}
use Rattle.cv_graph.specs.Edges.{targets, HasEdge}
use Rattle.cv_spec_element.specs.Walks.{Walk, Reaches}
use Rattle.cv_cycle.specs.Marks.{IsMarked}
use Rattle.cv_cycle.specs.Reversing.{LeadsThrough, IsReachedBack, IsReversed, IsReversedTo}
use Rattle.cv_cycle.specs.Spreading.{IsReached}
use Rattle.cv_cycle.proofs.Along.{Reaches-push, HasEdge-from}
use Rattle.cv_cycle.proofs.Distinct.{once-push, once-none, apart}

module _ (rows : List (List ℕ)) (through : List Bool) (count : ℕ) where
  -- the edge stands among the first ones of the node
  abbrev Early : ℕ → ℕ → Type 0
  Early edge to = (k : ℕ) × (k < edge) × (k < length (targets rows count)) × (slice_index (targets rows count) k ≡ to)

  pub turned_none : (back : List (List ℕ)) → IsReversed rows through count back → IsReversedTo rows through count 0 back
  turned_none back now = record {
    edges = λ to from. (
      (λ has. inl ((now.edges to from).0 has)),
      (λ either. elim either [ inl old ↦ (now.edges to from).1 old | inr early ↦ absurd (omega (arith, early.2.1)) ]),
    );
    once = now.once;
  }

  module _ (edge to : ℕ) (is : slice_get (targets rows count) edge ≡ Some to) (back : List (List ℕ)) (now : IsReversedTo rows through count edge back) where
    here : slice_index (targets rows count) edge ≡ to
    here = get_or_from_slice_get (targets rows count) edge to 0 is

    within : edge < length (targets rows count)
    within = slice_get_within (targets rows count) edge to is

    abbrev Turned : ℕ → ℕ → ℕ → Type 0
    Turned more t from = ((from < count) × LeadsThrough rows through from t) ⊎ ((from ≡ count) × IsMarked through t × Early more t)

    weaken : (t from : ℕ) → Turned edge t from → Turned (edge + 1) t from
    weaken t from (inl old) = inl old
    weaken t from (inr early) = inr (early.0, early.1, (early.2.0, omega (arith, early.2.1), early.2.2, early.2.3))

    -- an edge among one more is among the first ones, or is this one
    strengthen : (t from : ℕ) → Turned (edge + 1) t from → Turned edge t from ⊎ ((from ≡ count) × IsMarked through t × (to ≡ t))
    strengthen t from (inl old) = inl (inl old)
    strengthen t from (inr early) =
        elim (cases_lt early.2.0 edge) [
          | inl lower ↦ inl (inr (early.0, early.1, (early.2.0, lower, early.2.2, early.2.3)))
          | inr upper ↦
              let last : early.2.0 ≡ edge = omega (arith, upper, early.2.1) in
              inr (early.0, early.1, sym here ∙ ap (λ k. slice_index (targets rows count) k) (sym last) ∙ early.2.3)
        ]

    -- the node doesn't stand in the row yet
    pub new_there : IsDistinct eqb (targets rows count) → ¬ Contains (targets back to) count
    new_there once has =
        elim ((now.edges to count).0 has) [
          | inl old ↦ absurd (omega (arith, old.0))
          | inr early ↦ apart (targets rows count) once early.2.0 edge early.2.1 within (early.2.3 ∙ sym here)
        ]

    pub below_there : (n : ℕ) → count < n → (x : ℕ) → Contains (targets back to) x → x < n
    below_there n less x has =
        elim ((now.edges to x).0 has) [
          | inl old ↦ omega (arith, old.0, less)
          | inr early ↦ omega (arith, early.0, less)
        ]

    pub turned_on : IsDistinct eqb (targets rows count) → IsMarked through to → (back' : List (List ℕ)) → targets back' to ≡ targets back to ++ count ∷ [] → ((node : ℕ) → node ≢ to → targets back' node ≡ targets back node) → IsReversedTo rows through count (edge + 1) back'
    turned_on row_once marked back' last others = record { edges = edges; once = once }
      where
        at_to : (from : ℕ) → Contains (targets back to ++ count ∷ []) from ↔ Turned (edge + 1) to from
        at_to from = (
          (λ has. elim (Contains-push_cases (targets back to) count from has) [
            | inl old ↦ weaken to from ((now.edges to from).0 old)
            | inr same ↦ inr (sym same, marked, (edge, omega arith, within, here))
          ]),
          (λ turned. elim (strengthen to from turned) [
            | inl old ↦ Contains-append_left (targets back to) (count ∷ []) from ((now.edges to from).1 old)
            | inr this ↦ subst (λ f. Contains (targets back to ++ count ∷ []) f) (sym this.0) (Contains-push (targets back to) count)
          ]),
        )

        at_other : (t from : ℕ) → t ≢ to → Contains (targets back t) from ↔ Turned (edge + 1) t from
        at_other t from other = (
          (λ has. weaken t from ((now.edges t from).0 has)),
          (λ turned. elim (strengthen t from turned) [
            | inl old ↦ (now.edges t from).1 old
            | inr this ↦ absurd (other (sym this.2))
          ]),
        )

        edges : (t from : ℕ) → HasEdge back' t from ↔ Turned (edge + 1) t from
        edges t from =
            elim (cases_eq t to) [
              | inl same ↦ subst (λ u. Contains (targets back' u) from ↔ Turned (edge + 1) u from) (sym same) (subst (λ row. Contains row from ↔ Turned (edge + 1) to from) (sym last) (at_to from))
              | inr other ↦ subst (λ row. Contains row from ↔ Turned (edge + 1) t from) (sym (others t other)) (at_other t from other)
            ]

        once : (t : ℕ) → IsDistinct eqb (targets back' t)
        once t =
            elim (cases_eq t to) [
              | inl same ↦ subst (λ u. IsDistinct eqb (targets back' u)) (sym same) (subst (IsDistinct eqb) (sym last) (once-push (targets back to) count (now.once to) (new_there row_once)))
              | inr other ↦ subst (IsDistinct eqb) (sym (others t other)) (now.once t)
            ]

    pub turned_off : ¬ IsMarked through to → IsReversedTo rows through count (edge + 1) back
    turned_off unmarked = record {
      edges = λ t from. (
        (λ has. weaken t from ((now.edges t from).0 has)),
        (λ turned. elim (strengthen t from turned) [
          | inl old ↦ (now.edges t from).1 old
          | inr this ↦ absurd (unmarked (subst (λ u. IsMarked through u) (sym this.2) this.1))
        ]),
      );
      once = now.once;
    }

    pub turned_one : IsDistinct eqb (targets rows count) → (back' : List (List ℕ)) → (IsMarked through to → targets back' to ≡ targets back to ++ count ∷ []) → (¬ IsMarked through to → back' ≡ back) → ((node : ℕ) → node ≢ to → targets back' node ≡ targets back node) → IsReversedTo rows through count (edge + 1) back'
    turned_one row_once back' on off others = by (get_or through to false) refl
      where
        by : (b : Bool) → get_or through to false ≡ b → IsReversedTo rows through count (edge + 1) back'
        by true marked = turned_on row_once marked back' (on marked) others
        by false unmarked =
            let none : ¬ IsMarked through to = λ marked. let clash : true ≡ false = sym marked ∙ unmarked in cc in
            subst (λ b. IsReversedTo rows through count (edge + 1) b) (sym (off none)) (turned_off none)

  -- all edges of the node are turned
  pub turned_all : (edge : ℕ) → length (targets rows count) ≤ edge → (back : List (List ℕ)) → IsReversedTo rows through count edge back → IsReversed rows through (count + 1) back
  turned_all edge whole back now = record { edges = λ to from. (forth to from, back_to to from); once = now.once }
    where
      forth : (to from : ℕ) → HasEdge back to from → (from < count + 1) × LeadsThrough rows through from to
      forth to from has =
          elim ((now.edges to from).0 has) [
            | inl old ↦ (omega (arith, old.0), old.1)
            | inr early ↦ (
              omega (arith, early.0),
              (
                subst (λ f. HasEdge rows f to) (sym early.0) (early.2.0, early.2.2, get_or_default_zero (targets rows count) early.2.0 to early.2.2 ∙ early.2.3),
                early.1,
              ),
            )
          ]

      back_to : (to from : ℕ) → (from < count + 1) × LeadsThrough rows through from to → HasEdge back to from
      back_to to from leads =
          elim (cases_lt from count) [
            | inl lower ↦ (now.edges to from).1 (inl (lower, leads.1))
            | inr upper ↦
                let last : from ≡ count = omega (arith, upper, leads.0) in
                let has : HasEdge rows count to = subst (λ f. HasEdge rows f to) last leads.1.0 in
                (now.edges to from).1 (inr (last, leads.1.1, (has.0, omega (arith, has.1, whole), has.1, sym (get_or_default_zero (targets rows count) has.0 to has.1) ∙ has.2)))
          ]

-- before the first node
none_there : (n i : ℕ) → ◌≡◌ {A = List ℕ} (get_or (replicate n []) i []) []
none_there zero i = refl
none_there (suc n) zero = refl
none_there (suc n) (suc i) = none_there n i

pub reversed_none : (rows : List (List ℕ)) (through : List Bool) (n : ℕ) (back : List (List ℕ)) → back ≡ replicate n [] → IsReversed rows through 0 back
reversed_none rows through n back is = record {
  edges = λ to from. (
    (λ has. absurd (omega (arith, has.1, ap (λ (row : List ℕ). length row) (empty to)))),
    (λ leads. absurd (omega (arith, leads.0))),
  );
  once = λ to. subst (IsDistinct eqb) (sym (empty to)) once-none;
}
  where
    empty : (to : ℕ) → targets back to ≡ []
    empty to = ap (λ b. targets b to) is ∙ none_there n to

-- a walk along edges that are turned round, backwards
walk_back : (R S : ℕ → ℕ → Type 0) → ((a b : ℕ) → R a b → S b a) → (p : ℕ) (via : List ℕ) (q : ℕ) → Walk R p via q → Reaches S q p
walk_back R S turn p [] q walk = ([], turn p q walk)
walk_back R S turn p (c ∷ via) q walk = Reaches-push S q c p (walk_back R S turn c via q walk.1) (turn p c walk.0)

pub reached_back : (rows : List (List ℕ)) (through goals : List Bool) (back : List (List ℕ)) → IsReversed rows through (length rows) back → (node : ℕ) → IsReached back goals node ↔ IsReachedBack rows through goals node
reached_back rows through goals back now node = (to, from)
  where
    to : IsReached back goals node → IsReachedBack rows through goals node
    to (inl goal) = inl goal
    to (inr far) = inr (far.0, far.1, walk_back (HasEdge back) (LeadsThrough rows through) (λ a b has. ((now.edges a b).0 has).1) far.0 far.2.0 node far.2.1)

    from : IsReachedBack rows through goals node → IsReached back goals node
    from (inl goal) = inl goal
    from (inr far) = inr (far.0, far.1, walk_back (LeadsThrough rows through) (HasEdge back) (λ a b leads. (now.edges b a).1 (HasEdge-from rows a b leads.0, leads)) node far.2.0 far.0 far.2.1)
