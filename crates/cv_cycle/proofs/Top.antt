-- The end of the path, and that one more edge of its node was asked for.
use Rattle.std.proofs.Common.{◌≡◌, ◌≢◌, ℕ, ◌+◌, ◌-◌, ◌<◌, ◌≤◌, zero-le, List, length, get_or, set, Some, None, inl, inr, refl, sym, ◌∙◌, ap, subst, arith}
use Rattle.std.specs.Prelude.{slice_get}
use Rattle.std.proofs.lemmas.Bool.{cases_eq, cases_lt}
use Rattle.std.proofs.lemmas.List.{get_or-set_same, get_or-set_other, length-set}
use Rattle.std.proofs.lemmas.Option.{slice_get_within, slice_get_cases}
use Rattle.cv_graph.specs.Edges.{targets}
use Rattle.cv_cycle.specs.Marks.{IsMarked, StandsIn}
use Rattle.cv_cycle.specs.State.{State}
use Rattle.cv_cycle.specs.Search.{IsTarget, Rises, IsSearch}
use Rattle.cv_cycle.proofs.Marking.{IsMarked-below}
use Rattle.cv_cycle.proofs.Places.{Rises-least, Rises-upto}
use Rattle.cv_cycle.proofs.Components.{IsTop}

module _ (rows : List (List ℕ)) (s : State) (now : IsSearch rows s) where
  pub on_stack_met : (i : ℕ) → i < s.size → IsMarked s.met (get_or s.stack i 0)
  on_stack_met i below = (now.met (get_or s.stack i 0)).1 (inr (i, zero-le, below, refl))

  pub stack_below : (i : ℕ) → i < s.size → get_or s.stack i 0 < length rows
  stack_below i below = omega (arith, IsMarked-below s.met (get_or s.stack i 0) (on_stack_met i below), now.sized.met)

  last_place : (places : List ℕ) (height : ℕ) → 0 < height → Rises places height → ((i : ℕ) → StandsIn places 0 height i → i < s.size) → height ≤ s.size
  last_place places height high rises within =
      let low : height - 1 ≤ get_or places (height - 1) 0 = Rises-least places height rises (height - 1) (omega arith) in
      let top : get_or places (height - 1) 0 < s.size = within (get_or places (height - 1) 0) (height - 1, zero-le, omega arith, refl) in
      omega (arith, low, top)

  at_most : (places : List ℕ) (height : ℕ) → Rises places height → ((i : ℕ) → StandsIn places 0 height i → i < s.size) → height ≤ s.size
  at_most places height rises within =
      elim (cases_lt 0 height) [ inl high ↦ last_place places height high rises within | inr none ↦ omega arith ]

  pub height_small : s.height ≤ s.size
  height_small = at_most s.path s.height now.path_rises now.walk.path

  pub count_small : s.count ≤ s.size
  count_small = at_most s.starts s.count now.starts_rise (λ i start. now.walk.path i (now.walk.starts i start))

  pub size_small : s.size ≤ length rows
  size_small = omega (arith, now.room)

  module _ (high : 0 < s.height) where
    abbrev pub top : ℕ
    top = get_or s.path (s.height - 1) 0

    abbrev pub node : ℕ
    node = get_or s.stack top 0

    abbrev pub place : ℕ
    place = get_or s.reads node 0

    abbrev pub reads_now : ℕ → ℕ
    reads_now v = get_or s.reads v 0

    abbrev pub reads_then : ℕ → ℕ
    reads_then v = get_or (set s.reads node (place + 1)) v 0

    pub top_in : StandsIn s.path 0 s.height top
    top_in = (s.height - 1, zero-le, omega arith, refl)

    pub top_below : top < s.size
    top_below = now.walk.path top top_in

    pub node_below : node < length rows
    node_below = stack_below top top_below

    pub some_start : 0 < s.count
    some_start =
        let start = now.walk.first (omega (arith, top_below)) in
        omega (arith, start.2)

    pub top_highest : (i : ℕ) → StandsIn s.path 0 s.height i → i ≤ top
    top_highest i on =
        let upto : get_or s.path on.0 0 ≤ top = Rises-upto s.path s.height now.path_rises on.0 (s.height - 1) (omega (arith, on.2)) (omega arith) in
        omega (arith, upto, on.3)

    node_room : node < length s.reads
    node_room = omega (arith, node_below, now.sized.reads)

    pub reads_at : reads_then node ≡ place + 1
    reads_at = get_or-set_same s.reads node (place + 1) 0 node_room

    pub reads_other : (v : ℕ) → v ≢ node → reads_then v ≡ reads_now v
    reads_other v apart = get_or-set_other s.reads node v (place + 1) 0 apart

    pub is_top : IsTop (IsTarget rows) (λ i. get_or s.stack i 0) s.size (StandsIn s.path 0 s.height) reads_now reads_then top place
    is_top = record {
      on_path = top_in;
      highest = top_highest;
      place = refl;
      more = omega (arith, reads_at);
      others = reads_other;
    }

    pub place_open : place ≤ length (targets rows node)
    place_open = now.unfinished top top_in

    pub unread_then : (v : ℕ) → ¬ IsMarked s.met v → reads_then v ≡ 0
    unread_then v none =
        reads_other v (λ same. none (subst (λ x. IsMarked s.met x) (sym same) (on_stack_met top top_below))) ∙ now.unread v none

    pub few_then : (v : ℕ) → v < length rows → reads_then v ≤ length (targets rows v) + 1
    few_then v below =
        elim (cases_eq v node) [
          | inl same ↦
              let value : reads_then v ≡ place + 1 = ap reads_then same ∙ reads_at in
              let row : length (targets rows v) ≡ length (targets rows node) = ap (λ x. length (targets rows x)) same in
              omega (arith, value, row, place_open)
          | inr apart ↦ omega (arith, reads_other v apart, now.few v below)
        ]

    pub reads_length : length (set s.reads node (place + 1)) ≡ length rows
    reads_length = length-set s.reads node (place + 1) ∙ now.sized.reads

    -- on the path, where one more edge of its end was found
    pub unfinished_then : place < length (targets rows node) → (i : ℕ) → StandsIn s.path 0 s.height i → reads_then (get_or s.stack i 0) ≤ length (targets rows (get_or s.stack i 0))
    unfinished_then more i on =
        elim (cases_eq (get_or s.stack i 0) node) [
          | inl same ↦
              let value : reads_then (get_or s.stack i 0) ≡ place + 1 = ap reads_then same ∙ reads_at in
              let row : length (targets rows (get_or s.stack i 0)) ≡ length (targets rows node) = ap (λ x. length (targets rows x)) same in
              omega (arith, value, row, more)
          | inr apart ↦ omega (arith, reads_other (get_or s.stack i 0) apart, now.unfinished i on)
        ]

    -- every edge was asked for where there is no further one
    pub all_asked : slice_get (targets rows node) place ≡ None → (k w : ℕ) → IsTarget rows node k w → k < place
    all_asked none k w is =
        let within : k < length (targets rows node) = slice_get_within (targets rows node) k w is in
        elim (slice_get_cases (targets rows node) place).1 [
          | inl there ↦ absurd (let clash : None ≡ Some there.0 = sym none ∙ there.2 in cc)
          | inr past ↦ omega (arith, past.0, within)
        ]
