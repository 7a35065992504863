-- One more edge of the node at the end of the path was asked for, and was followed, or there was none.
use Rattle.std.proofs.Common.{◌≡◌, ℕ, ◌+◌, ◌-◌, ◌<◌, ◌≤◌, false, List, [], length, get_or, set, Some, None, sym, ◌∙◌, ap, subst, arith}
use Rattle.std.specs.Prelude.{slice_get, sum}
use Rattle.std.proofs.lemmas.List.Elements.{All-get_or}
use Rattle.cv_graph.specs.Edges.{IsGraph, targets, most_targets}
use Rattle.cv_cycle.specs.Marks.{unmarked_count}
use Rattle.cv_cycle.specs.State.{State, HasRoom, asked, Follows, Leaves}
use Rattle.cv_cycle.specs.Search.{IsSearch}
use Rattle.cv_cycle.proofs.Marking.{unmarked_count-set}
use Rattle.cv_cycle.proofs.Top as top
use Rattle.cv_cycle.proofs.Readings.{sum-more}
use Rattle.cv_cycle.proofs.Following.{follow_search, follow_keeps, to_below}
use Rattle.cv_cycle.proofs.Leaving.{leave_search, leave_keeps}

module _ (rows : List (List ℕ)) (graph : IsGraph rows) (s : State) (now : IsSearch rows s) (high : 0 < s.height) where
  pub path_room : s.height ≤ length s.path
  path_room = omega (arith, top.height_small rows s now, top.size_small rows s now, now.sized.path)

  module _ (end : ℕ) (end_is : end ≡ get_or s.path (s.height - 1) 0) where
    end_below : end < s.size
    end_below = omega (arith, top.top_below rows s now high, end_is)

    pub end_room : end < length s.stack
    end_room = omega (arith, end_below, top.size_small rows s now, now.sized.stack)

    module _ (node : ℕ) (node_is : node ≡ get_or s.stack end 0) where
      node_same : top.node rows s now high ≡ node
      node_same = sym (node_is ∙ ap (λ t. get_or s.stack t 0) end_is)

      pub node_below : node < length rows
      node_below = omega (arith, top.node_below rows s now high, node_same)

      pub few_asked : get_or s.reads node 0 ≤ most_targets
      few_asked =
          let row : length (targets rows (top.node rows s now high)) ≤ most_targets = All-get_or (λ r. length r ≤ most_targets) rows (top.node rows s now high) [] (top.node_below rows s now high) graph.few_targets in
          let same : get_or s.reads (top.node rows s now high) 0 ≡ get_or s.reads node 0 = ap (λ n. get_or s.reads n 0) node_same in
          omega (arith, row, same, top.place_open rows s now high)

      module _ (s₁ : State) (asked_is : s₁ ≡ asked s node) where
        pub leave_count : (0 < s₁.count) × (s₁.count ≤ length s₁.met)
        leave_count =
            subst (λ x. (0 < x.count) × (x.count ≤ length x.met)) (sym asked_is)
            (top.some_start rows s now high, omega (arith, top.count_small rows s now, top.size_small rows s now, now.sized.met))

        pub leave_top : end ≤ s₁.size
        leave_top = omega (arith, end_below, ap (λ x. x.size) asked_is)

        pub leave_room : s₁.done + s₁.size ≤ length s₁.met
        leave_room =
            subst (λ x. x.done + x.size ≤ length x.met) (sym asked_is) (omega (arith, now.room, now.sized.met))

        pub stack_nodes : (place : ℕ) → place < s₁.size → get_or s₁.stack place 0 < length s₁.met
        stack_nodes =
            subst (λ x. (place : ℕ) → place < x.size → get_or x.stack place 0 < length x.met) (sym asked_is)
            (λ place below. omega (arith, top.stack_below rows s now place below, now.sized.met))

        pub follow_count : s₁.count ≤ length s₁.met
        follow_count = leave_count.1

        one_more : (reads : List ℕ) → reads ≡ set s.reads (top.node rows s now high) (get_or s.reads (top.node rows s now high) 0 + 1) → sum reads ≡ sum s.reads + 1
        one_more reads is =
            ap (λ r. sum r) is ∙ sum-more s.reads (top.node rows s now high) (omega (arith, top.node_below rows s now high, now.sized.reads))

        module _ (none : slice_get (targets rows node) (get_or s.reads node 0) ≡ None) (s' : State) (leaves : Leaves s₁ s' end) where
          none_there : slice_get (targets rows (top.node rows s now high)) (top.place rows s now high) ≡ None
          none_there = subst (λ n. slice_get (targets rows n) (get_or s.reads n 0) ≡ None) (sym node_same) none

          leaves_there : Leaves (asked s (top.node rows s now high)) s' (top.top rows s now high)
          leaves_there =
              subst (λ t. Leaves (asked s (top.node rows s now high)) s' t) end_is
              (subst (λ n. Leaves (asked s n) s' end) (sym node_same) (subst (λ x. Leaves x s' end) asked_is leaves))

          pub left_search : IsSearch rows s'
          left_search = leave_search rows s now high none_there s' leaves_there

          pub left_asked : sum s'.reads ≡ sum s.reads + 1
          left_asked = one_more s'.reads (leave_keeps rows s now high none_there s' leaves_there).0

        module _ (to : ℕ) (some : slice_get (targets rows node) (get_or s.reads node 0) ≡ Some to) where
          some_there : slice_get (targets rows (top.node rows s now high)) (top.place rows s now high) ≡ Some to
          some_there = subst (λ n. slice_get (targets rows n) (get_or s.reads n 0) ≡ Some to) (sym node_same) some

          pub target_met : to < length s₁.met
          target_met = omega (arith, to_below rows graph s now high to some_there, now.sized.met, ap (λ x. length x.met) asked_is)

          pub follow_room : get_or s₁.met to false ≡ false → HasRoom s₁
          follow_room =
              subst (λ x. get_or x.met to false ≡ false → HasRoom x) (sym asked_is) (λ unmet.
              let marks : unmarked_count (set s.met to _) + 1 ≡ unmarked_count s.met = unmarked_count-set s.met to (omega (arith, to_below rows graph s now high to some_there, now.sized.met)) unmet in
              record {
                size = omega (arith, marks, now.room, now.sized.met);
                height = omega (arith, marks, now.room, now.sized.met, top.height_small rows s now);
                count = omega (arith, marks, now.room, now.sized.met, top.count_small rows s now);
              })

          module _ (s' : State) (follows : Follows s₁ s' node to) where
            follows_there : Follows (asked s (top.node rows s now high)) s' (top.node rows s now high) to
            follows_there = subst (λ n. Follows (asked s n) s' n to) (sym node_same) (subst (λ x. Follows x s' node to) asked_is follows)

            pub followed_search : IsSearch rows s'
            followed_search = follow_search rows graph s now high to some_there s' follows_there

            pub followed_asked : sum s'.reads ≡ sum s.reads + 1
            followed_asked = one_more s'.reads (follow_keeps rows graph s now high to some_there s' follows_there).0
