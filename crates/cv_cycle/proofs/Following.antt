-- An edge is followed: the walk keeps what it keeps.
use Rattle.std.proofs.Common.{◌≡◌, ◌≢◌, ℕ, suc, ◌+◌, ◌-◌, ◌<◌, ◌≤◌, ◌↔◌, zero-le, true, false, List, Bool, length, get_or, set, ◌⊎◌, inl, inr, refl, sym, ◌∙◌, ap, subst, arith}
use Rattle.std.proofs.lemmas.Bool.{cases_eq, cases_lt}
use Rattle.std.proofs.lemmas.List.{get_or-set_same, get_or-set_other, length-set}
use Rattle.std.proofs.lemmas.Option.{slice_get_within}
use Rattle.cv_graph.specs.Edges.{IsGraph, targets}
use Rattle.cv_cycle.specs.Marks.{IsMarked, StandsIn, unmarked_count}
use Rattle.cv_cycle.specs.State.{State, entered, with_starts, asked, Meets, Follows}
use Rattle.cv_cycle.specs.Search.{IsWalk, IsTarget, IsSearch}
use Rattle.cv_cycle.proofs.Marking.{IsMarked-below, IsMarked-set_cases, IsMarked-set_is, IsMarked-set, unmarked_at, unmarked_count-set}
use Rattle.cv_cycle.proofs.Places.{StandsIn-push, Rises-fewer, Rises-push, Rises-upto}
use Rattle.cv_cycle.proofs.Along.{target_below}
use Rattle.cv_cycle.proofs.Components.{IsWalk-meet_closed, IsWalk-meet_open, IsWalk-enter}
use Rattle.cv_cycle.proofs.Readings.{IsTarget-only, IsWalk-renamed}
use Rattle.cv_cycle.proofs.Top.{on_stack_met, top, node, place, reads_now, reads_then, height_small, count_small, top_below, is_top, unread_then, few_then, reads_length, unfinished_then}

module _ (rows : List (List ℕ)) (graph : IsGraph rows) (s : State) (now : IsSearch rows s) (high : 0 < s.height) (to : ℕ) (here : IsTarget rows (node rows s now high) (place rows s now high) to) where
  abbrev at_node : ℕ
  at_node = node rows s now high

  abbrev at_place : ℕ
  at_place = place rows s now high

  abbrev stack : ℕ → ℕ
  stack i = get_or s.stack i 0

  only : (w : ℕ) → IsTarget rows at_node at_place w → w ≡ to
  only w is = IsTarget-only rows at_node at_place to w here is

  more : at_place < length (targets rows at_node)
  more = slice_get_within (targets rows at_node) at_place to here

  pub to_below : to < length rows
  to_below = target_below rows at_node at_place to graph (stack_bound) here
    where
      stack_bound : at_node < length rows
      stack_bound = omega (arith, IsMarked-below s.met at_node (on_stack_met rows s now (top rows s now high) (top_below rows s now high)), now.sized.met)

  -- to a node of a complete component
  closed_search : IsMarked s.closed to → IsSearch rows (asked s at_node)
  closed_search closed = record {
    sized = record {
      stack = now.sized.stack;
      path = now.sized.path;
      starts = now.sized.starts;
      place = now.sized.place;
      met = now.sized.met;
      closed = now.sized.closed;
      flags = now.sized.flags;
      reads = reads_length rows s now high;
      order = now.sized.order;
    };
    walk = IsWalk-meet_closed (IsTarget rows) stack s.size (StandsIn s.path 0 s.height) (StandsIn s.starts 0 s.count) (IsMarked s.closed) (IsMarked s.flags) (reads_now rows s now high) (reads_then rows s now high) (top rows s now high) at_place now.walk (is_top rows s now high) to only closed;
    met = now.met;
    places = now.places;
    unread = unread_then rows s now high;
    path_rises = now.path_rises;
    starts_rise = now.starts_rise;
    room = now.room;
    ordered = now.ordered;
    few = few_then rows s now high;
    unfinished = unfinished_then rows s now high more;
  }

  -- to a node that wasn't met
  module _ (unmet : ¬ IsMarked s.met to) where
    room_left : s.size < length rows
    room_left =
        let marks : unmarked_count (set s.met to true) + 1 ≡ unmarked_count s.met = unmarked_count-set s.met to (omega (arith, to_below, now.sized.met)) (unmarked_at s.met to unmet) in
        omega (arith, marks, now.room)

    height_left : s.height < length s.path
    height_left = omega (arith, room_left, height_small rows s now, now.sized.path)

    count_left : s.count < length s.starts
    count_left = omega (arith, room_left, count_small rows s now, now.sized.starts)

    stack_old : (i : ℕ) → i < s.size → get_or (set s.stack s.size to) i 0 ≡ stack i
    stack_old i below = get_or-set_other s.stack s.size i to 0 (omega arith)

    stack_last : get_or (set s.stack s.size to) s.size 0 ≡ to
    stack_last = get_or-set_same s.stack s.size to 0 (omega (arith, room_left, now.sized.stack))

    not_on_stack : (i : ℕ) → i < s.size → stack i ≢ to
    not_on_stack i below same = unmet (subst (λ x. IsMarked s.met x) same (on_stack_met rows s now i below))

    entered_walk : IsWalk (IsTarget rows) (λ i. get_or (set s.stack s.size to) i 0) (suc s.size) (λ i. StandsIn s.path 0 s.height i ⊎ (i ≡ s.size)) (λ b. StandsIn s.starts 0 s.count b ⊎ (b ≡ s.size)) (IsMarked s.closed) (IsMarked s.flags) (reads_then rows s now high)
    entered_walk =
        IsWalk-enter (IsTarget rows) stack s.size (StandsIn s.path 0 s.height) (StandsIn s.starts 0 s.count) (IsMarked s.closed) (IsMarked s.flags) (reads_now rows s now high) (reads_then rows s now high) (top rows s now high) at_place now.walk (is_top rows s now high) to here only
        (λ closed. unmet ((now.met to).1 (inl closed))) not_on_stack (unread_then rows s now high to unmet) (λ i. get_or (set s.stack s.size to) i 0) stack_old stack_last

    size_is : suc s.size ≡ s.size + 1
    size_is = omega arith

    old_or_last : (i : ℕ) → i < s.size + 1 → (i < s.size) ⊎ (i ≡ s.size)
    old_or_last i below = elim (cases_lt i s.size) [ inl old ↦ inl old | inr upper ↦ inr (omega arith) ]

    entered_places : (i : ℕ) → i < s.size + 1 → get_or (set s.place to s.size) (get_or (set s.stack s.size to) i 0) 0 ≡ i
    entered_places i below =
        elim (old_or_last i below) [
          | inl old ↦
              ap (λ x. get_or (set s.place to s.size) x 0) (stack_old i old) ∙ get_or-set_other s.place to (stack i) s.size 0 (not_on_stack i old) ∙ now.places i old
          | inr last ↦
              ap (λ x. get_or (set s.place to s.size) x 0) (ap (λ j. get_or (set s.stack s.size to) j 0) last ∙ stack_last) ∙ get_or-set_same s.place to s.size 0 (omega (arith, to_below, now.sized.place)) ∙ sym last
        ]

    entered_met : (v : ℕ) → IsMarked (set s.met to true) v ↔ (IsMarked s.closed v ⊎ StandsIn (set s.stack s.size to) 0 (s.size + 1) v)
    entered_met v = (forth, back)
      where
        pushed : (StandsIn s.stack 0 s.size v ⊎ (v ≡ to)) ↔ StandsIn (set s.stack s.size to) 0 (s.size + 1) v
        pushed = StandsIn-push s.stack s.size to (omega (arith, room_left, now.sized.stack)) v

        forth : IsMarked (set s.met to true) v → IsMarked s.closed v ⊎ StandsIn (set s.stack s.size to) 0 (s.size + 1) v
        forth is =
            elim (IsMarked-set_cases s.met to v is) [
              | inl old ↦ elim ((now.met v).0 old) [ inl closed ↦ inl closed | inr stands ↦ inr (pushed.0 (inl stands)) ]
              | inr same ↦ inr (pushed.0 (inr (sym same)))
            ]

        marked : (IsMarked s.met v ⊎ (to ≡ v)) ↔ IsMarked (set s.met to true) v
        marked = IsMarked-set_is s.met to (omega (arith, to_below, now.sized.met)) v

        back : IsMarked s.closed v ⊎ StandsIn (set s.stack s.size to) 0 (s.size + 1) v → IsMarked (set s.met to true) v
        back (inl closed) = marked.0 (inl ((now.met v).1 (inl closed)))
        back (inr stands) = elim (pushed.1 stands) [ inl old ↦ marked.0 (inl ((now.met v).1 (inr old))) | inr same ↦ marked.0 (inr (sym same)) ]

    entered_unfinished : (i : ℕ) → StandsIn (set s.path s.height s.size) 0 (s.height + 1) i → reads_then rows s now high (get_or (set s.stack s.size to) i 0) ≤ length (targets rows (get_or (set s.stack s.size to) i 0))
    entered_unfinished i on =
        elim ((StandsIn-push s.path s.height s.size height_left i).1 on) [
          | inl old ↦
              subst (λ x. reads_then rows s now high x ≤ length (targets rows x)) (sym (stack_old i (now.walk.path i old))) (unfinished_then rows s now high more i old)
          | inr last ↦
              let value : get_or (set s.stack s.size to) i 0 ≡ to = ap (λ j. get_or (set s.stack s.size to) j 0) last ∙ stack_last in
              let none : reads_then rows s now high (get_or (set s.stack s.size to) i 0) ≡ 0 = ap (reads_then rows s now high) value ∙ unread_then rows s now high to unmet in
              omega (arith, none)
        ]

    entered_search : IsSearch rows (asked (entered s to) at_node)
    entered_search = record {
      sized = record {
        stack = length-set s.stack s.size to ∙ now.sized.stack;
        path = length-set s.path s.height s.size ∙ now.sized.path;
        starts = length-set s.starts s.count s.size ∙ now.sized.starts;
        place = length-set s.place to s.size ∙ now.sized.place;
        met = length-set s.met to true ∙ now.sized.met;
        closed = now.sized.closed;
        flags = now.sized.flags;
        reads = reads_length rows s now high;
        order = now.sized.order;
      };
      walk = IsWalk-renamed (IsTarget rows) (λ i. get_or (set s.stack s.size to) i 0) (s.size + 1) (λ i. StandsIn s.path 0 s.height i ⊎ (i ≡ s.size)) (StandsIn (set s.path s.height s.size) 0 (s.height + 1)) (λ b. StandsIn s.starts 0 s.count b ⊎ (b ≡ s.size)) (StandsIn (set s.starts s.count s.size) 0 (s.count + 1)) (IsMarked s.closed) (IsMarked s.closed) (IsMarked s.flags) (IsMarked s.flags) (reads_then rows s now high)
          (StandsIn-push s.path s.height s.size height_left) (StandsIn-push s.starts s.count s.size count_left) (λ v. ((λ h. h), (λ h. h))) (λ v. ((λ h. h), (λ h. h)))
          (subst (λ n. IsWalk (IsTarget rows) (λ i. get_or (set s.stack s.size to) i 0) n (λ i. StandsIn s.path 0 s.height i ⊎ (i ≡ s.size)) (λ b. StandsIn s.starts 0 s.count b ⊎ (b ≡ s.size)) (IsMarked s.closed) (IsMarked s.flags) (reads_then rows s now high)) size_is entered_walk);
      met = entered_met;
      places = entered_places;
      unread = λ v none. unread_then rows s now high v (λ old. none (IsMarked-set s.met to v old));
      path_rises = Rises-push s.path s.height s.size height_left now.path_rises (λ a below. now.walk.path (get_or s.path a 0) (a, zero-le, below, refl));
      starts_rise = Rises-push s.starts s.count s.size count_left now.starts_rise (λ a below. now.walk.path (get_or s.starts a 0) (now.walk.starts (get_or s.starts a 0) (a, zero-le, below, refl)));
      room =
          let marks : unmarked_count (set s.met to true) + 1 ≡ unmarked_count s.met = unmarked_count-set s.met to (omega (arith, to_below, now.sized.met)) (unmarked_at s.met to unmet) in
          omega (arith, marks, now.room);
      ordered = now.ordered;
      few = few_then rows s now high;
      unfinished = entered_unfinished;
    }

  -- to a node of the stack
  module _ (s' : State) (met : IsMarked s.met to) (unclosed : ¬ IsMarked s.closed to) (meets : Meets (asked s at_node) s' at_node to) where
    stands : StandsIn s.stack 0 s.size to
    stands = elim ((now.met to).0 met) [ inl closed ↦ absurd (unclosed closed) | inr on ↦ on ]

    abbrev to_place : ℕ
    to_place = get_or s.place to 0

    place_is : to_place ≡ stands.0
    place_is = ap (λ x. get_or s.place x 0) (sym stands.3) ∙ now.places stands.0 stands.2

    place_within : to_place < s.size
    place_within = omega (arith, place_is, stands.2)

    stands_there : stack to_place ≡ to
    stands_there = ap stack place_is ∙ stands.3

    flagged_wider : (v : ℕ) → IsMarked s.flags v → IsMarked s'.flags v
    flagged_wider v old =
        elim (cases_eq at_node to) [
          | inl loop ↦ subst (λ f. IsMarked f v) (sym (meets.looped.itself loop)) (IsMarked-set s.flags at_node v old)
          | inr apart ↦ subst (λ f. IsMarked f v) (sym (meets.looped.other apart)) old
        ]

    flagged_looped : to_place ≡ top rows s now high → IsMarked s'.flags at_node
    flagged_looped same =
        let loop : at_node ≡ to = ap stack (sym same) ∙ stands_there in
        subst (λ f. IsMarked f at_node) (sym (meets.looped.itself loop)) (get_or-set_same s.flags at_node true _ (omega (arith, IsMarked-below s.met at_node (on_stack_met rows s now (top rows s now high) (top_below rows s now high)), now.sized.met, now.sized.flags)))

    flagged_narrower : (v : ℕ) → IsMarked s'.flags v → IsMarked s.flags v ⊎ ((v ≡ at_node) × (to_place ≡ top rows s now high))
    flagged_narrower v flagged =
        elim (cases_eq at_node to) [
          | inl loop ↦ elim (IsMarked-set_cases s.flags at_node v (subst (λ f. IsMarked f v) (meets.looped.itself loop) flagged)) [
            | inl old ↦ inl old
            | inr same ↦ inr (sym same, now.walk.apart to_place (top rows s now high) place_within (top_below rows s now high) (stands_there ∙ sym loop))
          ]
          | inr apart ↦ inl (subst (λ f. IsMarked f v) (meets.looped.other apart) flagged)
        ]

    starts_are : (b : ℕ) → (StandsIn s.starts 0 s.count b × (b ≤ to_place)) ↔ StandsIn s.starts 0 s'.count b
    starts_are b = (forth, back)
      where
        forth : StandsIn s.starts 0 s.count b × (b ≤ to_place) → StandsIn s.starts 0 s'.count b
        forth (start, upto) =
            elim (cases_lt start.0 s'.count) [
              | inl below ↦ (start.0, start.1, below, start.3)
              | inr past ↦ absurd (let above : to_place < get_or s.starts start.0 0 = meets.dropped start.0 past start.2 in omega (arith, above, start.3))
            ]

        back : StandsIn s.starts 0 s'.count b → StandsIn s.starts 0 s.count b × (b ≤ to_place)
        back start =
            let within : start.0 < s.count = omega (arith, start.2, meets.fewer) in
            let last : get_or s.starts (s'.count - 1) 0 ≤ to_place = meets.kept (omega (arith, start.2)) in
            let upto : get_or s.starts start.0 0 ≤ get_or s.starts (s'.count - 1) 0 = Rises-upto s.starts s.count now.starts_rise start.0 (s'.count - 1) (omega (arith, start.2)) (omega (arith, start.2, meets.fewer)) in
            ((start.0, start.1, within, start.3), omega (arith, last, upto, start.3))

    looped_length : length s'.flags ≡ length rows
    looped_length =
        elim (cases_eq at_node to) [
          | inl loop ↦ ap (λ f. length f) (meets.looped.itself loop) ∙ length-set s.flags at_node true ∙ now.sized.flags
          | inr apart ↦ ap (λ f. length f) (meets.looped.other apart) ∙ now.sized.flags
        ]

    met_walk : IsWalk (IsTarget rows) stack s.size (StandsIn s.path 0 s.height) (λ b. StandsIn s.starts 0 s.count b × (b ≤ to_place)) (IsMarked s.closed) (IsMarked s'.flags) (reads_then rows s now high)
    met_walk =
        IsWalk-meet_open (IsTarget rows) stack s.size (StandsIn s.path 0 s.height) (StandsIn s.starts 0 s.count) (IsMarked s.closed) (IsMarked s.flags) (reads_now rows s now high) (reads_then rows s now high) (top rows s now high) at_place now.walk (is_top rows s now high)
        to_place place_within (subst (λ x. IsTarget rows at_node at_place x) (sym stands_there) here) (λ w is. only w is ∙ sym stands_there) (IsMarked s'.flags) flagged_wider flagged_looped flagged_narrower

    met_search : IsSearch rows (asked (with_starts s s'.count s'.flags) at_node)
    met_search = record {
      sized = record {
        stack = now.sized.stack;
        path = now.sized.path;
        starts = now.sized.starts;
        place = now.sized.place;
        met = now.sized.met;
        closed = now.sized.closed;
        flags = looped_length;
        reads = reads_length rows s now high;
        order = now.sized.order;
      };
      walk = IsWalk-renamed (IsTarget rows) stack s.size (StandsIn s.path 0 s.height) (StandsIn s.path 0 s.height) (λ b. StandsIn s.starts 0 s.count b × (b ≤ to_place)) (StandsIn s.starts 0 s'.count) (IsMarked s.closed) (IsMarked s.closed) (IsMarked s'.flags) (IsMarked s'.flags) (reads_then rows s now high)
          (λ i. ((λ h. h), (λ h. h))) starts_are (λ v. ((λ h. h), (λ h. h))) (λ v. ((λ h. h), (λ h. h))) met_walk;
      met = now.met;
      places = now.places;
      unread = unread_then rows s now high;
      path_rises = now.path_rises;
      starts_rise = Rises-fewer s.starts s.count s'.count meets.fewer now.starts_rise;
      room = now.room;
      ordered = now.ordered;
      few = few_then rows s now high;
      unfinished = unfinished_then rows s now high more;
    }

  marked_or_not : (marks : List Bool) (v : ℕ) → IsMarked marks v ⊎ (¬ IsMarked marks v)
  marked_or_not marks v = by_flag (get_or marks v false) refl
    where
      by_flag : (b : Bool) → get_or marks v false ≡ b → IsMarked marks v ⊎ (¬ IsMarked marks v)
      by_flag true is = inl is
      by_flag false is = inr (λ marked. let clash : true ≡ false = sym marked ∙ is in cc)

  pub follow_search : (s' : State) → Follows (asked s at_node) s' at_node to → IsSearch rows s'
  follow_search s' follows =
      elim (marked_or_not s.met to) [
        | inr unmet ↦ subst (λ x. IsSearch rows x) (sym (follows.new unmet)) (entered_search unmet)
        | inl met ↦ elim (marked_or_not s.closed to) [
          | inl closed ↦ subst (λ x. IsSearch rows x) (sym (follows.closed met closed)) (closed_search closed)
          | inr unclosed ↦
              let meets = follows.pending met unclosed in
              subst (λ x. IsSearch rows x) (sym meets.rest) (met_search s' met unclosed meets)
        ]
      ]

  -- what following keeps
  pub follow_keeps : (s' : State) → Follows (asked s at_node) s' at_node to → (s'.reads ≡ set s.reads at_node (at_place + 1)) × ((v : ℕ) → IsMarked s.met v → IsMarked s'.met v)
  follow_keeps s' follows =
      elim (marked_or_not s.met to) [
        | inr unmet ↦
            let is = follows.new unmet in
            (ap (λ x. x.reads) is, λ v old. subst (λ m. IsMarked m v) (sym (ap (λ x. x.met) is)) (IsMarked-set s.met to v old))
        | inl met ↦ elim (marked_or_not s.closed to) [
          | inl closed ↦ let is = follows.closed met closed in (ap (λ x. x.reads) is, λ v old. subst (λ m. IsMarked m v) (sym (ap (λ x. x.met) is)) old)
          | inr unclosed ↦ let is = (follows.pending met unclosed).rest in (ap (λ x. x.reads) is, λ v old. subst (λ m. IsMarked m v) (sym (ap (λ x. x.met) is)) old)
        ]
      ]
