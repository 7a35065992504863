-- The walk before its first node, at a new root, and at its end.
use Rattle.std.proofs.Common.{◌≡◌, ℕ, zero, suc, ◌+◌, ◌<◌, ◌≤◌, ◌↔◌, zero-le, true, false, List, length, get_or, set, replicate, ◌⊎◌, inl, inr, refl, sym, ◌∙◌, ap, subst, arith}
use Rattle.std.specs.Prelude.{sum}
use Rattle.std.proofs.lemmas.Bool.{cases_lt}
use Rattle.std.proofs.lemmas.List.{get_or-set_same, length-set, length-replicate}
use Rattle.cv_graph.specs.Edges.{HasEdge, edge_count}
use Rattle.cv_spec_element.specs.Walks.{IsCyclic}
use Rattle.cv_cycle.specs.Marks.{IsMarked, StandsIn, unmarked_count}
use Rattle.cv_cycle.specs.State.{State, HasRoom, fresh, entered}
use Rattle.cv_cycle.specs.Search.{IsWalk, IsTarget, IsSearch}
use Rattle.cv_cycle.proofs.Marking.{IsMarked-below, IsMarked-set, IsMarked-set_is, unmarked_at, unmarked_count-set, unmarked_count-fresh, unmarked_count-none, none_marked-fresh}
use Rattle.cv_cycle.proofs.Along.{IsCyclic-below}
use Rattle.cv_cycle.proofs.Components.{IsWalk-root}
use Rattle.cv_cycle.proofs.Readings.{IsWalk-renamed, IsWalk-end, sum-reads}
use Rattle.cv_cycle.proofs.Top.{count_small}

get_or-fresh : (n v : ℕ) → ◌≡◌ {A = ℕ} (get_or (replicate n 0) v 0) 0
get_or-fresh zero v = refl
get_or-fresh (suc n) zero = refl
get_or-fresh (suc n) (suc v) = get_or-fresh n v

pub fresh_search : (rows : List (List ℕ)) → IsSearch rows (fresh (length rows))
fresh_search rows = record {
  sized = record {
    stack = length-replicate (length rows) 0;
    path = length-replicate (length rows) 0;
    starts = length-replicate (length rows) 0;
    place = length-replicate (length rows) 0;
    met = length-replicate (length rows) false;
    closed = length-replicate (length rows) false;
    flags = length-replicate (length rows) false;
    reads = length-replicate (length rows) 0;
    order = length-replicate (length rows) 0;
  };
  walk = record {
    apart = λ i j below_i below_j e. absurd (omega arith);
    unclosed = λ i below. absurd (omega arith);
    kept = λ v w closed step. absurd (none v closed);
    sound = λ v flagged. absurd (none v flagged);
    full = λ v closed loop. absurd (none v closed);
    loops = λ i k below asked is. absurd (omega arith);
    inside = λ b i k w start from below asked is. absurd (omega arith);
    finished = λ i below. absurd (omega arith);
    forward = λ i j lower below. absurd (omega arith);
    back = λ i j lower below none_between. absurd (omega arith);
    starts = λ b start. absurd (omega (arith, start.2));
    path = λ i on. absurd (omega (arith, on.2));
    first = λ some. absurd (omega arith);
  };
  met = λ v. ((λ is. absurd (none v is)), (λ is. elim is [ inl closed ↦ absurd (none v closed) | inr stands ↦ absurd (omega (arith, stands.2)) ]));
  places = λ i below. absurd (omega arith);
  unread = λ v unmet. get_or-fresh (length rows) v;
  path_rises = λ a b order below. absurd (omega arith);
  starts_rise = λ a b order below. absurd (omega arith);
  room = omega (arith, unmarked_count-fresh (length rows));
  ordered = record {
    written = λ v. ((λ closed. absurd (none v closed)), (λ stands. absurd (omega (arith, stands.2))));
    once = λ i j below_i below_j e. absurd (omega arith);
    earlier = λ i w below. absurd (omega arith);
  };
  few = λ v below. omega (arith, get_or-fresh (length rows) v);
  unfinished = λ i on. absurd (omega (arith, on.2));
}
  where
    none : (v : ℕ) → ¬ IsMarked (replicate (length rows) false) v
    none v = none_marked-fresh (length rows) v

module _ (rows : List (List ℕ)) (s : State) (now : IsSearch rows s) where
  -- where the path is empty, so is the stack
  pub nothing_left : s.height ≡ 0 → s.size ≡ 0
  nothing_left low =
      elim (cases_lt 0 s.size) [
        | inr none ↦ omega arith
        | inl some ↦ absurd (let on = now.walk.starts 0 (now.walk.first some) in omega (arith, on.2))
      ]

  module _ (low : s.height ≡ 0) (root : ℕ) (below : root < length rows) (unmet : ¬ IsMarked s.met root) where
    empty : s.size ≡ 0
    empty = nothing_left low

    no_starts : s.count ≡ 0
    no_starts = omega (arith, count_small rows s now, empty)

    pub room_left : s.size < length rows
    room_left = omega (arith, empty, below)

    stack_at : (i : ℕ) → i < s.size + 1 → get_or (set s.stack s.size root) i 0 ≡ root
    stack_at i small =
        let same : i ≡ s.size = omega (arith, empty) in
        ap (λ j. get_or (set s.stack s.size root) j 0) same ∙ get_or-set_same s.stack s.size root 0 (omega (arith, room_left, now.sized.stack))

    -- the one place that was written is 0
    only_place : (places : List ℕ) (height : ℕ) → height ≡ 0 → height < length places → (i : ℕ) → (i ≡ 0) ↔ StandsIn (set places height s.size) 0 (height + 1) i
    only_place places height none room i = (forth, back)
      where
        value : get_or (set places height s.size) height 0 ≡ s.size
        value = get_or-set_same places height s.size 0 room

        forth : i ≡ 0 → StandsIn (set places height s.size) 0 (height + 1) i
        forth same = (height, zero-le, omega arith, omega (arith, value, empty))

        back : StandsIn (set places height s.size) 0 (height + 1) i → i ≡ 0
        back stands =
            let at : stands.0 ≡ height = omega (arith, stands.2) in
            let is : get_or (set places height s.size) stands.0 0 ≡ s.size = ap (λ j. get_or (set places height s.size) j 0) at ∙ value in
            omega (arith, stands.3, is, empty)

    unclosed : ¬ IsMarked s.closed root
    unclosed closed = unmet ((now.met root).1 (inl closed))

    begun_walk : IsWalk (IsTarget rows) (λ i. get_or (set s.stack s.size root) i 0) (s.size + 1) (λ i. i ≡ 0) (λ b. b ≡ 0) (IsMarked s.closed) (IsMarked s.flags) (λ v. get_or s.reads v 0)
    begun_walk =
        let one : 1 ≡ s.size + 1 = omega (arith, empty) in
        subst (λ n. IsWalk (IsTarget rows) (λ i. get_or (set s.stack s.size root) i 0) n (λ i. i ≡ 0) (λ b. b ≡ 0) (IsMarked s.closed) (IsMarked s.flags) (λ v. get_or s.reads v 0)) one
        (IsWalk-root (IsTarget rows) (λ i. get_or s.stack i 0) (StandsIn s.path 0 s.height) (StandsIn s.starts 0 s.count) (IsMarked s.closed) (IsMarked s.flags) (λ v. get_or s.reads v 0)
        (subst (λ n. IsWalk (IsTarget rows) (λ i. get_or s.stack i 0) n (StandsIn s.path 0 s.height) (StandsIn s.starts 0 s.count) (IsMarked s.closed) (IsMarked s.flags) (λ v. get_or s.reads v 0)) empty now.walk)
        root unclosed (now.unread root unmet) (λ i. get_or (set s.stack s.size root) i 0) (stack_at 0 (omega arith)))

    begun_met : (v : ℕ) → IsMarked (set s.met root true) v ↔ (IsMarked s.closed v ⊎ StandsIn (set s.stack s.size root) 0 (s.size + 1) v)
    begun_met v = (forth, back)
      where
        marked : (IsMarked s.met v ⊎ (root ≡ v)) ↔ IsMarked (set s.met root true) v
        marked = IsMarked-set_is s.met root (omega (arith, below, now.sized.met)) v

        forth : IsMarked (set s.met root true) v → IsMarked s.closed v ⊎ StandsIn (set s.stack s.size root) 0 (s.size + 1) v
        forth is =
            elim (marked.1 is) [
              | inl old ↦ elim ((now.met v).0 old) [ inl closed ↦ inl closed | inr stands ↦ absurd (omega (arith, stands.2, empty)) ]
              | inr same ↦ inr (s.size, zero-le, omega arith, stack_at s.size (omega arith) ∙ same)
            ]

        back : IsMarked s.closed v ⊎ StandsIn (set s.stack s.size root) 0 (s.size + 1) v → IsMarked (set s.met root true) v
        back (inl closed) = marked.0 (inl ((now.met v).1 (inl closed)))
        back (inr stands) = marked.0 (inr (sym (stack_at stands.0 stands.2) ∙ stands.3))

    pub begin_search : IsSearch rows (entered s root)
    begin_search = record {
      sized = record {
        stack = length-set s.stack s.size root ∙ now.sized.stack;
        path = length-set s.path s.height s.size ∙ now.sized.path;
        starts = length-set s.starts s.count s.size ∙ now.sized.starts;
        place = length-set s.place root s.size ∙ now.sized.place;
        met = length-set s.met root true ∙ now.sized.met;
        closed = now.sized.closed;
        flags = now.sized.flags;
        reads = now.sized.reads;
        order = now.sized.order;
      };
      walk = IsWalk-renamed (IsTarget rows) (λ i. get_or (set s.stack s.size root) i 0) (s.size + 1) (λ i. i ≡ 0) (StandsIn (set s.path s.height s.size) 0 (s.height + 1)) (λ b. b ≡ 0) (StandsIn (set s.starts s.count s.size) 0 (s.count + 1)) (IsMarked s.closed) (IsMarked s.closed) (IsMarked s.flags) (IsMarked s.flags) (λ v. get_or s.reads v 0)
          (only_place s.path s.height low (omega (arith, low, below, now.sized.path))) (only_place s.starts s.count no_starts (omega (arith, no_starts, below, now.sized.starts))) (λ v. ((λ h. h), (λ h. h))) (λ v. ((λ h. h), (λ h. h))) begun_walk;
      met = begun_met;
      places = λ i small.
          ap (λ x. get_or (set s.place root s.size) x 0) (stack_at i small) ∙ get_or-set_same s.place root s.size 0 (omega (arith, below, now.sized.place)) ∙ omega (arith, empty);
      unread = λ v none. now.unread v (λ old. none (IsMarked-set s.met root v old));
      path_rises = λ a b order small. absurd (omega (arith, low));
      starts_rise = λ a b order small. absurd (omega (arith, no_starts));
      room =
          let marks : unmarked_count (set s.met root true) + 1 ≡ unmarked_count s.met = unmarked_count-set s.met root (omega (arith, below, now.sized.met)) (unmarked_at s.met root unmet) in
          omega (arith, marks, now.room);
      ordered = now.ordered;
      few = now.few;
      unfinished = λ i on.
          let value : get_or (set s.stack s.size root) i 0 ≡ root = stack_at i (let zero_is : i ≡ 0 = (only_place s.path s.height low (omega (arith, low, below, now.sized.path)) i).1 on in omega (arith, zero_is)) in
          let none : get_or s.reads (get_or (set s.stack s.size root) i 0) 0 ≡ 0 = ap (λ v. get_or s.reads v 0) value ∙ now.unread root unmet in
          omega (arith, none);
    }

    pub begin_room : HasRoom s
    begin_room = record {
      size = omega (arith, room_left, now.sized.met);
      height = omega (arith, low, below, now.sized.met);
      count = omega (arith, no_starts, below, now.sized.met);
    }

    pub begin_root : IsMarked (set s.met root true) root
    begin_root = get_or-set_same s.met root true false (omega (arith, below, now.sized.met))

    pub begin_keeps : (v : ℕ) → IsMarked s.met v → IsMarked (set s.met root true) v
    begin_keeps v old = IsMarked-set s.met root v old

  -- once every node was met and the path is empty, each node stands in the order
  module _ (low : s.height ≡ 0) (all : (v : ℕ) → v < length rows → IsMarked s.met v) where
    all_done : s.done ≡ length rows
    all_done =
        let none : unmarked_count s.met ≡ 0 = unmarked_count-none s.met (λ v below. all v (omega (arith, below, now.sized.met))) in
        omega (arith, none, nothing_left low, now.room)

    pub order_stands : (v : ℕ) → (v < length rows) ↔ StandsIn s.order 0 (length rows) v
    order_stands v = (forth, back)
      where
        forth : v < length rows → StandsIn s.order 0 (length rows) v
        forth below =
            elim ((now.met v).0 (all v below)) [
              | inl closed ↦ subst (λ n. StandsIn s.order 0 n v) all_done ((now.ordered.written v).0 closed)
              | inr stands ↦ absurd (omega (arith, stands.2, nothing_left low))
            ]

        back : StandsIn s.order 0 (length rows) v → v < length rows
        back stands =
            let closed : IsMarked s.closed v = (now.ordered.written v).1 (subst (λ n. StandsIn s.order 0 n v) (sym all_done) stands) in
            omega (arith, IsMarked-below s.closed v closed, now.sized.closed)

    pub order_once : (i j : ℕ) → i < length rows → j < length rows → get_or s.order i 0 ≡ get_or s.order j 0 → i ≡ j
    order_once i j below_i below_j = now.ordered.once i j (omega (arith, below_i, all_done)) (omega (arith, below_j, all_done))

    pub order_earlier : (i w : ℕ) → i < length rows → ¬ IsCyclic (HasEdge rows) (get_or s.order i 0) → HasEdge rows (get_or s.order i 0) w → StandsIn s.order 0 i w
    order_earlier i w below = now.ordered.earlier i w (omega (arith, below, all_done))

  -- once every node was met and the path is empty, the flags are right
  pub flags_right : s.height ≡ 0 → ((v : ℕ) → v < length rows → IsMarked s.met v) → (v : ℕ) → IsMarked s.flags v ↔ IsCyclic (HasEdge rows) v
  flags_right low all v = (forth, back)
    where
      closed_all : (w : ℕ) → w < length rows → IsMarked s.closed w
      closed_all w below =
          elim ((now.met w).0 (all w below)) [ inl closed ↦ closed | inr stands ↦ absurd (omega (arith, stands.2, nothing_left low)) ]

      forth : IsMarked s.flags v → IsCyclic (HasEdge rows) v
      forth flagged =
          let below : v < length rows = omega (arith, IsMarked-below s.flags v flagged, now.sized.flags) in
          (IsWalk-end rows (λ i. get_or s.stack i 0) s.size (StandsIn s.path 0 s.height) (StandsIn s.starts 0 s.count) (IsMarked s.closed) (IsMarked s.flags) (λ w. get_or s.reads w 0) now.walk v (closed_all v below)).0 flagged

      back : IsCyclic (HasEdge rows) v → IsMarked s.flags v
      back loop =
          let below : v < length rows = IsCyclic-below rows v loop in
          (IsWalk-end rows (λ i. get_or s.stack i 0) s.size (StandsIn s.path 0 s.height) (StandsIn s.starts 0 s.count) (IsMarked s.closed) (IsMarked s.flags) (λ w. get_or s.reads w 0) now.walk v (closed_all v below)).1 loop

  -- no more edges were asked for than there are edges and nodes
  pub few_reads : sum s.reads ≤ edge_count rows + length rows
  few_reads = sum-reads rows s.reads now.sized.reads now.few
