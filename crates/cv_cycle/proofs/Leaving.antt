-- The end of the path has no further edge: the walk keeps what it keeps.
use Rattle.std.proofs.Common.{◌≡◌, ◌≢◌, ℕ, suc, ◌+◌, ◌-◌, ◌<◌, ◌≤◌, ◌↔◌, zero-le, List, length, get_or, set, None, ◌⊎◌, inl, inr, refl, sym, ◌∙◌, ap, subst, arith}
use Rattle.std.specs.Prelude.{slice_get}
use Rattle.std.proofs.lemmas.Bool.{cases_eq, cases_lt}
use Rattle.cv_graph.specs.Edges.{targets}
use Rattle.cv_cycle.specs.Marks.{IsMarked, StandsIn}
use Rattle.cv_cycle.specs.State.{State, shortened, Copies, written, cut, asked, Cuts, Closes, Leaves}
use Rattle.cv_cycle.specs.Search.{StandsFrom, IsWalk, IsTarget, IsSearch}
use Rattle.cv_cycle.proofs.Places.{StandsIn-shorter, Rises-fewer}
use Rattle.cv_cycle.proofs.Closing.{IsWalk-leave, IsWalk-close}
use Rattle.cv_cycle.proofs.Readings.{IsWalk-renamed}
use Rattle.cv_cycle.proofs.Ordering.{IsOrdered-close}
use Rattle.cv_cycle.proofs.Top.{top, node, place, reads_now, reads_then, top_below, top_highest, is_top, some_start, reads_other, unread_then, few_then, reads_length, all_asked}

module _ (rows : List (List ℕ)) (s : State) (now : IsSearch rows s) (high : 0 < s.height) (none : slice_get (targets rows (node rows s now high)) (place rows s now high) ≡ None) where
  abbrev at_node : ℕ
  at_node = node rows s now high

  abbrev at_place : ℕ
  at_place = place rows s now high

  abbrev at_top : ℕ
  at_top = top rows s now high

  abbrev stack : ℕ → ℕ
  stack i = get_or s.stack i 0

  path_are : (i : ℕ) → (StandsIn s.path 0 s.height i × (i < at_top)) ↔ StandsIn s.path 0 (s.height - 1) i
  path_are = StandsIn-shorter s.path s.height high now.path_rises

  left_unfinished : (i : ℕ) → StandsIn s.path 0 (s.height - 1) i → reads_then rows s now high (stack i) ≤ length (targets rows (stack i))
  left_unfinished i on =
      let before = (path_are i).1 on in
      let apart : stack i ≢ at_node = λ same. let i_is : i ≡ at_top = now.walk.apart i at_top (now.walk.path i before.0) (top_below rows s now high) same in absurd (omega (arith, before.1)) in
      omega (arith, reads_other rows s now high (stack i) apart, now.unfinished i before.0)

  -- the end of the path is no start
  not_start : get_or s.starts (s.count - 1) 0 ≢ at_top → ¬ StandsIn s.starts 0 s.count at_top
  not_start other start =
      elim (cases_eq start.0 (s.count - 1)) [
        | inl last ↦ absurd (other (ap (λ a. get_or s.starts a 0) (sym last) ∙ start.3))
        | inr apart ↦
            let above : get_or s.starts start.0 0 < get_or s.starts (s.count - 1) 0 = now.starts_rise start.0 (s.count - 1) (omega (arith, start.2)) (omega (arith, start.2)) in
            let last_start : StandsIn s.starts 0 s.count (get_or s.starts (s.count - 1) 0) = (s.count - 1, zero-le, omega (arith, start.2), refl) in
            let upto : get_or s.starts (s.count - 1) 0 ≤ at_top = top_highest rows s now high (get_or s.starts (s.count - 1) 0) (now.walk.starts (get_or s.starts (s.count - 1) 0) last_start) in
            absurd (omega (arith, above, upto, start.3))
      ]

  left_search : get_or s.starts (s.count - 1) 0 ≢ at_top → IsSearch rows (asked (shortened s) at_node)
  left_search other = record {
    sized = record {
      stack = now.sized.stack;
      path = now.sized.path;
      starts = now.sized.starts;
      place = now.sized.place;
      met = now.sized.met;
      closed = now.sized.closed;
      flags = now.sized.flags;
      reads = reads_length rows s now high;
      order = now.sized.order;
    };
    walk = IsWalk-renamed (IsTarget rows) stack s.size (λ i. StandsIn s.path 0 s.height i × (i < at_top)) (StandsIn s.path 0 (s.height - 1)) (StandsIn s.starts 0 s.count) (StandsIn s.starts 0 s.count) (IsMarked s.closed) (IsMarked s.closed) (IsMarked s.flags) (IsMarked s.flags) (reads_then rows s now high)
        path_are (λ b. ((λ h. h), (λ h. h))) (λ v. ((λ h. h), (λ h. h))) (λ v. ((λ h. h), (λ h. h)))
        (IsWalk-leave (IsTarget rows) stack s.size (StandsIn s.path 0 s.height) (StandsIn s.starts 0 s.count) (IsMarked s.closed) (IsMarked s.flags) (reads_now rows s now high) (reads_then rows s now high) at_top at_place now.walk (is_top rows s now high) (all_asked rows s now high none) (not_start other));
    met = now.met;
    places = now.places;
    unread = unread_then rows s now high;
    path_rises = Rises-fewer s.path s.height (s.height - 1) (omega arith) now.path_rises;
    starts_rise = now.starts_rise;
    room = now.room;
    ordered = now.ordered;
    few = few_then rows s now high;
    unfinished = left_unfinished;
  }

  module _ (order : List ℕ) (s' : State) (start : get_or s.starts (s.count - 1) 0 ≡ at_top) (copies : Copies s.order order s.done s.stack at_top s.size) (closes : Cuts (written (shortened (asked s at_node)) at_top order) s' at_top) where
    start_in : StandsIn s.starts 0 s.count at_top
    start_in = (s.count - 1, zero-le, omega (arith, some_start rows s now high), start)

    flagged_wider : (v : ℕ) → IsMarked s.flags v → IsMarked s'.flags v
    flagged_wider v old =
        elim (cases_lt 1 (s.size - at_top)) [
          | inl several ↦ (closes.flags several v).1 (inl old)
          | inr single ↦ subst (λ f. IsMarked f v) (sym (closes.same_flags single)) old
        ]

    flagged_all : (i : ℕ) → at_top ≤ i → i < s.size → suc at_top < s.size → IsMarked s'.flags (stack i)
    flagged_all i from below two = (closes.flags (omega (arith, two)) (stack i)).1 (inr (i, from, below, refl))

    flagged_narrower : (v : ℕ) → IsMarked s'.flags v → IsMarked s.flags v ⊎ (StandsFrom stack s.size at_top v × (suc at_top < s.size))
    flagged_narrower v flagged =
        elim (cases_lt 1 (s.size - at_top)) [
          | inl several ↦ elim ((closes.flags several v).0 flagged) [ inl old ↦ inl old | inr stands ↦ inr (stands, omega arith) ]
          | inr single ↦ inl (subst (λ f. IsMarked f v) (closes.same_flags single) flagged)
        ]

    starts_are : (b : ℕ) → (StandsIn s.starts 0 s.count b × (b < at_top)) ↔ StandsIn s.starts 0 (s.count - 1) b
    starts_are b =
        subst (λ t. (StandsIn s.starts 0 s.count b × (b < t)) ↔ StandsIn s.starts 0 (s.count - 1) b) start (StandsIn-shorter s.starts s.count (some_start rows s now high) now.starts_rise b)

    closed_are : (v : ℕ) → (IsMarked s.closed v ⊎ StandsFrom stack s.size at_top v) ↔ IsMarked s'.closed v
    closed_are v = ((closes.closed v).1, (closes.closed v).0)

    closed_met : (v : ℕ) → IsMarked s.met v ↔ (IsMarked s'.closed v ⊎ StandsIn s.stack 0 at_top v)
    closed_met v = (forth, back)
      where
        forth : IsMarked s.met v → IsMarked s'.closed v ⊎ StandsIn s.stack 0 at_top v
        forth is =
            elim ((now.met v).0 is) [
              | inl closed ↦ inl ((closes.closed v).1 (inl closed))
              | inr stands ↦ elim (cases_lt stands.0 at_top) [
                | inl lower ↦ inr (stands.0, stands.1, lower, stands.3)
                | inr upper ↦ inl ((closes.closed v).1 (inr (stands.0, upper, stands.2, stands.3)))
              ]
            ]

        back : IsMarked s'.closed v ⊎ StandsIn s.stack 0 at_top v → IsMarked s.met v
        back (inr stands) = (now.met v).1 (inr (stands.0, stands.1, omega (arith, stands.2, top_below rows s now high), stands.3))
        back (inl closed) =
            elim ((closes.closed v).0 closed) [
              | inl old ↦ (now.met v).1 (inl old)
              | inr stands ↦ (now.met v).1 (inr (stands.0, zero-le, stands.2, stands.3))
            ]

    closed_walk : IsWalk (IsTarget rows) stack at_top (StandsIn s.path 0 (s.height - 1)) (StandsIn s.starts 0 (s.count - 1)) (IsMarked s'.closed) (IsMarked s'.flags) (reads_then rows s now high)
    closed_walk =
        IsWalk-renamed (IsTarget rows) stack at_top (λ i. StandsIn s.path 0 s.height i × (i < at_top)) (StandsIn s.path 0 (s.height - 1)) (λ b. StandsIn s.starts 0 s.count b × (b < at_top)) (StandsIn s.starts 0 (s.count - 1)) (λ v. IsMarked s.closed v ⊎ StandsFrom stack s.size at_top v) (IsMarked s'.closed) (IsMarked s'.flags) (IsMarked s'.flags) (reads_then rows s now high)
        path_are starts_are closed_are (λ v. ((λ h. h), (λ h. h)))
        (IsWalk-close (IsTarget rows) stack s.size (StandsIn s.path 0 s.height) (StandsIn s.starts 0 s.count) (IsMarked s.closed) (IsMarked s.flags) (reads_now rows s now high) (reads_then rows s now high) at_top at_place now.walk (is_top rows s now high) (all_asked rows s now high none) start_in (IsMarked s'.flags) flagged_wider flagged_all flagged_narrower)

    closed_search : IsSearch rows (asked (cut (written (shortened s) at_top order) at_top s'.closed s'.flags) at_node)
    closed_search = record {
      sized = record {
        stack = now.sized.stack;
        path = now.sized.path;
        starts = now.sized.starts;
        place = now.sized.place;
        met = now.sized.met;
        closed = closes.closed_count ∙ now.sized.closed;
        flags = closes.flags_count ∙ now.sized.flags;
        reads = reads_length rows s now high;
        order = copies.count ∙ now.sized.order;
      };
      walk = closed_walk;
      met = closed_met;
      places = λ i below. now.places i (omega (arith, below, top_below rows s now high));
      unread = unread_then rows s now high;
      path_rises = Rises-fewer s.path s.height (s.height - 1) (omega arith) now.path_rises;
      starts_rise = Rises-fewer s.starts s.count (s.count - 1) (omega arith) now.starts_rise;
      room = omega (arith, now.room, top_below rows s now high);
      ordered = IsOrdered-close rows stack s.size at_top (IsMarked s.closed) (IsMarked s'.closed) (IsMarked s'.flags) s.order order s.done now.ordered now.walk.unclosed now.walk.apart closed_are closed_walk.kept closed_walk.sound (λ i from below two. flagged_all i from below two) copies.kept copies.copied;
      few = few_then rows s now high;
      unfinished = left_unfinished;
    }

  module _ (s' : State) (start : get_or s.starts (s.count - 1) 0 ≡ at_top) (closes : Closes (shortened (asked s at_node)) s' at_top) where
    abbrev order_now : List ℕ
    order_now = closes.between.order

    cuts : Cuts (written (shortened (asked s at_node)) at_top order_now) s' at_top
    cuts = subst (λ x. Cuts x s' at_top) closes.writes.rest closes.cuts

    whole_search : IsSearch rows s'
    whole_search = subst (λ x. IsSearch rows x) (sym cuts.rest) (closed_search order_now s' start closes.writes.copies cuts)

  pub leave_search : (s' : State) → Leaves (asked s at_node) s' at_top → IsSearch rows s'
  leave_search s' leaves =
      elim (cases_eq (get_or s.starts (s.count - 1) 0) at_top) [
        | inl start ↦ whole_search s' start (leaves.whole start)
        | inr other ↦ subst (λ x. IsSearch rows x) (sym (leaves.plain other)) (left_search other)
      ]

  -- what leaving changes neither
  pub leave_keeps : (s' : State) → Leaves (asked s at_node) s' at_top → (s'.reads ≡ set s.reads at_node (at_place + 1)) × (s'.met ≡ s.met)
  leave_keeps s' leaves =
      elim (cases_eq (get_or s.starts (s.count - 1) 0) at_top) [
        | inl start ↦ let closes = leaves.whole start in (ap (λ x. x.reads) (cuts s' start closes).rest, ap (λ x. x.met) (cuts s' start closes).rest)
        | inr other ↦ (ap (λ x. x.reads) (leaves.plain other), ap (λ x. x.met) (leaves.plain other))
      ]
