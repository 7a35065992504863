-- Where elements end: from the last element to the first, each makes its parent end no earlier than itself.
use Rattle.std.proofs.Common.{◌≡◌, ◌≢◌, ◌⊎◌, inl, inr, ℕ, zero, suc, ◌+◌, ◌<◌, ◌≤◌, ◌==◌, Bool, true, false, List, [], ◌∷◌, ◌++◌, append-nil, drop, take, length, get_or, get_or-set_other, get_or-set_same, length-set, refl, sym, ap, ◌∙◌, subst, arith}
use Rattle.std.specs.Prelude.{Option, Some, None, nat_lt, slice_set, if◌then◌else◌}
use Rattle.std.specs.List.{slice_get}
use Rattle.std.proofs.lemmas.Bool.{eqb-false, eqb-true, ltb-false, ltb-true}
use Rattle.std.proofs.lemmas.List.{drop_all, take_all}
use Rattle.std.proofs.lemmas.Option.{get_or_from_slice_get, slice_get_within}
use Rattle.cv_doc.specs.declared.elements.Elem.{Elem}
use Rattle.cv_doc.specs.Kept.{IsParentOf, IsTree}
use Rattle.cv_walk.specs.Extents.{EndsAt, IsIn, raised}
use Rattle.cv_walk.proofs.Inside.{below_marked, first_marked, length_marks, marked_known}

-- the element with index i is the parent of the one with index c
pub record IsChild (elements : List Elem) (i c : ℕ) : Type 0 where
  pub child : Elem
  pub there : slice_get elements c ≡ Some child
  pub under : child.parent ≡ Some i

-- Each element ends behind itself; none from this index on ends later than its parent, and each ends right behind itself or where one of its
-- children from this index on does.
pub record IsEnding (elements : List Elem) (ends : List ℕ) (index : ℕ) : Type 0 where
  pub count : length ends ≡ length elements
  pub within : index ≤ length elements
  pub behind : (i : ℕ) → i < length elements → i < get_or ends i 0
  pub children : (i c : ℕ) → index ≤ c → IsChild elements i c → get_or ends c 0 ≤ get_or ends i 0
  pub least : (i : ℕ) → i < length elements → (get_or ends i 0 ≡ i + 1) ⊎ ((c : ℕ) × (index ≤ c) × IsChild elements i c × (get_or ends c 0 ≡ get_or ends i 0))

same_or_other : (i j : ℕ) → (i ≡ j) ⊎ (i ≢ j)
same_or_other i j = by (i == j) refl
  where
    by : (b : Bool) → (i == j) ≡ b → (i ≡ j) ⊎ (i ≢ j)
    by true is = inl (eqb-true i j is)
    by false is = inr (eqb-false i j is)

-- ---- one element more

-- the end at p may have grown to that at n, and the others are as they were
record IsRaised (ends : List ℕ) (p n : ℕ) (new : List ℕ) : Type 0 where
  count : length new ≡ length ends
  grown : get_or ends p 0 ≤ get_or new p 0
  enough : get_or ends n 0 ≤ get_or new p 0
  no_more : (get_or new p 0 ≡ get_or ends p 0) ⊎ (get_or new p 0 ≡ get_or ends n 0)
  others : (i : ℕ) → i ≢ p → get_or new i 0 ≡ get_or ends i 0

is_raised : (ends : List ℕ) (p n : ℕ) → p < length ends → IsRaised ends p n (raised ends n (Some p))
is_raised ends p n there = by (nat_lt (get_or ends p 0) (get_or ends n 0)) refl
  where
    by : (b : Bool) → nat_lt (get_or ends p 0) (get_or ends n 0) ≡ b → IsRaised ends p n (if nat_lt (get_or ends p 0) (get_or ends n 0) then slice_set ends p (get_or ends n 0) else ends)
    by true is =
        let here : get_or (slice_set ends p (get_or ends n 0)) p 0 ≡ get_or ends n 0 = get_or-set_same ends p (get_or ends n 0) 0 there in
        let less : get_or ends p 0 < get_or ends n 0 = ltb-true (get_or ends p 0) (get_or ends n 0) is in
        subst (λ (b : Bool). IsRaised ends p n (if b then slice_set ends p (get_or ends n 0) else ends)) (sym is) (record {
          count = length-set ends p (get_or ends n 0);
          grown = omega (arith, here, less);
          enough = omega (arith, here);
          no_more = inr here;
          others = λ i other. get_or-set_other ends p i (get_or ends n 0) 0 other;
        })
    by false is =
        subst (λ (b : Bool). IsRaised ends p n (if b then slice_set ends p (get_or ends n 0) else ends)) (sym is) (record {
          count = refl;
          grown = omega arith;
          enough = omega (arith, ltb-false (get_or ends p 0) (get_or ends n 0) is);
          no_more = inl refl;
          others = λ i other. refl;
        })

module _ (elements : List Elem) (ends : List ℕ) (index next : ℕ) (e : Elem) (now : IsEnding elements ends index) (less : index ≡ next + 1) (at : slice_get elements next ≡ Some e) where
  -- a child from this index on is this one or a later one
  this_or_later : (i c : ℕ) → next ≤ c → IsChild elements i c → ((c ≡ next) × (e.parent ≡ Some i)) ⊎ (index ≤ c)
  this_or_later i c le child = by (same_or_other c next)
    where
      by : (c ≡ next) ⊎ (c ≢ next) → ((c ≡ next) × (e.parent ≡ Some i)) ⊎ (index ≤ c)
      by (inl same) =
          let both : Some child.child ≡ Some e = sym child.there ∙ ap (slice_get elements) same ∙ at in
          let one : child.child ≡ e = cc in
          inl (same, ap (λ (x : Elem). x.parent) (sym one) ∙ child.under)
      by (inr other) = inr (omega (arith, le, less, other))

  next_root : e.parent ≡ None → IsEnding elements ends next
  next_root none = record {
    count = now.count;
    within = omega (arith, less, now.within);
    behind = now.behind;
    children = λ i c le child. by i c child (this_or_later i c le child);
    least = λ i lt. weaker i (now.least i lt);
  }
    where
      by : (i c : ℕ) → IsChild elements i c → ((c ≡ next) × (e.parent ≡ Some i)) ⊎ (index ≤ c) → get_or ends c 0 ≤ get_or ends i 0
      by i c child (inl this) = let no : Some i ≡ None = sym this.1 ∙ none in cc
      by i c child (inr later) = now.children i c later child

      weaker : (i : ℕ) → (get_or ends i 0 ≡ i + 1) ⊎ ((c : ℕ) × (index ≤ c) × IsChild elements i c × (get_or ends c 0 ≡ get_or ends i 0)) → (get_or ends i 0 ≡ i + 1) ⊎ ((c : ℕ) × (next ≤ c) × IsChild elements i c × (get_or ends c 0 ≡ get_or ends i 0))
      weaker i (inl own) = inl own
      weaker i (inr found) = inr (found.0, omega (arith, found.1, less), found.2, found.3)

  module _ (p : ℕ) (under : e.parent ≡ Some p) (earlier : p < next) (new : List ℕ) (r : IsRaised ends p next new) where
    at_least : (i : ℕ) → get_or ends i 0 ≤ get_or new i 0
    at_least i = by (same_or_other i p)
      where
        by : (i ≡ p) ⊎ (i ≢ p) → get_or ends i 0 ≤ get_or new i 0
        by (inl same) = subst (λ j. get_or ends j 0 ≤ get_or new j 0) (sym same) r.grown
        by (inr other) = omega (arith, r.others i other)

    later_same : (c : ℕ) → next ≤ c → get_or new c 0 ≡ get_or ends c 0
    later_same c le = r.others c (λ same. absurd (omega (arith, le, same, earlier)))

    next_child : IsEnding elements new next
    next_child = record {
      count = r.count ∙ now.count;
      within = omega (arith, less, now.within);
      behind = λ i lt. omega (arith, now.behind i lt, at_least i);
      children = λ i c le child. by i c le child (this_or_later i c le child);
      least = λ i lt. found i lt (same_or_other i p);
    }
      where
        by : (i c : ℕ) → next ≤ c → IsChild elements i c → ((c ≡ next) × (e.parent ≡ Some i)) ⊎ (index ≤ c) → get_or new c 0 ≤ get_or new i 0
        by i c le child (inl this) =
            let both : Some p ≡ Some i = sym under ∙ this.1 in
            let one : p ≡ i = cc in
            subst (λ j. get_or new c 0 ≤ get_or new j 0) one
            (subst (λ d. get_or new d 0 ≤ get_or new p 0) (sym this.0) (omega (arith, later_same next (omega arith), r.enough)))
        by i c le child (inr later) = omega (arith, later_same c le, now.children i c later child, at_least i)

        still : (i : ℕ) → get_or new i 0 ≡ get_or ends i 0 → (get_or ends i 0 ≡ i + 1) ⊎ ((c : ℕ) × (index ≤ c) × IsChild elements i c × (get_or ends c 0 ≡ get_or ends i 0))
            → (get_or new i 0 ≡ i + 1) ⊎ ((c : ℕ) × (next ≤ c) × IsChild elements i c × (get_or new c 0 ≡ get_or new i 0))
        still i same (inl own) = inl (same ∙ own)
        still i same (inr child) =
            let le : next ≤ child.0 = omega (arith, child.1, less) in
            inr (child.0, le, child.2, later_same child.0 le ∙ child.3 ∙ sym same)

        found : (i : ℕ) → i < length elements → (i ≡ p) ⊎ (i ≢ p) → (get_or new i 0 ≡ i + 1) ⊎ ((c : ℕ) × (next ≤ c) × IsChild elements i c × (get_or new c 0 ≡ get_or new i 0))
        found i lt (inr other) = still i (r.others i other) (now.least i lt)
        found i lt (inl same) = here r.no_more
          where
            here : (get_or new p 0 ≡ get_or ends p 0) ⊎ (get_or new p 0 ≡ get_or ends next 0) → (get_or new i 0 ≡ i + 1) ⊎ ((c : ℕ) × (next ≤ c) × IsChild elements i c × (get_or new c 0 ≡ get_or new i 0))
            here (inl kept) = still i (subst (λ j. get_or new j 0 ≡ get_or ends j 0) (sym same) kept) (now.least i lt)
            here (inr grew) = inr (
              next,
              omega arith,
              record { child = e; there = at; under = under ∙ ap Some (sym same) },
              later_same next (omega arith) ∙ sym grew ∙ ap (λ j. get_or new j 0) (sym same),
            )

pub next_ending : (elements : List Elem) (ends new : List ℕ) (index next : ℕ) (e : Elem) → IsEnding elements ends index → index ≡ next + 1 → slice_get elements next ≡ Some e → IsParentOf next e.parent
    → new ≡ raised ends next e.parent → IsEnding elements new next
next_ending elements ends new index next e now less at earlier is = by e.parent refl
  where
    by : (parent : Option ℕ) → e.parent ≡ parent → IsEnding elements new next
    by None none = subst (λ l. IsEnding elements l next) (sym (is ∙ ap (raised ends next) none)) (next_root elements ends index next e now less at none)
    by (Some p) under =
        let lt : p < next = subst (IsParentOf next) under earlier in
        subst (λ l. IsEnding elements l next) (sym (is ∙ ap (raised ends next) under))
        (next_child elements ends index next e now less at p under lt (raised ends next (Some p)) (is_raised ends p next (omega (arith, lt, less, now.within, now.count))))

-- ---- from the beginning to the end

pub begun_ending : (elements : List Elem) (ends : List ℕ) (index : ℕ) → length ends ≡ length elements → index ≡ length elements → ((i : ℕ) → i < length ends → get_or ends i 0 ≡ i + 1) → IsEnding elements ends index
begun_ending elements ends index count same own = record {
  count = count;
  within = omega (arith, same);
  behind = λ i lt. omega (arith, own i (omega (arith, lt, count)));
  children = λ i c le child. absurd (omega (arith, le, same, slice_get_within elements c child.child child.there));
  least = λ i lt. inl (own i (omega (arith, lt, count)));
}

module _ (elements : List Elem) (tree : IsTree elements) where
  element_at : (i : ℕ) → i < length elements → (e : Elem) × (slice_get elements i ≡ Some e)
  element_at i lt = at elements i lt
    where
      at : (es : List Elem) (j : ℕ) → j < length es → (e : Elem) × (slice_get es j ≡ Some e)
      at [] j lt = absurd (omega (arith, lt))
      at (e ∷ es) zero lt = (e, refl)
      at (e ∷ es) (suc j) lt = at es j (omega (arith, lt))

  parent_at : (i : ℕ) (e : Elem) → slice_get elements i ≡ Some e → IsParentOf i e.parent
  parent_at i e at = subst (λ (x : Elem). IsParentOf i x.parent) (get_or_from_slice_get elements i e e at) (tree i e (slice_get_within elements i e at))

  element_in : (start i : ℕ) → IsIn elements start i → (e : Elem) × (slice_get elements i ≡ Some e)
  element_in start i is = element_at i (omega (arith, slice_get_within _ i true is, length_marks start [] elements))

  -- a child of an element is later, and among the descendants of each that this one is among
  child_later : (i c : ℕ) → IsChild elements i c → i < c
  child_later i c child = subst (IsParentOf c) child.under (parent_at c child.child child.there)

  child_in : (start i c : ℕ) → IsChild elements i c → IsIn elements start i → IsIn elements start c
  child_in start i c child is = below_marked start [] elements c c i child.child child.there (omega arith) child.under (child_later i c child) is

  -- a descendant of a descendant is one
  in_through : (n start i j : ℕ) → j < n → IsIn elements start i → IsIn elements i j → IsIn elements start j
  in_through zero start i j lt is below = absurd (omega (arith, lt))
  in_through (suc n) start i j lt is below = by (λ k less under. in_through n start i k less is under) (marked_known i [] elements j j e.0 e.1 (omega arith) below)
    where
      e : (x : Elem) × (slice_get elements j ≡ Some x)
      e = element_in i j below

      by : ((k : ℕ) → k < n → IsIn elements i k → IsIn elements start k) → (j ≡ i) ⊎ ((p : ℕ) × (e.0.parent ≡ Some p) × IsIn elements i p) → IsIn elements start j
      by before (inl same) = subst (IsIn elements start) (sym same) is
      by before (inr under) =
          let child : IsChild elements under.0 j = record { child = e.0; there = e.1; under = under.1 } in
          child_in start under.0 j child (before under.0 (omega (arith, lt, child_later under.0 j child)) under.2)

  module _ (ends : List ℕ) (done : IsEnding elements ends 0) where
    -- no descendant ends later
    no_later : (n start j : ℕ) → j < n → IsIn elements start j → get_or ends j 0 ≤ get_or ends start 0
    no_later zero start j lt is = absurd (omega (arith, lt))
    no_later (suc n) start j lt is = by (λ k less under. no_later n start k less under) (marked_known start [] elements j j e.0 e.1 (omega arith) is)
      where
        e : (x : Elem) × (slice_get elements j ≡ Some x)
        e = element_in start j is

        by : ((k : ℕ) → k < n → IsIn elements start k → get_or ends k 0 ≤ get_or ends start 0) → (j ≡ start) ⊎ ((p : ℕ) × (e.0.parent ≡ Some p) × IsIn elements start p) → get_or ends j 0 ≤ get_or ends start 0
        by before (inl same) = subst (λ i. get_or ends j 0 ≤ get_or ends i 0) same (omega arith)
        by before (inr under) =
            let child : IsChild elements under.0 j = record { child = e.0; there = e.1; under = under.1 } in
            omega (arith, done.children under.0 j (omega arith) child, before under.0 (omega (arith, lt, child_later under.0 j child)) under.2)

    -- the last descendant stands right before the end
    last_of : (n start : ℕ) → length elements ≤ start + n → start < length elements → (last : ℕ) × (get_or ends start 0 ≡ last + 1) × IsIn elements start last
    last_of zero start le lt = absurd (omega (arith, le, lt))
    last_of (suc n) start le lt = by (λ c more less. last_of n c more less) (done.least start lt)
      where
        this : IsIn elements start start
        this = first_marked start [] elements start (omega arith) lt

        by : ((c : ℕ) → length elements ≤ c + n → c < length elements → (last : ℕ) × (get_or ends c 0 ≡ last + 1) × IsIn elements c last)
            → (get_or ends start 0 ≡ start + 1) ⊎ ((c : ℕ) × (0 ≤ c) × IsChild elements start c × (get_or ends c 0 ≡ get_or ends start 0)) → (last : ℕ) × (get_or ends start 0 ≡ last + 1) × IsIn elements start last
        by later (inl own) = (start, own, this)
        by later (inr found) =
            let child : IsChild elements start found.0 = found.2 in
            let last = later found.0 (omega (arith, le, child_later start found.0 child)) (slice_get_within elements found.0 child.child child.there) in
            (last.0, sym found.3 ∙ last.1, in_through (suc last.0) start found.0 last.0 (omega arith) (child_in start start found.0 child this) last.2)

    pub ended : (i : ℕ) → i < length elements → EndsAt elements i (get_or ends i 0)
    ended i lt = record {
      last = last.0;
      behind = last.1;
      inside = last.2;
      none_later = λ j is. omega (arith, last.1, no_later (suc j) i j (omega arith) is, done.behind j (slice_get_within elements j (element_in i j is).0 (element_in i j is).1));
    }
      where
        last : (last : ℕ) × (get_or ends i 0 ≡ last + 1) × IsIn elements i last
        last = last_of (length elements) i (omega arith) lt

-- a list written back whole
pub written_back : (xs new : List ℕ) (n : ℕ) → length new ≡ length xs → n ≡ length new → take n (new ++ drop (length new) xs) ≡ new
written_back xs new n same count =
    ap (λ rest. take n (new ++ rest)) (drop_all (length new) xs (omega (arith, same))) ∙ ap (take n) (append-nil new) ∙ take_all n new (omega (arith, count))
