-- One walk that finds the strongly connected components: what it keeps, and that it keeps it where it goes on.
--
-- The nodes that were met and belong to no complete component stand on a stack, in the order in which they
-- were met. The path leads from the root to the node whose edges are being read; it is given by places on
-- the stack. Some places of the path are starts: from each start to the next reaches one component, as far
-- as it is known.
use Rattle.std.proofs.Common.{◌≡◌, ℕ, suc, ◌<◌, ◌≤◌, List, [], ◌∷◌, ◌++◌, ◌⊎◌, inl, inr, refl, sym, ◌∙◌, ap, subst, arith}
use Rattle.std.proofs.lemmas.Bool.{cases_eq, cases_lt}
use Rattle.cv_spec_element.specs.Walks.{Walk, Reaches, IsCyclic}
use Rattle.cv_cycle.specs.Search.{StandsFrom}
use Rattle.cv_cycle.specs.Search as search
use Rattle.cv_cycle.proofs.Along.{Reaches-push}

walk-append : (edge : ℕ → ℕ → Type 0) (p : ℕ) (via : List ℕ) (c : ℕ) (more : List ℕ) (q : ℕ) → Walk edge p via c → Walk edge c more q → Walk edge p (via ++ c ∷ more) q
walk-append edge p [] c more q first second = (first, second)
walk-append edge p (d ∷ via) c more q first second = (first.0, walk-append edge d via c more q first.1 second)

pub Reaches-trans : (edge : ℕ → ℕ → Type 0) (p c q : ℕ) → Reaches edge p c → Reaches edge c q → Reaches edge p q
Reaches-trans edge p c q first second = (first.0 ++ c ∷ second.0, walk-append edge p first.0 c second.0 q first.1 second.1)

-- `target v k w`: the k-th edge of v leads to w
module _ (target : ℕ → ℕ → ℕ → Type 0) where
  abbrev edge : ℕ → ℕ → Type 0
  edge = search.edge target

  abbrev IsWalk : (ℕ → ℕ) → ℕ → (ℕ → Type 0) → (ℕ → Type 0) → (ℕ → Type 0) → (ℕ → Type 0) → (ℕ → ℕ) → Type 0
  IsWalk = search.IsWalk target

  -- the top of the path, and that one more of its edges was asked for
  pub record IsTop (stack : ℕ → ℕ) (size : ℕ) (IsOnPath : ℕ → Type 0) (reads reads' : ℕ → ℕ) (top k : ℕ) : Type 0 where
    pub on_path : IsOnPath top
    pub highest : (i : ℕ) → IsOnPath i → i ≤ top
    pub place : reads (stack top) ≡ k
    pub more : reads' (stack top) ≡ suc k
    pub others : (v : ℕ) → ¬ (v ≡ stack top) → reads' v ≡ reads v

  module _ (stack : ℕ → ℕ) (size : ℕ) (IsOnPath IsStart IsClosed IsFlagged : ℕ → Type 0) (reads reads' : ℕ → ℕ) (top k : ℕ) (now : IsWalk stack size IsOnPath IsStart IsClosed IsFlagged reads) (at : IsTop stack size IsOnPath reads reads' top k) where
    top_below : top < size
    top_below = now.path top at.on_path

    -- an edge that was asked for now is the new one of the top, or was asked for before
    old_or_new : (i k' : ℕ) → i < size → k' < reads' (stack i) → (k' < reads (stack i)) ⊎ ((i ≡ top) × (k' ≡ k))
    old_or_new i k' below asked =
        elim (cases_eq i top) [
          | inl same ↦
              let asked_top : k' < suc k = subst (λ n. k' < n) at.more (subst (λ j. k' < reads' (stack j)) same asked) in
              elim (cases_eq k' k) [
                | inl last ↦ inr (same, last)
                | inr other ↦
                    let early : k' < k = omega arith in
                    inl (subst (λ j. k' < reads (stack j)) (sym same) (subst (λ n. k' < n) (sym at.place) early))
              ]
          | inr apart ↦ inl (subst (λ n. k' < n) (at.others (stack i) (λ e. apart (now.apart i top below top_below e))) asked)
        ]

    still_asked : (i k' : ℕ) → i < size → k' < reads (stack i) → k' < reads' (stack i)
    still_asked i k' below asked =
        elim (cases_eq i top) [
          | inl same ↦
              let before : k' < k = subst (λ n. k' < n) at.place (subst (λ j. k' < reads (stack j)) same asked) in
              let later : k' < suc k = omega arith in
              subst (λ j. k' < reads' (stack j)) (sym same) (subst (λ n. k' < n) (sym at.more) later)
          | inr apart ↦ subst (λ n. k' < n) (sym (at.others (stack i) (λ e. apart (now.apart i top below top_below e)))) asked
        ]

    pub still_finished : (i : ℕ) → i < size → IsOnPath i ⊎ ((k' w : ℕ) → target (stack i) k' w → k' < reads' (stack i))
    still_finished i below =
        elim (now.finished i below) [
          | inl on ↦ inl on
          | inr all ↦ inr (λ k' w is. still_asked i k' below (all k' w is))
        ]

    -- where all edges of the top were asked for before, the one more was none
    pub asked_before : ((k' w : ℕ) → target (stack top) k' w → k' < k) → (i k' v : ℕ) → i < size → k' < reads' (stack i) → target (stack i) k' v → k' < reads (stack i)
    asked_before all i k' v below asked is =
        elim (old_or_new i k' below asked) [
          | inl old ↦ old
          | inr new ↦ absurd (let h : k' < k = all k' v (subst (λ x. target (stack x) k' v) new.0 is) in omega (arith, new.1))
        ]

    -- what stands above the top reaches it
    back_to_top : (i : ℕ) → top < i → i < size → Reaches edge (stack i) (stack top)
    back_to_top i above below = now.back top i above below (λ b start over upto. let h : b ≤ top = at.highest b (now.starts b start) in omega arith)

    -- every node of the stack reaches what the top has an edge to
    reaches_target : (i w : ℕ) → i < size → edge (stack top) w → Reaches edge (stack i) w
    reaches_target i w below last =
        elim (cases_lt i top) [
          | inl lower ↦ Reaches-push edge (stack i) (stack top) w (now.forward i top lower top_below) last
          | inr upper ↦ elim (cases_eq i top) [
            | inl same ↦ ([], subst (λ j. edge (stack j) w) (sym same) last)
            | inr apart ↦
                let above : top < i = omega arith in
                Reaches-push edge (stack i) (stack top) w (back_to_top i above below) last
          ]
        ]

    -- the edge leads to a node of a complete component
    pub IsWalk-meet_closed : (w : ℕ) → ((w' : ℕ) → target (stack top) k w' → w' ≡ w) → IsClosed w → IsWalk stack size IsOnPath IsStart IsClosed IsFlagged reads'
    IsWalk-meet_closed w only closed = record {
      apart = now.apart;
      unclosed = now.unclosed;
      kept = now.kept;
      sound = now.sound;
      full = now.full;
      loops = λ i k' below asked is. elim (old_or_new i k' below asked) [
        | inl old ↦ now.loops i k' below old is
        | inr new ↦ absurd (now.unclosed i below (subst (λ v. IsClosed v) (sym (only (stack i) (at_top i k' (stack i) new is))) closed))
      ];
      inside = λ b i k' v start from below asked is. elim (old_or_new i k' below asked) [
        | inl old ↦ now.inside b i k' v start from below old is
        | inr new ↦ inl (subst (λ x. IsClosed x) (sym (only v (at_top i k' v new is))) closed)
      ];
      finished = still_finished;
      forward = now.forward;
      back = now.back;
      starts = now.starts;
      path = now.path;
      first = now.first;
    }
      where
        at_top : (i k' v : ℕ) → (i ≡ top) × (k' ≡ k) → target (stack i) k' v → target (stack top) k v
        at_top i k' v new is = subst (λ n. target (stack top) n v) new.1 (subst (λ j. target (stack j) k' v) new.0 is)

    -- the edge leads to a node of the stack: the starts above it are none any more
    pub IsWalk-meet_open : (j : ℕ) → j < size → target (stack top) k (stack j) → ((w' : ℕ) → target (stack top) k w' → w' ≡ stack j) → (IsFlagged' : ℕ → Type 0) → ((v : ℕ) → IsFlagged v → IsFlagged' v) → (j ≡ top → IsFlagged' (stack top)) → ((v : ℕ) → IsFlagged' v → IsFlagged v ⊎ ((v ≡ stack top) × (j ≡ top))) → IsWalk stack size IsOnPath (λ b. IsStart b × (b ≤ j)) IsClosed IsFlagged' reads'
    IsWalk-meet_open j within here only IsFlagged' wider looped narrower = record {
      apart = now.apart;
      unclosed = now.unclosed;
      kept = now.kept;
      sound = λ v flagged. elim (narrower v flagged) [
        | inl old ↦ now.sound v old
        | inr new ↦ subst (λ x. IsCyclic edge x) (sym new.0) ([], (k, subst (λ x. target (stack top) k (stack x)) new.1 here))
      ];
      full = λ v closed loop. wider v (now.full v closed loop);
      loops = λ i k' below asked is. elim (old_or_new i k' below asked) [
        | inl old ↦ wider (stack i) (now.loops i k' below old is)
        | inr new ↦
            let itself : stack i ≡ stack j = only (stack i) (at_top i k' (stack i) new is) in
            let place : j ≡ top = sym (now.apart i j below within itself) ∙ new.0 in
            subst (λ x. IsFlagged' (stack x)) (sym new.0) (looped place)
      ];
      inside = λ b i k' v start from below asked is. elim (old_or_new i k' below asked) [
        | inl old ↦ now.inside b i k' v start.0 from below old is
        | inr new ↦ inr (j, start.1, within, sym (only v (at_top i k' v new is)))
      ];
      finished = still_finished;
      forward = now.forward;
      back = back;
      starts = λ b start. now.starts b start.0;
      path = now.path;
      first = λ some. (now.first some, zero_least j);
    }
      where
        zero_least : (n : ℕ) → 0 ≤ n
        zero_least n = omega arith

        at_top : (i k' v : ℕ) → (i ≡ top) × (k' ≡ k) → target (stack i) k' v → target (stack top) k v
        at_top i k' v new is = subst (λ n. target (stack top) n v) new.1 (subst (λ x. target (stack x) k' v) new.0 is)

        -- the node that was met reaches each node below whose component it now belongs to
        down : (i : ℕ) → i < size → ((b : ℕ) → IsStart b × (b ≤ j) → i < b → b ≤ j → ⊥) → Reaches edge (stack top) (stack i)
        down i below none =
            elim (cases_lt i j) [
              | inl lower ↦ Reaches-trans edge (stack top) (stack j) (stack i) ([], (k, here)) (now.back i j lower within (λ b start over upto. none b (start, upto) over upto))
              | inr upper ↦ elim (cases_eq i j) [
                | inl same ↦ subst (λ x. Reaches edge (stack top) (stack x)) (sym same) ([], (k, here))
                | inr apart ↦ let above : j < i = omega arith in Reaches-trans edge (stack top) (stack j) (stack i) ([], (k, here)) (now.forward j i above below)
              ]
            ]

        up : (i : ℕ) → i < size → (i ≡ top) ⊎ Reaches edge (stack i) (stack top)
        up i below =
            elim (cases_lt i top) [
              | inl lower ↦ inr (now.forward i top lower top_below)
              | inr upper ↦ elim (cases_eq i top) [
                | inl same ↦ inl same
                | inr apart ↦ let above : top < i = omega arith in inr (back_to_top i above below)
              ]
            ]

        round : (i l : ℕ) → i < size → l < size → ((b : ℕ) → IsStart b × (b ≤ j) → i < b → b ≤ j → ⊥) → Reaches edge (stack l) (stack i)
        round i l below_i below_l none =
            elim (up l below_l) [
              | inl same ↦ subst (λ x. Reaches edge (stack x) (stack i)) (sym same) (down i below_i none)
              | inr to_top ↦ Reaches-trans edge (stack l) (stack top) (stack i) to_top (down i below_i none)
            ]

        back : (i l : ℕ) → i < l → l < size → ((b : ℕ) → IsStart b × (b ≤ j) → i < b → b ≤ l → ⊥) → Reaches edge (stack l) (stack i)
        back i l lower below none =
            elim (cases_lt l j) [
              | inl under ↦ now.back i l lower below (λ b start over upto. let bound : b ≤ j = omega arith in none b (start, bound) over upto)
              | inr over ↦ round i l (omega arith) below (λ b start above upto. none b start above (omega arith))
            ]

    -- the edge leads to a node that wasn't met: it stands on the stack, on the path, and is a start
    pub IsWalk-enter : (w : ℕ) → target (stack top) k w → ((w' : ℕ) → target (stack top) k w' → w' ≡ w) → (¬ IsClosed w) → ((i : ℕ) → i < size → ¬ (stack i ≡ w)) → reads' w ≡ 0 → (stack' : ℕ → ℕ) → ((i : ℕ) → i < size → stack' i ≡ stack i) → stack' size ≡ w → IsWalk stack' (suc size) (λ i. IsOnPath i ⊎ (i ≡ size)) (λ b. IsStart b ⊎ (b ≡ size)) IsClosed IsFlagged reads'
    IsWalk-enter w here only unclosed_w new_w unread stack' same last = record {
      apart = apart;
      unclosed = λ i below. elim (old_place i below) [
        | inl old ↦ subst (λ v. ¬ IsClosed v) (sym (same i old)) (now.unclosed i old)
        | inr end ↦ subst (λ v. ¬ IsClosed v) (sym (at_end i end)) unclosed_w
      ];
      kept = now.kept;
      sound = now.sound;
      full = now.full;
      loops = loops;
      inside = inside;
      finished = finished;
      forward = forward;
      back = back;
      starts = λ b start. elim start [ inl old ↦ inl (now.starts b old) | inr end ↦ inr end ];
      path = λ i on. elim on [ inl old ↦ let h : i < size = now.path i old in omega arith | inr end ↦ omega arith ];
      first = λ some. inl (now.first (omega (arith, top_below)));
    }
      where
        old_place : (i : ℕ) → i < suc size → (i < size) ⊎ (i ≡ size)
        old_place i below = elim (cases_lt i size) [ inl old ↦ inl old | inr upper ↦ inr (omega arith) ]

        at_end : (i : ℕ) → i ≡ size → stack' i ≡ w
        at_end i end = ap stack' end ∙ last

        at_top : (i k' v : ℕ) → (i ≡ top) × (k' ≡ k) → target (stack i) k' v → target (stack top) k v
        at_top i k' v new is = subst (λ n. target (stack top) n v) new.1 (subst (λ x. target (stack x) k' v) new.0 is)

        apart : (i j : ℕ) → i < suc size → j < suc size → stack' i ≡ stack' j → i ≡ j
        apart i j below_i below_j e =
            elim (old_place i below_i) [
              | inl old_i ↦ elim (old_place j below_j) [
                | inl old_j ↦ now.apart i j old_i old_j (sym (same i old_i) ∙ e ∙ same j old_j)
                | inr end_j ↦ absurd (new_w i old_i (sym (same i old_i) ∙ e ∙ at_end j end_j))
              ]
              | inr end_i ↦ elim (old_place j below_j) [
                | inl old_j ↦ absurd (new_w j old_j (sym (same j old_j) ∙ sym e ∙ at_end i end_i))
                | inr end_j ↦ end_i ∙ sym end_j
              ]
            ]

        none_read : (i k' : ℕ) → i ≡ size → k' < reads' (stack' i) → ⊥
        none_read i k' end asked = let none : reads' (stack' i) ≡ 0 = ap reads' (at_end i end) ∙ unread in omega arith

        loops : (i k' : ℕ) → i < suc size → k' < reads' (stack' i) → target (stack' i) k' (stack' i) → IsFlagged (stack' i)
        loops i k' below asked is =
            elim (old_place i below) [
              | inr end ↦ absurd (none_read i k' end asked)
              | inl old ↦
                  let asked_old : k' < reads' (stack i) = subst (λ v. k' < reads' v) (same i old) asked in
                  let is_old : target (stack i) k' (stack i) = subst (λ v. target v k' v) (same i old) is in
                  elim (old_or_new i k' old asked_old) [
                    | inl before ↦ subst (λ v. IsFlagged v) (sym (same i old)) (now.loops i k' old before is_old)
                    | inr new ↦ absurd (new_w i old (only (stack i) (at_top i k' (stack i) new is_old)))
                  ]
            ]

        lifted : (b v : ℕ) → StandsFrom stack size b v → StandsFrom stack' (suc size) b v
        lifted b v stands = (stands.0, stands.1, omega (arith, stands.2), same stands.0 stands.2 ∙ stands.3)

        inside : (b i k' v : ℕ) → IsStart b ⊎ (b ≡ size) → b ≤ i → i < suc size → k' < reads' (stack' i) → target (stack' i) k' v → IsClosed v ⊎ StandsFrom stack' (suc size) b v
        inside b i k' v start from below asked is =
            elim (old_place i below) [
              | inr end ↦ absurd (none_read i k' end asked)
              | inl old ↦
                  let asked_old : k' < reads' (stack i) = subst (λ x. k' < reads' x) (same i old) asked in
                  let is_old : target (stack i) k' v = subst (λ x. target x k' v) (same i old) is in
                  elim (old_or_new i k' old asked_old) [
                    | inr new ↦ inr (size, (omega arith), (omega arith), last ∙ sym (only v (at_top i k' v new is_old)))
                    | inl before ↦ elim start [
                      | inr end ↦ absurd (omega arith)
                      | inl old_start ↦ elim (now.inside b i k' v old_start from old before is_old) [ inl closed ↦ inl closed | inr stands ↦ inr (lifted b v stands) ]
                    ]
                  ]
            ]

        finished : (i : ℕ) → i < suc size → (IsOnPath i ⊎ (i ≡ size)) ⊎ ((k' v : ℕ) → target (stack' i) k' v → k' < reads' (stack' i))
        finished i below =
            elim (old_place i below) [
              | inr end ↦ inl (inr end)
              | inl old ↦ elim (still_finished i old) [
                | inl on ↦ inl (inl on)
                | inr all ↦ inr (λ k' v is. subst (λ x. k' < reads' x) (sym (same i old)) (all k' v (subst (λ x. target x k' v) (same i old) is)))
              ]
            ]

        forward : (i j : ℕ) → i < j → j < suc size → Reaches edge (stack' i) (stack' j)
        forward i j lower below =
            let old_i : i < size = omega arith in
            elim (old_place j below) [
              | inl old_j ↦ subst (λ x. Reaches edge x (stack' j)) (sym (same i old_i)) (subst (λ x. Reaches edge (stack i) x) (sym (same j old_j)) (now.forward i j lower old_j))
              | inr end ↦ subst (λ x. Reaches edge x (stack' j)) (sym (same i old_i)) (subst (λ x. Reaches edge (stack i) x) (sym (at_end j end)) (reaches_target i w old_i (k, here)))
            ]

        back : (i j : ℕ) → i < j → j < suc size → ((b : ℕ) → IsStart b ⊎ (b ≡ size) → i < b → b ≤ j → ⊥) → Reaches edge (stack' j) (stack' i)
        back i j lower below none =
            let old_i : i < size = omega arith in
            elim (old_place j below) [
              | inl old_j ↦ subst (λ x. Reaches edge (stack' j) x) (sym (same i old_i)) (subst (λ x. Reaches edge x (stack i)) (sym (same j old_j)) (now.back i j lower old_j (λ b start over upto. none b (inl start) over upto)))
              | inr end ↦ absurd (none size (inr refl) old_i (omega arith))
            ]

  -- a walk from a new root, where the stack is empty
  pub IsWalk-root : (stack : ℕ → ℕ) (IsOnPath IsStart IsClosed IsFlagged : ℕ → Type 0) (reads : ℕ → ℕ) → IsWalk stack 0 IsOnPath IsStart IsClosed IsFlagged reads → (root : ℕ) → (¬ IsClosed root) → reads root ≡ 0 → (stack' : ℕ → ℕ) → stack' 0 ≡ root → IsWalk stack' 1 (λ i. i ≡ 0) (λ b. b ≡ 0) IsClosed IsFlagged reads
  IsWalk-root stack IsOnPath IsStart IsClosed IsFlagged reads now root unclosed unread stack' is = record {
    apart = λ i j below_i below_j e. omega arith;
    unclosed = λ i below. let zero_is : i ≡ 0 = omega arith in subst (λ x. ¬ IsClosed x) (sym (ap stack' zero_is ∙ is)) unclosed;
    kept = now.kept;
    sound = now.sound;
    full = now.full;
    loops = λ i k below asked edge_is. absurd (none_read i k below asked);
    inside = λ b i k w start from below asked edge_is. absurd (none_read i k below asked);
    finished = λ i below. inl (omega arith);
    forward = λ i j lower below. absurd (omega arith);
    back = λ i j lower below none. absurd (omega arith);
    starts = λ b start. start;
    path = λ i on. omega arith;
    first = λ some. refl;
  }
    where
      none_read : (i k : ℕ) → i < 1 → k < reads (stack' i) → ⊥
      none_read i k below asked =
          let zero_is : i ≡ 0 = omega arith in
          let none : reads (stack' i) ≡ 0 = ap reads (ap stack' zero_is ∙ is) ∙ unread in
          omega arith
