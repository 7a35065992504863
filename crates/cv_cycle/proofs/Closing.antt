-- One walk that finds the strongly connected components: it keeps what it keeps where a node leaves the path, and where a
-- component is complete.
use Rattle.std.proofs.Common.{◌≡◌, ℕ, suc, ◌<◌, ◌≤◌, List, [], ◌∷◌, ◌⊎◌, inl, inr, sym, ◌∙◌, ap, subst, arith}
use Rattle.std.proofs.lemmas.Bool.{cases_eq, cases_lt}
use Rattle.cv_spec_element.specs.Walks.{Walk, IsCyclic}
use Rattle.cv_cycle.specs.Search.{StandsFrom}
use Rattle.cv_cycle.specs.Search as search
use Rattle.cv_cycle.proofs.Components.{IsTop, Reaches-trans}
use Rattle.cv_cycle.proofs.Components as components

-- a set that edges don't leave holds what its nodes reach
walk_stays : (edge : ℕ → ℕ → Type 0) (Inside : ℕ → Type 0) → ((v w : ℕ) → Inside v → edge v w → Inside w) → (p : ℕ) (via : List ℕ) (q : ℕ) → Inside p → Walk edge p via q → Inside q
walk_stays edge Inside kept p [] q inside walk = kept p q inside walk
walk_stays edge Inside kept p (c ∷ via) q inside walk = walk_stays edge Inside kept c via q (kept p c inside walk.0) walk.1

-- `target v k w`: the k-th edge of v leads to w
module _ (target : ℕ → ℕ → ℕ → Type 0) where
  abbrev edge : ℕ → ℕ → Type 0
  edge = search.edge target

  abbrev IsWalk : (ℕ → ℕ) → ℕ → (ℕ → Type 0) → (ℕ → Type 0) → (ℕ → Type 0) → (ℕ → Type 0) → (ℕ → ℕ) → Type 0
  IsWalk = search.IsWalk target

  module _ (stack : ℕ → ℕ) (size : ℕ) (IsOnPath IsStart IsClosed IsFlagged : ℕ → Type 0) (reads reads' : ℕ → ℕ) (top k : ℕ) (now : IsWalk stack size IsOnPath IsStart IsClosed IsFlagged reads) (at : IsTop target stack size IsOnPath reads reads' top k) where
    top_below : top < size
    top_below = now.path top at.on_path

    asked_before : ((k' w : ℕ) → target (stack top) k' w → k' < k) → (i k' v : ℕ) → i < size → k' < reads' (stack i) → target (stack i) k' v → k' < reads (stack i)
    asked_before = components.asked_before target stack size IsOnPath IsStart IsClosed IsFlagged reads reads' top k now at

    still_finished : (i : ℕ) → i < size → IsOnPath i ⊎ ((k' w : ℕ) → target (stack i) k' w → k' < reads' (stack i))
    still_finished = components.still_finished target stack size IsOnPath IsStart IsClosed IsFlagged reads reads' top k now at

    -- every edge of the top was asked for, and the top is no start: it leaves the path
    pub IsWalk-leave : ((k' w : ℕ) → target (stack top) k' w → k' < k) → (¬ IsStart top) → IsWalk stack size (λ i. IsOnPath i × (i < top)) IsStart IsClosed IsFlagged reads'
    IsWalk-leave all plain = record {
      apart = now.apart;
      unclosed = now.unclosed;
      kept = now.kept;
      sound = now.sound;
      full = now.full;
      loops = λ i k' below asked is. now.loops i k' below (asked_before all i k' (stack i) below asked is) is;
      inside = λ b i k' v start from below asked is. now.inside b i k' v start from below (asked_before all i k' v below asked is) is;
      finished = finished;
      forward = now.forward;
      back = now.back;
      starts = λ b start. (now.starts b start, starts_below b start);
      path = λ i on. now.path i on.0;
      first = now.first;
    }
      where
        starts_below : (b : ℕ) → IsStart b → b < top
        starts_below b start =
            elim (cases_eq b top) [
              | inl same ↦ absurd (plain (subst (λ x. IsStart x) same start))
              | inr apart ↦ let h : b ≤ top = at.highest b (now.starts b start) in omega arith
            ]

        finished : (i : ℕ) → i < size → (IsOnPath i × (i < top)) ⊎ ((k' w : ℕ) → target (stack i) k' w → k' < reads' (stack i))
        finished i below =
            elim (cases_eq i top) [
              | inl same ↦ inr (λ k' w is.
                  let early : k' < k = all k' w (subst (λ x. target (stack x) k' w) same is) in
                  let later : k' < suc k = omega arith in
                  subst (λ x. k' < reads' (stack x)) (sym same) (subst (λ n. k' < n) (sym at.more) later))
              | inr apart ↦ elim (still_finished i below) [
                | inl on ↦ let h : i ≤ top = at.highest i on in let lower : i < top = omega arith in inl (on, lower)
                | inr done ↦ inr done
              ]
            ]

    -- every edge of the top was asked for, and the top is a start: what stands from it is one component
    pub IsWalk-close : ((k' w : ℕ) → target (stack top) k' w → k' < k) → IsStart top → (IsFlagged' : ℕ → Type 0) → ((v : ℕ) → IsFlagged v → IsFlagged' v) → ((i : ℕ) → top ≤ i → i < size → suc top < size → IsFlagged' (stack i)) → ((v : ℕ) → IsFlagged' v → IsFlagged v ⊎ (StandsFrom stack size top v × (suc top < size))) → IsWalk stack top (λ i. IsOnPath i × (i < top)) (λ b. IsStart b × (b < top)) (λ v. IsClosed v ⊎ StandsFrom stack size top v) IsFlagged' reads'
    IsWalk-close all start IsFlagged' wider flags narrower = record {
      apart = λ i j below_i below_j e. now.apart i j (omega (arith, top_below)) (omega (arith, top_below)) e;
      unclosed = unclosed;
      kept = kept;
      sound = sound;
      full = full;
      loops = λ i k' below asked is.
          let old : i < size = omega (arith, top_below) in
          wider (stack i) (now.loops i k' old (asked_before all i k' (stack i) old asked is) is);
      inside = inside;
      finished = finished;
      forward = λ i j lower below. now.forward i j lower (omega (arith, top_below));
      back = λ i j lower below none. now.back i j lower (omega (arith, top_below)) (λ b old over upto. none b (old, (omega arith)) over upto);
      starts = λ b old. (now.starts b old.0, old.1);
      path = λ i on. on.1;
      first = λ some. (now.first (omega (arith, top_below)), some);
    }
      where
        unclosed : (i : ℕ) → i < top → ¬ (IsClosed (stack i) ⊎ StandsFrom stack size top (stack i))
        unclosed i below (inl closed) = now.unclosed i (omega (arith, top_below)) closed
        unclosed i below (inr stands) =
            let e : stands.0 ≡ i = now.apart stands.0 i stands.2 (omega (arith, top_below)) stands.3 in
            absurd (omega (arith, stands.1))

        -- an edge of the component stays in it, or leads to an older one
        leads : (i k' w : ℕ) → top ≤ i → i < size → target (stack i) k' w → IsClosed w ⊎ StandsFrom stack size top w
        leads i k' w from below is =
            elim (cases_eq i top) [
              | inl same ↦
                  let early : k' < k = all k' w (subst (λ x. target (stack x) k' w) same is) in
                  now.inside top i k' w start from below (subst (λ x. k' < reads (stack x)) (sym same) (subst (λ n. k' < n) (sym at.place) early)) is
              | inr apart ↦ elim (now.finished i below) [
                | inl on ↦ absurd (let h : i ≤ top = at.highest i on in omega arith)
                | inr done ↦ now.inside top i k' w start from below (done k' w is) is
              ]
            ]

        kept : (v w : ℕ) → IsClosed v ⊎ StandsFrom stack size top v → edge v w → IsClosed w ⊎ StandsFrom stack size top w
        kept v w (inl closed) step = inl (now.kept v w closed step)
        kept v w (inr stands) step = leads stands.0 step.0 w stands.1 stands.2 (subst (λ x. target x step.0 w) (sym stands.3) step.1)

        no_start_above : (i : ℕ) (b : ℕ) → IsStart b → top < b → b ≤ i → ⊥
        no_start_above i b old over upto = let h : b ≤ top = at.highest b (now.starts b old) in omega arith

        round : (i : ℕ) → top ≤ i → i < size → suc top < size → IsCyclic edge (stack i)
        round i from below two =
            elim (cases_eq i top) [
              | inl same ↦ subst (λ x. IsCyclic edge (stack x)) (sym same)
                  (Reaches-trans edge (stack top) (stack (suc top)) (stack top) (now.forward top (suc top) (omega arith) two) (now.back top (suc top) (omega arith) two (no_start_above (suc top))))
              | inr apart ↦
                  let above : top < i = omega arith in
                  Reaches-trans edge (stack i) (stack top) (stack i) (now.back top i above below (no_start_above i)) (now.forward top i above below)
            ]

        sound : (v : ℕ) → IsFlagged' v → IsCyclic edge v
        sound v flagged =
            elim (narrower v flagged) [
              | inl old ↦ now.sound v old
              | inr new ↦ subst (λ x. IsCyclic edge x) new.0.3 (round new.0.0 new.0.1 new.0.2 new.1)
            ]

        -- a component of one node is on a cycle only by an edge to itself
        alone : size ≤ suc top → IsCyclic edge (stack top) → IsFlagged (stack top)
        alone one ([], step) = looped step.0 step.1
          where
            looped : (k' : ℕ) → target (stack top) k' (stack top) → IsFlagged (stack top)
            looped k' is = now.loops top k' top_below (subst (λ n. k' < n) (sym at.place) (all k' (stack top) is)) is
        alone one (c ∷ via, walk) =
            elim (leads top walk.0.0 c (omega arith) top_below walk.0.1) [
              | inl closed ↦ absurd (now.unclosed top top_below (walk_stays edge IsClosed now.kept c via (stack top) closed walk.1))
              | inr stands ↦
                  let place : stands.0 ≡ top = omega (arith, stands.1, stands.2) in
                  let itself : c ≡ stack top = sym stands.3 ∙ ap stack place in
                  let is : target (stack top) walk.0.0 (stack top) = subst (λ x. target (stack top) walk.0.0 x) itself walk.0.1 in
                  now.loops top walk.0.0 top_below (subst (λ n. walk.0.0 < n) (sym at.place) (all walk.0.0 (stack top) is)) is
            ]

        full : (v : ℕ) → IsClosed v ⊎ StandsFrom stack size top v → IsCyclic edge v → IsFlagged' v
        full v (inl closed) loop = wider v (now.full v closed loop)
        full v (inr stands) loop =
            elim (cases_lt (suc top) size) [
              | inl two ↦ subst (λ x. IsFlagged' x) stands.3 (flags stands.0 stands.1 stands.2 two)
              | inr one ↦
                  let place : stands.0 ≡ top = omega (arith, stands.1, stands.2) in
                  let itself : stack top ≡ v = ap stack (sym place) ∙ stands.3 in
                  subst (λ x. IsFlagged' x) itself (wider (stack top) (alone one (subst (λ x. IsCyclic edge x) (sym itself) loop)))
            ]

        inside : (b i k' v : ℕ) → IsStart b × (b < top) → b ≤ i → i < top → k' < reads' (stack i) → target (stack i) k' v → (IsClosed v ⊎ StandsFrom stack size top v) ⊎ StandsFrom stack top b v
        inside b i k' v old from below asked is =
            let old_i : i < size = omega (arith, top_below) in
            elim (now.inside b i k' v old.0 from old_i (asked_before all i k' v old_i asked is) is) [
              | inl closed ↦ inl (inl closed)
              | inr stands ↦ elim (cases_lt stands.0 top) [
                | inl lower ↦ inr (stands.0, stands.1, lower, stands.3)
                | inr upper ↦ inl (inr (stands.0, upper, stands.2, stands.3))
              ]
            ]

        finished : (i : ℕ) → i < top → (IsOnPath i × (i < top)) ⊎ ((k' w : ℕ) → target (stack i) k' w → k' < reads' (stack i))
        finished i below =
            elim (still_finished i (omega (arith, top_below))) [ inl on ↦ inl (on, below) | inr done ↦ inr done ]
