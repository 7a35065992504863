-- Where finitely many nodes have edges, and it can be told of each node whether it has an edge to a node of some kind,
-- it can be told whether it reaches one.
use Rattle.std.proofs.Common.{◌≡◌, ℕ, zero, suc, ◌≤◌, zero-le, List, [], ◌∷◌, length, ◌⊎◌, inl, inr, refl, subst, arith}
use Rattle.cv_spec_element.specs.Walks.{Walk, Reaches, IsCyclic}
use Rattle.cv_spec_element.proofs.Members.{In, AllApart, length-le_apart}

module _ {N : Type 0} (edge : N → N → Type 0) (nodes : List N) (begins : (p q : N) → edge p q → In p nodes) (same : (p q : N) → (p ≡ q) ⊎ (¬ (p ≡ q))) (edge_to_some : (P : N → Type 0) → ((q : N) → P q ⊎ (¬ P q)) → (p : N) → ((q : N) × edge p q × P q) ⊎ ((q : N) → edge p q → ¬ P q)) where
  in_or_not : (x : N) (xs : List N) → In x xs ⊎ (¬ In x xs)
  in_or_not x [] = inr (λ among. among)
  in_or_not x (y ∷ ys) =
      elim (same y x) [
        | inl is ↦ inl (inl is)
        | inr other ↦ elim (in_or_not x ys) [
          | inl among ↦ inl (inr among)
          | inr apart ↦ inr (λ among. elim among [ inl is ↦ other is | inr later ↦ apart later ])
        ]
      ]

  -- a walk through at most so many nodes to a node of the kind
  SomeWithin : (N → Type 0) → ℕ → N → Type 0
  SomeWithin P most p = (q : N) × ((via : List N) × Walk edge p via q × (length via ≤ most)) × P q

  one_edge_or_none : (P : N → Type 0) → ((q : N) → P q ⊎ (¬ P q)) → (p : N) → SomeWithin P 0 p ⊎ (¬ SomeWithin P 0 p)
  unfolding SomeWithin
  one_edge_or_none P choose p =
      elim (edge_to_some P choose p) [
        | inl some ↦ inl (some.0, ([], some.1, zero-le), some.2)
        | inr none ↦ inr (no_walk none)
      ]
    where
      no_walk : ((q : N) → edge p q → ¬ P q) → ¬ ((q : N) × ((via : List N) × Walk edge p via q × (length via ≤ 0)) × P q)
      no_walk none (q, ([], walk, short), holds) = none q walk holds
      no_walk none (q, (c ∷ via, walk, short), holds) = absurd (omega arith)

  some_within_or_none : (P : N → Type 0) → ((q : N) → P q ⊎ (¬ P q)) → (most : ℕ) (p : N) → SomeWithin P most p ⊎ (¬ SomeWithin P most p)
  unfolding SomeWithin
  some_within_or_none P choose zero p = one_edge_or_none P choose p
  some_within_or_none P choose (suc most) p =
      elim (one_edge_or_none P choose p) [
        | inl some ↦ inl (some.0, (some.1.0, some.1.1, omega (arith, some.1.2)), some.2)
        | inr no_edge ↦ elim (edge_to_some (SomeWithin P most) (some_within_or_none P choose most) p) [
          | inl some ↦ inl (some.2.0, (some.0 ∷ some.2.1.0, (some.1, some.2.1.1), omega (arith, some.2.1.2)), some.2.2)
          | inr none ↦ inr (no_walk no_edge none)
        ]
      ]
    where
      no_walk : ¬ ((q : N) × ((via : List N) × Walk edge p via q × (length via ≤ 0)) × P q) → ((c : N) → edge p c → ¬ ((q : N) × ((via : List N) × Walk edge c via q × (length via ≤ most)) × P q)) → ¬ ((q : N) × ((via : List N) × Walk edge p via q × (length via ≤ suc most)) × P q)
      no_walk no_edge none (q, ([], walk, short), holds) = no_edge (q, ([], walk, zero-le), holds)
      no_walk no_edge none (q, (c ∷ via, walk, short), holds) = none c walk.0 (q, (via, walk.1, omega arith), holds)

  -- the part of a walk from a node on it
  walk_from : (x c : N) (via : List N) (q : N) → Walk edge c via q → AllApart (c ∷ via) → In x (c ∷ via) → (rest : List N) × Walk edge x rest q × AllApart (x ∷ rest)
  walk_from x c via q walk apart (inl is) = (via, subst (λ y. Walk edge y via q) is walk, subst (λ y. AllApart (y ∷ via)) is apart)
  walk_from x c [] q walk apart (inr among) = absurd among
  walk_from x c (d ∷ via) q walk apart (inr among) = walk_from x d via q walk.1 apart.1 among

  -- a walk without the loops in it
  walk_apart : (p : N) (via : List N) (q : N) → Walk edge p via q → (short : List N) × Walk edge p short q × AllApart (p ∷ short)
  walk_apart p [] q walk = ([], walk, ((λ among. among), tt))
  walk_apart p (c ∷ via) q walk =
      let rest = walk_apart c via q walk.1 in
      elim (in_or_not p (c ∷ rest.0)) [
        | inl among ↦ walk_from p c rest.0 q rest.1 rest.2 among
        | inr apart ↦ (c ∷ rest.0, (walk.0, rest.1), (apart, rest.2))
      ]

  walk_within : (p : N) (via : List N) (q : N) → Walk edge p via q → (x : N) → In x (p ∷ via) → In x nodes
  walk_within p [] q walk x (inl is) = subst (λ y. In y nodes) is (begins p q walk)
  walk_within p [] q walk x (inr among) = absurd among
  walk_within p (c ∷ via) q walk x (inl is) = subst (λ y. In y nodes) is (begins p c walk.0)
  walk_within p (c ∷ via) q walk x (inr among) = walk_within c via q walk.1 x among

  shortened : (p q : N) → Reaches edge p q → (via : List N) × Walk edge p via q × (length via ≤ length nodes)
  shortened p q (via, walk) =
      let short = walk_apart p via q walk in
      let fits : length (p ∷ short.0) ≤ length nodes = length-le_apart (p ∷ short.0) nodes short.2 (walk_within p short.0 q short.1) in
      (short.0, short.1, omega arith)

  -- some node of the kind is reached, or none is
  pub reaches_some_or_none : (P : N → Type 0) → ((q : N) → P q ⊎ (¬ P q)) → (p : N) → ((q : N) × Reaches edge p q × P q) ⊎ ((q : N) → Reaches edge p q → ¬ P q)
  unfolding SomeWithin
  reaches_some_or_none P choose p =
      elim (some_within_or_none P choose (length nodes) p) [
        | inl some ↦ inl (some.0, (some.1.0, some.1.1), some.2)
        | inr none ↦ inr (λ q reaches holds. none (q, shortened p q reaches, holds))
      ]

  -- the node is reached from itself, or it isn't
  pub cyclic_or_not : (p : N) → IsCyclic edge p ⊎ (¬ IsCyclic edge p)
  cyclic_or_not p =
      elim (reaches_some_or_none (λ q. q ≡ p) (λ q. same q p) p) [
        | inl some ↦ inl (subst (λ q. Reaches edge p q) some.2 some.1)
        | inr none ↦ inr (λ loop. none p loop refl)
      ]
