-- A list in the order of ranks, and what doesn't depend on the order.
use Rattle.std.specs.Prelude.{ℕ, zero, suc, Bool, true, false, ◌==◌, nat_lt, List, [], ◌∷◌, ◌++◌, map}
use Rattle.std.specs.List.{filter}
use Rattle.std.proofs.Common.{◌≡◌, refl, sym, ◌∙◌, ap, ap₂, arith}
use Rattle.std.proofs.lemmas.Bool.Decides.{nat_tests}

module _ {A : Type 0} (rank : A → ℕ) where
  abbrev pub has_rank : ℕ → A → Bool
  has_rank r x = rank x == r

  -- the items of each rank below some, rank after rank
  abbrev pub in_ranks : ℕ → List A → List A
  in_ranks zero xs = []
  in_ranks (suc r) xs = in_ranks r xs ++ filter (has_rank r) xs

-- the order of what is taken from other items by a function that keeps their ranks
module _ {A B : Type 0} (rank : A → ℕ) (other : B → ℕ) (f : A → B) (same : (x : A) → other (f x) ≡ rank x) where
  filter_map : (r : ℕ) (xs : List A) → map f (filter (has_rank rank r) xs) ≡ filter (has_rank other r) (map f xs)
  filter_map r [] = refl
  filter_map r (x ∷ xs) = go (rank x == r) refl (filter_map r xs)
    where
      go : (b : Bool) → (rank x == r) ≡ b → map f (filter (has_rank rank r) xs) ≡ filter (has_rank other r) (map f xs) → map f (filter (has_rank rank r) (x ∷ xs)) ≡ filter (has_rank other r) (map f (x ∷ xs))
      go true e ih = let e' : (other (f x) == r) ≡ true = ap (λ n. n == r) (same x) ∙ e in rw (e, e') (ap (λ ys. f x ∷ ys) ih)
      go false e ih = let e' : (other (f x) == r) ≡ false = ap (λ n. n == r) (same x) ∙ e in rw (e, e') ih

  map-append : (xs ys : List A) → map f (xs ++ ys) ≡ map f xs ++ map f ys
  map-append [] ys = refl
  map-append (x ∷ xs) ys = ap (λ zs. f x ∷ zs) (map-append xs ys)

  pub in_ranks_map : (n : ℕ) (xs : List A) → map f (in_ranks rank n xs) ≡ in_ranks other n (map f xs)
  in_ranks_map zero xs = refl
  in_ranks_map (suc r) xs = map-append (in_ranks rank r xs) (filter (has_rank rank r) xs) ∙ ap₂ (λ ys zs. ys ++ zs) (in_ranks_map r xs) (filter_map r xs)

-- ---- totals

module _ {A M : Type 0} (rank : A → ℕ) (g : A → M) (e : M) (f : M → M → M) (comm : (a b : M) → f a b ≡ f b a) (assoc : (a b c : M) → f (f a b) c ≡ f a (f b c)) (unit : (a : M) → f a e ≡ a) where
  abbrev pub total : List A → M
  total [] = e
  total (x ∷ xs) = f (g x) (total xs)

  pub total_append : (xs ys : List A) → total (xs ++ ys) ≡ f (total xs) (total ys)
  total_append [] ys = sym (comm e (total ys) ∙ unit (total ys))
  total_append (x ∷ xs) ys = ap (f (g x)) (total_append xs ys) ∙ sym (assoc (g x) (total xs) (total ys))

  abbrev lower : ℕ → List A → List A
  lower n xs = filter (λ x. nat_lt (rank x) n) xs

  lower_none : (xs : List A) → total (lower 0 xs) ≡ e
  lower_none [] = refl
  lower_none (x ∷ xs) = let h : nat_lt (rank x) 0 ≡ false = none (rank x) in rw h (lower_none xs)
    where
      none : (m : ℕ) → nat_lt m 0 ≡ false
      none m = grind (arith, nat_tests)

  swapped : (a b c : M) → f a (f b c) ≡ f b (f a c)
  swapped a b c = sym (assoc a b c) ∙ ap (λ m. f m c) (comm a b) ∙ assoc b a c

  lower_more : (r : ℕ) (xs : List A) → total (lower (suc r) xs) ≡ f (total (lower r xs)) (total (filter (has_rank rank r) xs))
  lower_more r [] = sym (unit e)
  lower_more r (x ∷ xs) = go (nat_lt (rank x) r) (rank x == r) refl refl (lower_more r xs)
    where
      before : (m r : ℕ) → nat_lt m r ≡ true → nat_lt m (suc r) ≡ true
      before m r h = grind (arith, nat_tests)

      other : (m r : ℕ) → nat_lt m r ≡ true → (m == r) ≡ false
      other m r h = grind (arith, nat_tests)

      here : (m r : ℕ) → (m == r) ≡ true → nat_lt m (suc r) ≡ true
      here m r h = grind (arith, nat_tests)

      after : (m r : ℕ) → nat_lt m r ≡ false → (m == r) ≡ false → nat_lt m (suc r) ≡ false
      after m r h k = grind (arith, nat_tests)

      go : (b c : Bool) → nat_lt (rank x) r ≡ b → (rank x == r) ≡ c → total (lower (suc r) xs) ≡ f (total (lower r xs)) (total (filter (has_rank rank r) xs)) →
          total (lower (suc r) (x ∷ xs)) ≡ f (total (lower r (x ∷ xs))) (total (filter (has_rank rank r) (x ∷ xs)))
      go true c h k ih =
          let less = before (rank x) r h in
          let apart = other (rank x) r h in
          rw (less, h, apart) (ap (f (g x)) ih ∙ sym (assoc (g x) _ _))
      go false true h k ih =
          let less = here (rank x) r k in
          rw (less, h, k) (ap (f (g x)) ih ∙ swapped (g x) _ _)
      go false false h k ih =
          let more = after (rank x) r h k in
          rw (more, h, k) ih

  in_ranks_lower : (n : ℕ) (xs : List A) → total (in_ranks rank n xs) ≡ total (lower n xs)
  in_ranks_lower zero xs = sym (lower_none xs)
  in_ranks_lower (suc r) xs = total_append (in_ranks rank r xs) (filter (has_rank rank r) xs) ∙ ap (λ m. f m (total (filter (has_rank rank r) xs))) (in_ranks_lower r xs) ∙ sym (lower_more r xs)

  lower_all : (n : ℕ) → ((x : A) → nat_lt (rank x) n ≡ true) → (xs : List A) → lower n xs ≡ xs
  lower_all n h [] = refl
  lower_all n h (x ∷ xs) = rw (h x) (ap (λ ys. x ∷ ys) (lower_all n h xs))

  -- the total of a list in the order of ranks is that of the list
  pub total_in_ranks : (n : ℕ) → ((x : A) → nat_lt (rank x) n ≡ true) → (xs : List A) → total (in_ranks rank n xs) ≡ total xs
  total_in_ranks n h xs = in_ranks_lower n xs ∙ ap total (lower_all n h xs)
