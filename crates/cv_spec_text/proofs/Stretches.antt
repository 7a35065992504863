-- Stretches of lists, and of stretches.
use Rattle.std.proofs.Common.{◌≡◌, ℕ, suc, zero, ◌+◌, ◌-◌, ◌≤◌, List, [], ◌∷◌, length, take, drop, refl, sym, ◌∙◌, ap, length-take, length-drop, arith}
use Rattle.std.proofs.lemmas.List.{drop-drop}
use Rattle.cv_spec_text.specs.Stretch.{stretch}

module _ {X : Type 0} where
  take-take : (m n : ℕ) (xs : List X) → m ≤ n → take m (take n xs) ≡ take m xs
  take-take zero n xs le = refl
  take-take (suc m) zero xs le = absurd (omega arith)
  take-take (suc m) (suc n) [] le = refl
  take-take (suc m) (suc n) (x ∷ xs) le = ap (λ ys. x ∷ ys) (take-take m n xs (omega arith))

  take_drop_take : (s m n : ℕ) (xs : List X) → s + m ≤ n → take m (drop s (take n xs)) ≡ take m (drop s xs)
  take_drop_take zero m n xs le = take-take m n xs (omega arith)
  take_drop_take (suc s) m zero xs le = absurd (omega arith)
  take_drop_take (suc s) m (suc n) [] le = refl
  take_drop_take (suc s) m (suc n) (x ∷ xs) le = take_drop_take s m n xs (omega arith)

  pub length-stretch : (items : List X) (start end : ℕ) → start ≤ end → end ≤ length items → length (stretch items start end) ≡ end - start
  length-stretch items start end ordered within = omega (arith, length-take (end - start) (drop start items), length-drop start items)

  -- a stretch of a stretch is one of the list
  pub stretch-stretch : (items : List X) (from to start end : ℕ) → from ≤ to → to ≤ length items → start ≤ end → end ≤ length (stretch items from to) → stretch (stretch items from to) start end ≡ stretch items (from + start) (from + end)
  stretch-stretch items from to start end ordered within order fits =
      let size = length-stretch items from to ordered within in
      let inside : start + (end - start) ≤ to - from = omega arith in
      let same : end - start ≡ (from + end) - (from + start) = omega arith in
      take_drop_take start (end - start) (to - from) (drop from items) inside
      ∙ ap (take (end - start)) (drop-drop start from items)
      ∙ ap (λ n. take n (drop (from + start) items)) same

  take_all : (n : ℕ) (items : List X) → n ≡ length items → take n items ≡ items
  take_all n [] is = rw is refl
  take_all n (x ∷ items) is = rw is (ap (λ more. x ∷ more) (take_all (length items) items refl))

  pub stretch_whole : (items : List X) (n : ℕ) → n ≡ length items → stretch items 0 n ≡ items
  stretch_whole items n is = take_all (n - 0) items (omega (arith, is))

  take_none : (n : ℕ) → ◌≡◌ {A = List X} (take n []) []
  take_none zero = refl
  take_none (suc n) = refl

  drop_of_take : (k n : ℕ) (xs : List X) → drop k (take n xs) ≡ take (n - k) (drop k xs)
  drop_of_take zero n xs = let same : n ≡ n - 0 = omega arith in ap (λ m. take m xs) same
  drop_of_take (suc k) zero xs = let none : 0 ≡ 0 - suc k = omega arith in ap (λ m. take m (drop (suc k) xs)) none
  drop_of_take (suc k) (suc n) [] = sym (take_none (suc n - suc k))
  drop_of_take (suc k) (suc n) (x ∷ xs) = let same : n - k ≡ suc n - suc k = omega arith in drop_of_take k n xs ∙ ap (λ m. take m (drop k xs)) same

  -- what comes behind the front of a stretch is a stretch
  pub drop_of_stretch : (items : List X) (from to k : ℕ) → drop k (stretch items from to) ≡ stretch items (from + k) to
  drop_of_stretch items from to k =
      let same : to - from - k ≡ to - (from + k) = omega arith in
      drop_of_take k (to - from) (drop from items)
      ∙ ap (take (to - from - k)) (drop-drop k from items)
      ∙ ap (λ n. take n (drop (from + k) items)) same

  -- the tokens from a place on
  pub stretch_on : (items : List X) (from to : ℕ) → to ≡ length items → stretch items from to ≡ drop from items
  stretch_on items from to is = take_all (to - from) (drop from items) (omega (arith, is, length-drop from items))
