-- Totals of fractions over lists.
use Rattle.std.specs.Prelude.{Bool, true, false, List, [], ◌∷◌, ◌++◌, Option, Some, None, if◌then◌else◌}
use Rattle.std.specs.List.{count_by}
use Rattle.std.proofs.Common.{◌≡◌, ◌+◌, refl, sym, ◌∙◌, ap, ap₂, arith}
use Rattle.std.proofs.lemmas.List.Sums.{sum_by-cons}
use Rattle.cv_spec_ratio.specs.Ratio.{Ratio, add, zero_ratio}
use Rattle.cv_spec_ratio.proofs.Laws.{add_comm, add_assoc, add_zero}
use Rattle.cv_calc.specs.Value.{both, sum_of}

pub zero_add : (r : Ratio) → add zero_ratio r ≡ r
zero_add r = add_comm zero_ratio r ∙ add_zero r

-- two sums, crossed
crossed_sums : (a b c d : Ratio) → add (add a b) (add c d) ≡ add (add a c) (add b d)
crossed_sums a b c d =
    add_assoc a b (add c d) ∙ ap (add a) (sym (add_assoc b c d) ∙ ap (λ r. add r d) (add_comm b c) ∙ add_assoc c b d) ∙ sym (add_assoc a c (add b d))

abbrev pub total : {A : Type 0} → (A → Ratio) → List A → Ratio
total f [] = zero_ratio
total f (a ∷ xs) = add (f a) (total f xs)

pub total_zero : {A : Type 0} (f : A → Ratio) (xs : List A) → ((a : A) → f a ≡ zero_ratio) → total f xs ≡ zero_ratio
total_zero f [] e = refl
total_zero f (a ∷ xs) e = ap₂ add (e a) (total_zero f xs e) ∙ add_zero zero_ratio

total_added : {A : Type 0} (f g : A → Ratio) (xs : List A) → add (total f xs) (total g xs) ≡ total (λ a. add (f a) (g a)) xs
total_added f g [] = add_zero zero_ratio
total_added f g (a ∷ xs) = crossed_sums (f a) (total f xs) (g a) (total g xs) ∙ ap (add (add (f a) (g a))) (total_added f g xs)

-- totals of totals, by rows and by columns
pub totals_swapped : {A B : Type 0} (f : A → B → Ratio) (xs : List A) (bs : List B) → total (λ a. total (f a) bs) xs ≡ total (λ b. total (λ a. f a b) xs) bs
totals_swapped f [] bs = sym (total_zero (λ b. zero_ratio) bs (λ b. refl))
totals_swapped f (a ∷ xs) bs = ap (add (total (f a) bs)) (totals_swapped f xs bs) ∙ total_added (f a) (λ b. total (λ a. f a b) xs) bs

-- a number that counts once
pub counted_none : {A : Type 0} (p : A → Bool) (r : Ratio) (xs : List A) → count_by p xs ≡ 0 → total (λ a. if p a then r else zero_ratio) xs ≡ zero_ratio
counted_none p r [] e = refl
counted_none p r (a ∷ xs) e = go (p a) (sym (sum_by-cons (λ x. if p x then 1 else 0) a xs) ∙ e) (counted_none p r xs)
  where
    go : (b : Bool) → (if b then 1 else 0) + count_by p xs ≡ 0 → (count_by p xs ≡ 0 → total (λ a. if p a then r else zero_ratio) xs ≡ zero_ratio) → add (if b then r else zero_ratio) (total (λ a. if p a then r else zero_ratio) xs) ≡ zero_ratio
    go true e ih = absurd (omega (arith, e))
    go false e ih = zero_add (total (λ a. if p a then r else zero_ratio) xs) ∙ ih (omega (arith, e))

pub counted_once : {A : Type 0} (p : A → Bool) (r : Ratio) (xs : List A) → count_by p xs ≡ 1 → total (λ a. if p a then r else zero_ratio) xs ≡ r
counted_once p r [] e = cc
counted_once p r (a ∷ xs) e = go (p a) (sym (sum_by-cons (λ x. if p x then 1 else 0) a xs) ∙ e) (counted_once p r xs)
  where
    go : (b : Bool) → (if b then 1 else 0) + count_by p xs ≡ 1 → (count_by p xs ≡ 1 → total (λ a. if p a then r else zero_ratio) xs ≡ r) → add (if b then r else zero_ratio) (total (λ a. if p a then r else zero_ratio) xs) ≡ r
    go true e ih = ap (add r) (counted_none p r xs (omega (arith, e))) ∙ add_zero r
    go false e ih = zero_add (total (λ a. if p a then r else zero_ratio) xs) ∙ ih (omega (arith, e))

-- ---- sums of values that are there

pub sum_append : (os ps : List (Option Ratio)) (x y : Ratio) → sum_of os ≡ Some x → sum_of ps ≡ Some y → sum_of (os ++ ps) ≡ Some (add x y)
sum_append [] ps x y e f = let same : zero_ratio ≡ x = cc in f ∙ ap Some (sym (zero_add y) ∙ ap (λ z. add z y) same)
sum_append (o ∷ os) ps x y e f = go o (sum_of os) refl e (sum_append os ps)
  where
    go : (q r : Option Ratio) → sum_of os ≡ r → both add q r ≡ Some x → ((x y : Ratio) → sum_of os ≡ Some x → sum_of ps ≡ Some y → sum_of (os ++ ps) ≡ Some (add x y)) → both add q (sum_of (os ++ ps)) ≡ Some (add x y)
    go (Some a) (Some b) k e ih =
        let same : add a b ≡ x = cc in
        ap (both add (Some a)) (ih b y k f) ∙ ap Some (sym (add_assoc a b y) ∙ ap (λ z. add z y) same)
    go (Some a) None k e ih = cc
    go None r k e ih = cc
