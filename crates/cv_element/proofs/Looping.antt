-- Loops that ask a test of each element, and lists of flags that grow.
use Rattle.std.proofs.Common.{◌≡◌, ℕ, zero, suc, ◌+◌, ◌<◌, ◌≤◌, ◌↔◌, Bool, true, false, List, [], ◌∷◌, ◌++◌, length, take, get_or, Option, Some, None, ◌⊎◌, inl, inr, refl, sym, ◌∙◌, ap, subst, arith}
use Rattle.std.specs.Prelude.{Contains, slice_get, slice_index_or, ◌||◌}
use Rattle.std.specs.List.{list_any}
use Rattle.std.proofs.Math.Seq.{take-length}
use Rattle.std.proofs.lemmas.Bool.{cases_lt, cases_eq}
use Rattle.std.proofs.lemmas.List.{get_or_past}
use Rattle.std.proofs.lemmas.List.Folds.{list_any_more}
use Rattle.cv_cycle.specs.Marks.{IsMarked}
use Rattle.cv_var.specs.Flat.{FlatPiece, flat_reference}
use Rattle.cv_element.specs.Holding.{some_piece}
use Rattle.cv_element.proofs.Fonts.{or_cases, or_left, or_right}

-- ---- tests of all elements

piece_there : (p : FlatPiece → Bool) (xs : List FlatPiece) (i : ℕ) → i < length xs → some_piece p (slice_get xs i) ≡ p (get_or xs i (flat_reference [] None))
piece_there p [] i below = absurd (omega (arith, below))
piece_there p (x ∷ xs) zero below = refl
piece_there p (x ∷ xs) (suc i) below = piece_there p xs i (omega (arith, below))

module _ {X : Type 0} (p : X → Bool) (xs : List X) (i : ℕ) where
  pub any_next : (d : X) → i < length xs → (has here now : Bool) → has ≡ list_any p (take i xs) → here ≡ p (get_or xs i d) → now ≡ (has || here) → now ≡ list_any p (take (i + 1) xs)
  any_next d below has here now before is made =
      made ∙ ap (λ b. b || here) before ∙ ap (λ b. list_any p (take i xs) || b) is ∙ sym (list_any_more p xs i d below)

  pub any_end : i ≡ length xs → (has : Bool) → has ≡ list_any p (take i xs) → has ≡ list_any p xs
  any_end whole has is = is ∙ ap (λ n. list_any p (take n xs)) whole ∙ ap (list_any p) (take-length xs)

pub piece_next : (p : FlatPiece → Bool) (xs : List FlatPiece) (i : ℕ) → i < length xs → (has here now : Bool) → has ≡ list_any p (take i xs) → here ≡ some_piece p (slice_get xs i) → now ≡ (has || here) → now ≡ list_any p (take (i + 1) xs)
piece_next p xs i below has here now before is made = any_next p xs i (flat_reference [] None) below has here now before (is ∙ piece_there p xs i below) made

-- a test that one of the elements meets
module _ {X : Type 0} (p : X → Bool) where
  pub any_some : (xs : List X) → list_any p xs ≡ true → (x : X) × Contains xs x × (p x ≡ true)
  any_some [] is = let clash : false ≡ true = is in absurd cc
  any_some (x ∷ xs) is =
      elim (or_cases (p x) (list_any p xs) is) [
        | inl here ↦ (x, (0, omega arith, refl), here)
        | inr later ↦ let some = any_some xs later in (some.0, (suc some.1.0, omega (arith, some.1.1), some.1.2), some.2)
      ]

  pub some_any : (xs : List X) (x : X) (i : ℕ) → i < length xs → get_or xs i x ≡ x → p x ≡ true → list_any p xs ≡ true
  some_any [] x i below at is = absurd (omega (arith, below))
  some_any (y ∷ xs) x zero below at is = or_left (p y) (list_any p xs) (ap p at ∙ is)
  some_any (y ∷ xs) x (suc i) below at is = or_right (p y) (list_any p xs) (some_any xs x i (omega (arith, below)) at is)

-- ---- flags

push_old : (xs : List Bool) (b : Bool) (i : ℕ) → i < length xs → get_or (xs ++ b ∷ []) i false ≡ get_or xs i false
push_old [] b i below = absurd (omega (arith, below))
push_old (x ∷ xs) b zero below = refl
push_old (x ∷ xs) b (suc i) below = push_old xs b i (omega (arith, below))

push_new : (xs : List Bool) (b : Bool) → get_or (xs ++ b ∷ []) (length xs) false ≡ b
push_new [] b = refl
push_new (x ∷ xs) b = push_new xs b

pub flags_more : (P : ℕ → Bool → Type 0) (xs xs' : List Bool) (b : Bool) (n : ℕ) → length xs ≡ n → xs' ≡ xs ++ b ∷ [] → ((i : ℕ) → i < n → P i (get_or xs i false)) → P n b → (i : ℕ) → i < n + 1 → P i (get_or xs' i false)
flags_more P xs xs' b n long made before here i below =
    subst (λ l. P i (get_or l i false)) (sym made) (elim (cases_eq i n) [
      | inl same ↦
          let last : get_or (xs ++ b ∷ []) i false ≡ b = ap (λ m. get_or (xs ++ b ∷ []) m false) (same ∙ sym long) ∙ push_new xs b in
          subst (P i) (sym last) (subst (λ m. P m b) (sym same) here)
      | inr different ↦
          let lower : i < n = omega (arith, below, different) in
          subst (P i) (sym (push_old xs b i (omega (arith, lower, long)))) (before i lower)
    ])

pub marked_below : (xs : List Bool) (i : ℕ) → IsMarked xs i → i < length xs
marked_below xs i marked =
    elim (cases_lt i (length xs)) [
      | inl below ↦ below
      | inr past ↦ absurd (let clash : true ≡ false = sym marked ∙ get_or_past xs i false past in cc)
    ]
