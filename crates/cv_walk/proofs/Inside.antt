-- Which elements are marked: the first, and each whose parent is.
use Rattle.std.proofs.Common.{◌≡◌, ◌⊎◌, inl, inr, ℕ, zero, suc, ◌+◌, ◌<◌, ◌==◌, ◌||◌, Bool, true, false, List, [], ◌∷◌, ◌++◌, length, length-append, refl, sym, ap, ◌∙◌, arith}
use Rattle.std.specs.Prelude.{Option, Some, None}
use Rattle.std.specs.List.{slice_get}
use Rattle.std.proofs.lemmas.Bool.{eq-eqb, eqb-true}
use Rattle.std.proofs.lemmas.Option.{slice_get_within}
use Rattle.cv_doc.specs.declared.elements.Elem.{Elem}
use Rattle.cv_walk.specs.Subtrees.{is_marked, is_stepped, mark_at, marks}

-- ---- lists

pub get_front : {X : Type 0} (xs ys : List X) (i : ℕ) → i < length xs → slice_get (xs ++ ys) i ≡ slice_get xs i
get_front [] ys i lt = absurd (omega (arith, lt))
get_front (x ∷ xs) ys zero lt = refl
get_front (x ∷ xs) ys (suc i) lt = get_front xs ys i (omega (arith, lt))

pub get_last : {X : Type 0} (xs : List X) (x : X) (ys : List X) → slice_get (xs ++ x ∷ ys) (length xs) ≡ Some x
get_last [] x ys = refl
get_last (z ∷ xs) x ys = get_last xs x ys

pub some_true : (xs : List Bool) (i : ℕ) → mark_at (slice_get xs i) ≡ true → slice_get xs i ≡ Some true
some_true [] i is = cc
some_true (x ∷ xs) zero is = ap Some is
some_true (x ∷ xs) (suc i) is = some_true xs i is

one_of : (a b : Bool) → (a || b) ≡ true → (a ≡ true) ⊎ (b ≡ true)
one_of true b is = inl refl
one_of false b is = inr is

first_of : (a b : Bool) → a ≡ true → (a || b) ≡ true
first_of true b is = refl
first_of false b is = cc

second_of : (a b : Bool) → b ≡ true → (a || b) ≡ true
second_of true b is = refl
second_of false b is = is

-- ---- marks

pub length_marks : (start : ℕ) (known : List Bool) (es : List Elem) → length (marks start known es) ≡ length known + length es
length_marks start known [] = omega arith
length_marks start known (e ∷ es) = omega (arith, length_marks start (known ++ is_stepped start known e.parent ∷ []) es, length-append known (is_stepped start known e.parent ∷ []))

-- what is known stays
pub marks_front : (start : ℕ) (known : List Bool) (es : List Elem) (j : ℕ) → j < length known → slice_get (marks start known es) j ≡ slice_get known j
marks_front start known [] j lt = refl
marks_front start known (e ∷ es) j lt =
    marks_front start (known ++ is_stepped start known e.parent ∷ []) es j (omega (arith, lt, length-append known (is_stepped start known e.parent ∷ [])))
    ∙ get_front known (is_stepped start known e.parent ∷ []) j lt

pub marks_here : (start : ℕ) (known : List Bool) (e : Elem) (es : List Elem) → slice_get (marks start known (e ∷ es)) (length known) ≡ Some (is_stepped start known e.parent)
marks_here start known e es =
    marks_front start (known ++ is_stepped start known e.parent ∷ []) es (length known) (omega (arith, length-append known (is_stepped start known e.parent ∷ [])))
    ∙ get_last known (is_stepped start known e.parent) []

-- an element that is marked is the first, or its parent is marked
pub marked_known : (start : ℕ) (known : List Bool) (es : List Elem) (k i : ℕ) (e : Elem) → slice_get es k ≡ Some e → i ≡ length known + k → slice_get (marks start known es) i ≡ Some true
    → (i ≡ start) ⊎ ((p : ℕ) × (e.parent ≡ Some p) × (slice_get (marks start known es) p ≡ Some true))
marked_known start known [] k i e at same is = cc
marked_known start known (x ∷ es) zero i e at same is = by (one_of (length known == start) (is_marked known x.parent) stepped)
  where
    one : x ≡ e
    one = let both : Some x ≡ Some e = at in cc

    here : i ≡ length known
    here = omega (arith, same)

    stepped : is_stepped start known x.parent ≡ true
    stepped = let both : Some (is_stepped start known x.parent) ≡ Some true = sym (marks_here start known x es) ∙ ap (slice_get (marks start known (x ∷ es))) (sym here) ∙ is in cc

    below : (parent : Option ℕ) → is_marked known parent ≡ true → (p : ℕ) × (parent ≡ Some p) × (slice_get (marks start known (x ∷ es)) p ≡ Some true)
    below None is = cc
    below (Some p) is =
        let known_true : slice_get known p ≡ Some true = some_true known p is in
        (p, refl, marks_front start known (x ∷ es) p (slice_get_within known p true known_true) ∙ known_true)

    by : ((length known == start) ≡ true) ⊎ (is_marked known x.parent ≡ true) → (i ≡ start) ⊎ ((p : ℕ) × (e.parent ≡ Some p) × (slice_get (marks start known (x ∷ es)) p ≡ Some true))
    by (inl first) = inl (here ∙ eqb-true (length known) start first)
    by (inr under) = let found = below x.parent under in inr (found.0, ap (λ (y : Elem). y.parent) (sym one) ∙ found.1, found.2)
marked_known start known (x ∷ es) (suc k) i e at same is =
    marked_known start (known ++ is_stepped start known x.parent ∷ []) es k i e at (omega (arith, same, length-append known (is_stepped start known x.parent ∷ []))) is

-- the first element is marked
pub first_marked : (start : ℕ) (known : List Bool) (es : List Elem) (k : ℕ) → start ≡ length known + k → k < length es → slice_get (marks start known es) start ≡ Some true
first_marked start known [] k same lt = absurd (omega (arith, lt))
first_marked start known (x ∷ es) zero same lt =
    let here : length known ≡ start = omega (arith, same) in
    ap (slice_get (marks start known (x ∷ es))) (sym here) ∙ marks_here start known x es
    ∙ ap Some (first_of (length known == start) (is_marked known x.parent) (eq-eqb (length known) start here))
first_marked start known (x ∷ es) (suc k) same lt =
    first_marked start (known ++ is_stepped start known x.parent ∷ []) es k (omega (arith, same, length-append known (is_stepped start known x.parent ∷ []))) (omega (arith, lt))

-- an element is marked whose parent is
pub below_marked : (start : ℕ) (known : List Bool) (es : List Elem) (k i p : ℕ) (e : Elem) → slice_get es k ≡ Some e → i ≡ length known + k → e.parent ≡ Some p → p < i → slice_get (marks start known es) p ≡ Some true
    → slice_get (marks start known es) i ≡ Some true
below_marked start known [] k i p e at same under lt is = cc
below_marked start known (x ∷ es) zero i p e at same under lt is =
    ap (slice_get (marks start known (x ∷ es))) here ∙ marks_here start known x es
    ∙ ap Some (second_of (length known == start) (is_marked known x.parent) (ap (is_marked known) (ap (λ (y : Elem). y.parent) one ∙ under) ∙ ap mark_at (sym (marks_front start known (x ∷ es) p (omega (arith, lt, here))) ∙ is)))
  where
    one : x ≡ e
    one = let both : Some x ≡ Some e = at in cc

    here : i ≡ length known
    here = omega (arith, same)
below_marked start known (x ∷ es) (suc k) i p e at same under lt is =
    below_marked start (known ++ is_stepped start known x.parent ∷ []) es k i p e at (omega (arith, same, length-append known (is_stepped start known x.parent ∷ []))) under lt is
