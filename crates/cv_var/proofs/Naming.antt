-- The names of a list are those that it refers to, and its flat pieces name them in the same order.
use Rattle.std.proofs.Common.{◌≡◌, ℕ, ◌+◌, ◌≤◌, List, [], ◌∷◌, ◌++◌, length, drop, Some, None, refl, sym, ◌∙◌, ap, subst, inl, inr, arith, suc, zero}
use Rattle.std.specs.Prelude.{true, ◌⊎◌, ◌↔◌, fold, bytes_eq, Contains, slice_get}
use Rattle.std.specs.List.{list_any}
use Rattle.std.proofs.lemmas.List.Elements.{Contains-append_left, Contains-append_right, Contains-append_cases, Contains-push_cases}
use Rattle.std.proofs.Math.Seq.{drop-nil}
use Rattle.std.proofs.lemmas.Slice.Eq.{bytes_eq-Decides}
use Rattle.std.proofs.lemmas.Map.Views.{Contains-from_any}
use Rattle.cv_spec_text.specs.declared.token.Token.{Token}
use Rattle.cv_spec_element.specs.Pieces.{Pieces, finish, token, reference, reference_or, RefersTo}
use Rattle.cv_var.specs.Flat.{FlatPiece, flat_token, flat_reference, flattened}
use Rattle.cv_var.specs.Names.{names_of, names_in, with_name, firsts}
use Rattle.cv_var.proofs.Cases.{if_case}

names_in-append : (front back : List FlatPiece) → names_in (front ++ back) ≡ names_in front ++ names_in back
names_in-append [] back = refl
names_in-append (flat_token t ∷ front) back = names_in-append front back
names_in-append (flat_reference n fallback ∷ front) back = ap (λ ns. n ∷ ns) (names_in-append front back)

pub names_in-flattened : (pieces : Pieces (List ℕ) Token) → names_in (flattened pieces) ≡ names_of pieces
names_in-flattened finish = refl
names_in-flattened (token t rest) = names_in-flattened rest
names_in-flattened (reference n rest) = ap (λ ns. n ∷ ns) (names_in-flattened rest)
names_in-flattened (reference_or n fallback rest) =
    ap (λ ns. n ∷ ns) (names_in-append (flattened fallback) (flattened rest) ∙ ap (λ ns. ns ++ names_in (flattened rest)) (names_in-flattened fallback) ∙ ap (λ ns. names_of fallback ++ ns) (names_in-flattened rest))

not_in_none : {X : Type 0} (q : X) → Contains [] q → ⊥
not_in_none q (k, within, is) = omega arith

first_or_later : (n q : List ℕ) (rest : List (List ℕ)) → Contains (n ∷ rest) q → (n ≡ q) ⊎ Contains rest q
first_or_later n q rest h = elim (Contains-append_cases (n ∷ []) rest q h) [ inl first ↦ elim (Contains-push_cases [] n q first) [ inl none ↦ absurd (not_in_none q none) | inr same ↦ inl same ] | inr later ↦ inr later ]

first_is : (n q : List ℕ) (rest : List (List ℕ)) → n ≡ q → Contains (n ∷ rest) q
first_is n q rest same = Contains-append_left (n ∷ []) rest q (0, omega arith, same)

later_is : (n q : List ℕ) (rest : List (List ℕ)) → Contains rest q → Contains (n ∷ rest) q
later_is n q rest h = Contains-append_right (n ∷ []) rest q h

pub refers : (pieces : Pieces (List ℕ) Token) (q : List ℕ) → Contains (names_of pieces) q → RefersTo pieces q
refers finish q h = absurd (not_in_none q h)
refers (token t rest) q h = refers rest q h
refers (reference n rest) q h = elim (first_or_later n q (names_of rest) h) [ inl same ↦ inl same | inr later ↦ inr (refers rest q later) ]
refers (reference_or n fallback rest) q h =
    elim (first_or_later n q (names_of fallback ++ names_of rest) h) [
      | inl same ↦ inl same
      | inr later ↦ inr (elim (Contains-append_cases (names_of fallback) (names_of rest) q later) [ inl inner ↦ inl (refers fallback q inner) | inr behind ↦ inr (refers rest q behind) ])
    ]

pub is_named : (pieces : Pieces (List ℕ) Token) (q : List ℕ) → RefersTo pieces q → Contains (names_of pieces) q
is_named finish q h = absurd h
is_named (token t rest) q h = is_named rest q h
is_named (reference n rest) q (inl same) = first_is n q (names_of rest) same
is_named (reference n rest) q (inr later) = later_is n q (names_of rest) (is_named rest q later)
is_named (reference_or n fallback rest) q (inl same) = first_is n q (names_of fallback ++ names_of rest) same
is_named (reference_or n fallback rest) q (inr (inl inner)) =
    later_is n q (names_of fallback ++ names_of rest) (Contains-append_left (names_of fallback) (names_of rest) q (is_named fallback q inner))
is_named (reference_or n fallback rest) q (inr (inr behind)) =
    later_is n q (names_of fallback ++ names_of rest) (Contains-append_right (names_of fallback) (names_of rest) q (is_named rest q behind))

-- what is in the names with one more
with_name-cases : (names : List (List ℕ)) (n q : List ℕ) → Contains (with_name names n) q → Contains names q ⊎ (n ≡ q)
with_name-cases names n q = if_case (λ ns. Contains ns q → Contains names q ⊎ (n ≡ q)) (list_any (bytes_eq n) names) (λ _ h. inl h) (λ _ h. Contains-push_cases names n q h)

same_texts : (x y : List ℕ) → bytes_eq x y ≡ true → x ≡ y
same_texts x y is = (bytes_eq-Decides x y).0 is

with_name-kept : (names : List (List ℕ)) (n q : List ℕ) → Contains names q → Contains (with_name names n) q
with_name-kept names n q h = if_case (λ ns. Contains ns q) (list_any (bytes_eq n) names) (λ _. h) (λ _. Contains-append_left names (n ∷ []) q h)

with_name-has : (names : List (List ℕ)) (n q : List ℕ) → n ≡ q → Contains (with_name names n) q
with_name-has names n q same =
    if_case (λ ns. Contains ns q) (list_any (bytes_eq n) names) (λ any. subst (Contains names) same (Contains-from_any same_texts n names any)) (λ _. Contains-append_right names (n ∷ []) q (first_is n q [] same))

firsts_in : (seen names : List (List ℕ)) (q : List ℕ) → Contains (fold with_name seen names) q → Contains seen q ⊎ Contains names q
firsts_in seen [] q h = inl h
firsts_in seen (n ∷ rest) q h =
    elim (firsts_in (with_name seen n) rest q h) [
      | inl now ↦ elim (with_name-cases seen n q now) [ inl before ↦ inl before | inr same ↦ inr (first_is n q rest same) ]
      | inr later ↦ inr (later_is n q rest later)
    ]

firsts_kept : (seen names : List (List ℕ)) (q : List ℕ) → Contains seen q → Contains (fold with_name seen names) q
firsts_kept seen [] q h = h
firsts_kept seen (n ∷ rest) q h = firsts_kept (with_name seen n) rest q (with_name-kept seen n q h)

firsts_have : (seen names : List (List ℕ)) (q : List ℕ) → Contains names q → Contains (fold with_name seen names) q
firsts_have seen [] q h = absurd (not_in_none q h)
firsts_have seen (n ∷ rest) q h =
    elim (first_or_later n q rest h) [
      | inl same ↦ firsts_kept (with_name seen n) rest q (with_name-has seen n q same)
      | inr later ↦ firsts_have (with_name seen n) rest q later
    ]

-- the names, each once, are those that the list refers to
pub firsts-refer : (pieces : Pieces (List ℕ) Token) (q : List ℕ) → Contains (firsts (names_of pieces)) q → RefersTo pieces q
firsts-refer pieces q h = elim (firsts_in [] (names_of pieces) q h) [ inl none ↦ absurd (not_in_none q none) | inr some ↦ refers pieces q some ]

pub firsts-are_named : (pieces : Pieces (List ℕ) Token) (q : List ℕ) → RefersTo pieces q → Contains (firsts (names_of pieces)) q
firsts-are_named pieces q h = firsts_have [] (names_of pieces) q (is_named pieces q h)

-- the items from a number on
pub drop-at : {X : Type 0} (xs : List X) (n : ℕ) (x : X) → slice_get xs n ≡ Some x → drop n xs ≡ x ∷ drop (n + 1) xs
drop-at [] n x is = absurd cc
drop-at (y ∷ ys) zero x is = let same : y ≡ x = cc in ap (λ z. z ∷ ys) same
drop-at (y ∷ ys) (suc n) x is = let next : suc (n + 1) ≡ suc n + 1 = omega arith in drop-at ys n x is ∙ ap (λ k. x ∷ drop k (y ∷ ys)) next

pub none_past : {X : Type 0} (xs : List X) (n : ℕ) → slice_get xs n ≡ None → length xs ≤ n
none_past [] n none = omega arith
none_past (x ∷ xs) zero none = absurd cc
none_past (x ∷ xs) (suc n) none = let past = none_past xs n none in omega arith

-- one more piece is read
pub names_read : (pieces : List FlatPiece) (n : ℕ) (piece : FlatPiece) (seen : List (List ℕ)) → slice_get pieces n ≡ Some piece → fold with_name seen (names_in (drop n pieces)) ≡ fold with_name (fold with_name seen (names_in (piece ∷ []))) (names_in (drop (n + 1) pieces))
names_read pieces n (flat_token t) seen is = ap (λ ps. fold with_name seen (names_in ps)) (drop-at pieces n (flat_token t) is)
names_read pieces n (flat_reference name fallback) seen is = ap (λ ps. fold with_name seen (names_in ps)) (drop-at pieces n (flat_reference name fallback) is)

pub drop_all : {X : Type 0} (xs : List X) (n : ℕ) → length xs ≤ n → drop n xs ≡ []
drop_all [] n past = drop-nil n
drop_all (x ∷ xs) zero past = absurd (omega arith)
drop_all (x ∷ xs) (suc n) past = drop_all xs n (omega arith)

-- names that are the first places refer, and those that are referred to are among them
pub names_refer : (pieces : Pieces (List ℕ) Token) (names : List (List ℕ)) → names ≡ firsts (names_of pieces) → (q : List ℕ) → Contains names q ↔ RefersTo pieces q
names_refer pieces names is q =
    (λ h. firsts-refer pieces q (subst (λ ns. Contains ns q) is h), λ h. subst (λ ns. Contains ns q) (sym is) (firsts-are_named pieces q h))
