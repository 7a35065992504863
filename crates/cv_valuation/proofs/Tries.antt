-- What is found in a tree, and the values that it gives.
use Rattle.std.proofs.Common.{◌≡◌, ℕ, ◌/◌, ◌%◌, Bool, true, false, cond, List, [], ◌∷◌, ◌++◌, Option, Some, None, refl, sym, ap, ◌∙◌, subst, arith}
use Rattle.std.specs.Prelude.{◌||◌, ◌==◌, Result, Ok, Err, IfOk, map as each}
use Rattle.std.proofs.lemmas.Bool.Decides.{nat_tests}
use Rattle.cv_valuation.specs.declared.key.Key.{Key}
use Rattle.cv_valuation.specs.declared.outcome.Outcome.{Outcome}
use Rattle.cv_valuation.specs.declared.outcome.Outcome.TheVariants.{Invalid}
use Rattle.cv_valuation.specs.declared.trie.Trie.{Trie, Leaf, Fork'}
use Rattle.cv_valuation.specs.Keys.{same_key}
use Rattle.cv_valuation.specs.Tries.{found, found_at, path_of, keys_in, IsFork, FindsTheSame, Sets}
use Rattle.cv_valuation.proofs.KeyOrder.{equal_keys}
use Rattle.cv_valuation.proofs.Outcomes.{kept_of, first_kept}

-- whether the key is among these
abbrev pub has : Key → List Key → Bool
has q [] = false
has q (k ∷ ks) = same_key q k || has q ks

pub has-append : (q : Key) (ks ls : List Key) → has q (ks ++ ls) ≡ (has q ks || has q ls)
has-append q [] ls = refl
has-append q (k ∷ ks) ls = by (same_key q k) (has-append q ks ls)
  where
    by : (b : Bool) → has q (ks ++ ls) ≡ (has q ks || has q ls) → (b || has q (ks ++ ls)) ≡ ((b || has q ks) || has q ls)
    by true rest = refl
    by false rest = rest

-- a key that doesn't stand in a tree isn't found there
pub absent : (t : Trie) (path : ℕ) (q : Key) → has q (keys_in t) ≡ false → found t path q ≡ None
absent Leaf path q none = refl
absent (Fork' p k o l r) path q none =
    by (same_key q k) (path % 2 == 1) (has q (keys_in l)) (has q (keys_in r)) (absent l (path / 2) q) (absent r (path / 2) q)
    (ap (λ b. same_key q k || b) (sym (has-append q (keys_in l) (keys_in r))) ∙ none)
  where
    by : (b odd x y : Bool) → (x ≡ false → found l (path / 2) q ≡ None) → (y ≡ false → found r (path / 2) q ≡ None) → (b || (x || y)) ≡ false
        → cond b (Some o) (cond odd (found r (path / 2) q) (found l (path / 2) q)) ≡ None
    by true odd x y in_left in_right none = cc
    by false true true y in_left in_right none = cc
    by false true false y in_left in_right none = in_right none
    by false false true y in_left in_right none = cc
    by false false false y in_left in_right none = in_left refl

-- what is kept by entries that a function gives
pub first_kept-each : (f : Key → Outcome) (q : Key) (ks : List Key) → (has q ks ≡ false → f q ≡ Invalid) → first_kept q (each (λ k. (k, f k)) ks) ≡ kept_of (f q)
first_kept-each f q [] absent = sym (ap kept_of (absent refl))
first_kept-each f q (k ∷ ks) absent = by (same_key q k) refl (first_kept-each f q ks) absent
  where
    by : (b : Bool) → same_key q k ≡ b
        → ((has q ks ≡ false → f q ≡ Invalid) → first_kept q (each (λ k. (k, f k)) ks) ≡ kept_of (f q))
        → ((b || has q ks) ≡ false → f q ≡ Invalid) → cond b (kept_of (f k)) (first_kept q (each (λ k. (k, f k)) ks)) ≡ kept_of (f q)
    by true same rest absent = ap (λ x. kept_of (f x)) (sym (equal_keys q k same))
    by false other rest absent = rest absent

-- once an outcome is set
pub found-Sets : (old new : Trie) (key : Key) (outcome : Outcome) → Sets old new (path_of key) key outcome → (q : Key) → found new (path_of q) q ≡ cond (same_key q key) (Some outcome) (found old (path_of q) q)
found-Sets old new key outcome sets q = sets (path_of q) q (λ same. ap path_of same)

-- an outcome is set in a tree where nothing is, at a fork of its key, and behind a fork of another
pub Sets-leaf : (new : Trie) (path : ℕ) (key : Key) (outcome : Outcome) → IsFork new key outcome Leaf Leaf → Sets Leaf new path key outcome
Sets-leaf new path key outcome fork way q on = fork way q ∙ ap (cond (same_key q key) (Some outcome)) (by (way % 2 == 1))
  where
    by : (odd : Bool) → cond odd (found Leaf (way / 2) q) (found Leaf (way / 2) q) ≡ None
    by true = refl
    by false = refl

at_fork : (k : Key) (o : Outcome) (l r l' r' : Trie) → FindsTheSame l l' → FindsTheSame r r' → (way : ℕ) (q : Key) → found_at k o l' r' way q ≡ found_at k o l r way q
at_fork k o l r l' r' left right way q = by (same_key q k) (way % 2 == 1)
  where
    by : (b odd : Bool) → cond b (Some o) (cond odd (found r' (way / 2) q) (found l' (way / 2) q)) ≡ cond b (Some o) (cond odd (found r (way / 2) q) (found l (way / 2) q))
    by true odd = refl
    by false true = right (way / 2) q
    by false false = left (way / 2) q

pub Sets-here : (old new : Trie) (path : ℕ) (k key : Key) (o outcome : Outcome) (l r l' r' : Trie) → IsFork old k o l r → IsFork new key outcome l' r'
    → FindsTheSame l l' → FindsTheSame r r' → same_key key k ≡ true → Sets old new path key outcome
Sets-here old new path k key o outcome l r l' r' before after left right same way q on =
    after way q ∙ at_fork key outcome l r l' r' left right way q ∙ by (same_key q key) ∙ ap (cond (same_key q key) (Some outcome)) (sym old_there)
  where
    rest : Option Outcome
    rest = cond (way % 2 == 1) (found r (way / 2) q) (found l (way / 2) q)

    old_there : found old way q ≡ cond (same_key q key) (Some o) rest
    old_there = before way q ∙ ap (λ x. cond (same_key q x) (Some o) rest) (sym (equal_keys key k same))

    by : (b : Bool) → cond b (Some outcome) rest ≡ cond b (Some outcome) (cond b (Some o) rest)
    by true = refl
    by false = refl

-- behind a fork of another key
module _ (old new : Trie) (path : ℕ) (k key : Key) (o outcome : Outcome) (l r l' r' : Trie) (before : IsFork old k o l r) (after : IsFork new k o l' r') (other : same_key key k ≡ false) where
  behind : (way : ℕ) (q : Key)
      → cond (way % 2 == 1) (found r' (way / 2) q) (found l' (way / 2) q) ≡ cond (same_key q key) (Some outcome) (cond (way % 2 == 1) (found r (way / 2) q) (found l (way / 2) q))
      → found new way q ≡ cond (same_key q key) (Some outcome) (found old way q)
  behind way q deeper =
      after way q ∙ ap (cond (same_key q k) (Some o)) deeper ∙ by (same_key q k) (same_key q key) refl refl ∙ ap (cond (same_key q key) (Some outcome)) (sym (before way q))
    where
      rest : Option Outcome
      rest = cond (way % 2 == 1) (found r (way / 2) q) (found l (way / 2) q)

      by : (a b : Bool) → same_key q k ≡ a → same_key q key ≡ b → cond a (Some o) (cond b (Some outcome) rest) ≡ cond b (Some outcome) (cond a (Some o) rest)
      by true true here there = absurd (let e : same_key key k ≡ true = subst (λ x. same_key x k ≡ true) (equal_keys q key there) here in let f : true ≡ false = sym e ∙ other in cc)
      by true false here there = refl
      by false b here there = refl

  pub Sets-right : FindsTheSame l l' → Sets r r' (path / 2) key outcome → (path % 2 == 1) ≡ true → Sets old new path key outcome
  Sets-right left right odd way q on = behind way q (by (way % 2 == 1) (same_key q key) refl refl)
    where
      by : (a b : Bool) → (way % 2 == 1) ≡ a → same_key q key ≡ b → cond a (found r' (way / 2) q) (found l' (way / 2) q) ≡ cond b (Some outcome) (cond a (found r (way / 2) q) (found l (way / 2) q))
      by true b turn same = right (way / 2) q (λ e. ap (λ n. n / 2) (on e)) ∙ ap (λ t. cond t (Some outcome) (found r (way / 2) q)) same
      by false true turn same =
          absurd (let e : way ≡ path = on (equal_keys q key same) in let f : true ≡ false = sym odd ∙ ap (λ n. n % 2 == 1) (sym e) ∙ turn in cc)
      by false false turn same = left (way / 2) q

  pub Sets-left : Sets l l' (path / 2) key outcome → FindsTheSame r r' → (path % 2 == 1) ≡ false → Sets old new path key outcome
  Sets-left left right even way q on = behind way q (by (way % 2 == 1) (same_key q key) refl refl)
    where
      by : (a b : Bool) → (way % 2 == 1) ≡ a → same_key q key ≡ b → cond a (found r' (way / 2) q) (found l' (way / 2) q) ≡ cond b (Some outcome) (cond a (found r (way / 2) q) (found l (way / 2) q))
      by false b turn same = left (way / 2) q (λ e. ap (λ n. n / 2) (on e)) ∙ ap (λ t. cond t (Some outcome) (found l (way / 2) q)) same
      by true true turn same =
          absurd (let e : way ≡ path = on (equal_keys q key same) in let f : false ≡ true = sym even ∙ ap (λ n. n % 2 == 1) (sym e) ∙ turn in cc)
      by true false turn same = right (way / 2) q

-- what follows from a fact at `Ok`
pub in_ok : {A E : Type 0} {P Q : A → Type 0} (r : Result A E) → IfOk r P → ((x : A) → P x → Q x) → IfOk r Q
in_ok (Ok x) holds more = more x holds
in_ok (Err e) holds more = tt

-- a number that isn't 1, by the test
pub not_one : (n : ℕ) → (n ≡ 1 → ⊥) → (n == 1) ≡ false
not_one n apart = grind (arith, nat_tests)
