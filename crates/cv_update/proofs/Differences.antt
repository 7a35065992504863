-- The changes on one element more.
use Rattle.std.proofs.Common.{◌≡◌, ℕ, zero, suc, ◌+◌, ◌<◌, ◌≤◌, Bool, true, false, List, [], ◌∷◌, ◌++◌, drop, length, refl, sym, ap, ◌∙◌, append_assoc, append-nil, arith}
use Rattle.std.specs.Prelude.{bytes_eq, if◌then◌else◌, Option, Some, None}
use Rattle.std.specs.List.{slice_get}
use Rattle.std.proofs.lemmas.Slice.Eq.{bytes_eq-Decides}
use Rattle.cv_valuation.specs.declared.computed.Computed.{Computed}
use Rattle.cv_valuation.specs.declared.key.Key.{Key}
use Rattle.cv_valuation.specs.declared.outcome.Outcome.{Outcome}
use Rattle.cv_valuation.specs.Valuations.{outcome_at, outcome_text}
use Rattle.cv_watch.specs.declared.change.Change.{Change}
use Rattle.cv_update.specs.Changes.{change_of, changes_from, changes_on}
use Rattle.cv_update.specs.Renewed.{put_from}
use Rattle.cv_update.specs.Fresh.{fresh_at}
use Rattle.cv_update.proofs.Putting.{put_behind, put_new, put_old}

-- no change from an outcome to itself
no_change : (element : ℕ) (key : Key) (outcome : Outcome) → change_of element key outcome outcome ≡ []
no_change element key outcome = by _ (bytes_eq (outcome_text outcome) (outcome_text outcome)) ((bytes_eq-Decides (outcome_text outcome) (outcome_text outcome)).1 refl)
  where
    by : {X : Type 0} (x : List X) (b : Bool) → b ≡ true → (if b then [] else x) ≡ []
    by x true is = refl
    by x false is = cc

pub told_same : (element : ℕ) (key : Key) (old new : Outcome) (told : List Change) → old ≡ new → told ≡ told ++ change_of element key old new
told_same element key old new told same =
    sym (append-nil told) ∙ ap (λ l. told ++ l) (sym (ap (λ o. change_of element key o new) same ∙ no_change element key new))

pub no_changes : (keys : List Key) (element : ℕ) (computed : Computed) → changes_on keys element computed computed ≡ []
no_changes [] element computed = refl
no_changes (key ∷ keys) element computed =
    ap (λ l. l ++ changes_on keys element computed computed) (no_change element key (outcome_at computed.values key)) ∙ no_changes keys element computed

pub none_changes : (keys : List Key) (element : ℕ) (all : List Computed) → changes_from keys element all all ≡ []
none_changes keys element [] = refl
none_changes keys element (c ∷ cs) = ap (λ l. l ++ changes_from keys (element + 1) cs cs) (no_changes keys element c) ∙ none_changes keys (element + 1) cs

-- the changes from one element on are those on it, and those from the next on
next_changes : (keys : List Key) (element i n : ℕ) (olds news : List Computed) (old new : Computed) → n ≡ suc i → slice_get olds i ≡ Some old → slice_get news i ≡ Some new
    → changes_from keys element (drop i olds) (drop i news) ≡ changes_on keys element old new ++ changes_from keys (element + 1) (drop n olds) (drop n news)
next_changes keys element i zero olds news old new same at at_new = absurd (omega (arith, same))
next_changes keys element i (suc n) [] news old new same at at_new = cc
next_changes keys element i (suc n) (x ∷ xs) [] old new same at at_new = cc
next_changes keys element zero (suc zero) (x ∷ xs) (y ∷ ys) old new same at at_new =
    let one : x ≡ old = let is : Some x ≡ Some old = at in cc in
    let other : y ≡ new = let is : Some y ≡ Some new = at_new in cc in
    ap (λ c. changes_on keys element c y ++ changes_from keys (element + 1) xs ys) one
    ∙ ap (λ c. changes_on keys element old c ++ changes_from keys (element + 1) xs ys) other
next_changes keys element zero (suc (suc n)) (x ∷ xs) (y ∷ ys) old new same at at_new = absurd (omega (arith, same))
next_changes keys element (suc i) (suc n) (x ∷ xs) (y ∷ ys) old new same at at_new = next_changes keys element i n xs ys old new (omega (arith, same)) at at_new

-- there are none on the elements before the first that is computed anew
pub front_changes : (keys : List Key) (element start n : ℕ) (all : List Computed) (fresh : List (Option Computed)) → n ≡ element + start
    → changes_from keys n (drop start all) (drop start (put_from all start fresh)) ≡ changes_from keys element all (put_from all start fresh)
front_changes keys element zero n all fresh same = ap (λ m. changes_from keys m all (put_from all 0 fresh)) {x = n} {y = element} (omega (arith, same))
front_changes keys element (suc start) n [] fresh same = refl
front_changes keys element (suc start) n (c ∷ cs) fresh same =
    front_changes keys (element + 1) start n cs fresh (omega (arith, same))
    ∙ sym (ap (λ l. l ++ changes_from keys (element + 1) cs (put_from cs start fresh)) (no_changes keys element c))

-- nor on those behind the last
pub end_changes : (keys : List Key) (element start n : ℕ) (all : List Computed) (fresh : List (Option Computed)) → start + length fresh ≤ n
    → changes_from keys element (drop n all) (drop n (put_from all start fresh)) ≡ []
end_changes keys element start n all fresh le = ap (changes_from keys element (drop n all)) (put_behind all start fresh n le) ∙ none_changes keys element (drop n all)

item_at : (cs : List Computed) (i : ℕ) → i < length cs → (c : Computed) × (slice_get cs i ≡ Some c)
item_at [] i lt = absurd (omega (arith, lt))
item_at (c ∷ cs) zero lt = (c, refl)
item_at (c ∷ cs) (suc i) lt = item_at cs i (omega (arith, lt))

-- ---- the loop over what is computed anew

module _ (keys : List Key) (all : List Computed) (start : ℕ) (fresh : List (Option Computed)) where
  -- the changes from this element on
  abbrev pub left_from : ℕ → List Change
  left_from n = changes_from keys n (drop n all) (drop n (put_from all start fresh))

  pub begun_changes : (n : ℕ) (told : List Change) → told ≡ [] → n ≡ start → told ++ left_from n ≡ changes_from keys 0 all (put_from all start fresh)
  begun_changes n told none same =
      ap (λ l. l ++ left_from n) none
      ∙ ap left_from same
      ∙ front_changes keys 0 start start all fresh (omega arith)

  pub told_new : (k i n : ℕ) (old new : Computed) (told more : List Change) → i ≡ start + k → n ≡ i + 1 → slice_get all i ≡ Some old → Some new ≡ fresh_at fresh k → i < length all
      → more ≡ told ++ changes_on keys i old new → more ++ left_from n ≡ told ++ left_from i
  told_new k i n old new told more here next at fresh_is lt is =
      ap (λ l. l ++ left_from n) is
      ∙ append_assoc told (changes_on keys i old new) (left_from n)
      ∙ ap (λ l. told ++ l) (ap (λ m. changes_on keys i old new ++ changes_from keys m (drop n all) (drop n (put_from all start fresh))) next
      ∙ sym (next_changes keys i i n all (put_from all start fresh) old new (omega (arith, next)) at (put_new all start fresh k i new here lt (sym fresh_is))))

  pub told_old : (k i n : ℕ) (told : List Change) → i ≡ start + k → n ≡ i + 1 → i < length all → None ≡ fresh_at fresh k → told ++ left_from n ≡ told ++ left_from i
  told_old k i n told here next lt none =
      let c = item_at all i lt in
      ap (λ l. told ++ l) (
      ap (λ m. changes_from keys m (drop n all) (drop n (put_from all start fresh))) next
      ∙ sym (next_changes keys i i n all (put_from all start fresh) c.0 c.0 (omega (arith, next)) c.1 (put_old all start fresh k i here (sym none) ∙ c.1)
      ∙ ap (λ l. l ++ changes_from keys (i + 1) (drop n all) (drop n (put_from all start fresh))) (no_changes keys i c.0)))

  pub ended_changes : (n : ℕ) (told : List Change) → start + length fresh ≤ n → told ++ left_from n ≡ changes_from keys 0 all (put_from all start fresh) → told ≡ changes_from keys 0 all (put_from all start fresh)
  ended_changes n told le is = sym (append-nil told) ∙ ap (λ l. told ++ l) (sym (end_changes keys n start n all fresh le)) ∙ is
