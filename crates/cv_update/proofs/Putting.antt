-- What is computed of all elements, some anew.
use Rattle.std.proofs.Common.{◌≡◌, ℕ, zero, suc, ◌+◌, ◌<◌, ◌≤◌, List, [], ◌∷◌, ◌++◌, ◌-◌, append-nil, append_assoc, drop, length, length-append, refl, sym, ap, ◌∙◌, arith}
use Rattle.std.specs.Prelude.{Option, Some, None, option_map, slice_set}
use Rattle.std.specs.List.{slice_get}
use Rattle.std.proofs.lemmas.Option.{slice_get-map}
use Rattle.cv_valuation.specs.declared.computed.Computed.{Computed}
use Rattle.cv_valuation.specs.Valuations.{Values}
use Rattle.cv_tree.specs.Tree.{values_in}
use Rattle.cv_update.specs.Fresh.{fresh_at, nothing, put_one}
use Rattle.cv_update.specs.Renewed.{put_from}

pub put_none : (cs : List Computed) (start : ℕ) → put_from cs start [] ≡ cs
put_none [] start = refl
put_none (c ∷ cs) zero = refl
put_none (c ∷ cs) (suc start) = ap (λ rest. c ∷ rest) (put_none cs start)

pub length_put : (cs : List Computed) (start : ℕ) (fresh : List (Option Computed)) → length (put_from cs start fresh) ≡ length cs
length_put [] start fresh = refl
length_put (c ∷ cs) (suc start) fresh = ap suc (length_put cs start fresh)
length_put (c ∷ cs) zero [] = refl
length_put (c ∷ cs) zero (None ∷ fresh) = ap suc (length_put cs zero fresh)
length_put (c ∷ cs) zero (Some x ∷ fresh) = ap suc (length_put cs zero fresh)

-- ---- one place

pub put_before : (cs : List Computed) (start : ℕ) (fresh : List (Option Computed)) (i : ℕ) → i < start → slice_get (put_from cs start fresh) i ≡ slice_get cs i
put_before [] start fresh i lt = refl
put_before (c ∷ cs) zero fresh i lt = absurd (omega (arith, lt))
put_before (c ∷ cs) (suc start) fresh zero lt = refl
put_before (c ∷ cs) (suc start) fresh (suc i) lt = put_before cs start fresh i (omega (arith, lt))

-- where nothing is computed anew, what was is still there
pub put_old : (cs : List Computed) (start : ℕ) (fresh : List (Option Computed)) (k i : ℕ) → i ≡ start + k → fresh_at fresh k ≡ None → slice_get (put_from cs start fresh) i ≡ slice_get cs i
put_old [] start fresh k i same at = refl
put_old (c ∷ cs) (suc start) fresh k zero same at = refl
put_old (c ∷ cs) (suc start) fresh k (suc i) same at = put_old cs start fresh k i (omega (arith, same)) at
put_old (c ∷ cs) zero [] k i same at = refl
put_old (c ∷ cs) zero (None ∷ fresh) k zero same at = refl
put_old (c ∷ cs) zero (None ∷ fresh) zero (suc i) same at = absurd (omega (arith, same))
put_old (c ∷ cs) zero (None ∷ fresh) (suc k) (suc i) same at = put_old cs zero fresh k i (omega (arith, same)) at
put_old (c ∷ cs) zero (Some x ∷ fresh) zero i same at = cc
put_old (c ∷ cs) zero (Some x ∷ fresh) (suc k) zero same at = absurd (omega (arith, same))
put_old (c ∷ cs) zero (Some x ∷ fresh) (suc k) (suc i) same at = put_old cs zero fresh k i (omega (arith, same)) at

pub put_new : (cs : List Computed) (start : ℕ) (fresh : List (Option Computed)) (k i : ℕ) (x : Computed) → i ≡ start + k → i < length cs → fresh_at fresh k ≡ Some x → slice_get (put_from cs start fresh) i ≡ Some x
put_new [] start fresh k i x same lt at = absurd (omega (arith, lt))
put_new (c ∷ cs) (suc start) fresh k zero x same lt at = absurd (omega (arith, same))
put_new (c ∷ cs) (suc start) fresh k (suc i) x same lt at = put_new cs start fresh k i x (omega (arith, same)) (omega (arith, lt)) at
put_new (c ∷ cs) zero [] k i x same lt at = cc
put_new (c ∷ cs) zero (None ∷ fresh) zero i x same lt at = cc
put_new (c ∷ cs) zero (None ∷ fresh) (suc k) zero x same lt at = absurd (omega (arith, same))
put_new (c ∷ cs) zero (None ∷ fresh) (suc k) (suc i) x same lt at = put_new cs zero fresh k i x (omega (arith, same)) (omega (arith, lt)) at
put_new (c ∷ cs) zero (Some y ∷ fresh) zero zero x same lt at = at
put_new (c ∷ cs) zero (Some y ∷ fresh) zero (suc i) x same lt at = absurd (omega (arith, same))
put_new (c ∷ cs) zero (Some y ∷ fresh) (suc k) zero x same lt at = absurd (omega (arith, same))
put_new (c ∷ cs) zero (Some y ∷ fresh) (suc k) (suc i) x same lt at = put_new cs zero fresh k i x (omega (arith, same)) (omega (arith, lt)) at

-- ---- one more

pub put_more_old : (cs : List Computed) (start : ℕ) (fresh : List (Option Computed)) → put_from cs start (fresh ++ None ∷ []) ≡ put_from cs start fresh
put_more_old [] start fresh = refl
put_more_old (c ∷ cs) (suc start) fresh = ap (λ rest. c ∷ rest) (put_more_old cs start fresh)
put_more_old (c ∷ cs) zero [] = ap (λ rest. c ∷ rest) (put_none cs zero)
put_more_old (c ∷ cs) zero (None ∷ fresh) = ap (λ rest. c ∷ rest) (put_more_old cs zero fresh)
put_more_old (c ∷ cs) zero (Some x ∷ fresh) = ap (λ rest. x ∷ rest) (put_more_old cs zero fresh)

pub put_more_new : (cs : List Computed) (start : ℕ) (fresh : List (Option Computed)) (gap i : ℕ) (x : Computed) → i ≡ start + length fresh + gap
    → put_from cs start (fresh ++ nothing gap ++ Some x ∷ []) ≡ slice_set (put_from cs start fresh) i x
put_more_new [] start fresh gap i x same = refl
put_more_new (c ∷ cs) (suc start) fresh gap zero x same = absurd (omega (arith, same))
put_more_new (c ∷ cs) (suc start) fresh gap (suc i) x same = ap (λ rest. c ∷ rest) (put_more_new cs start fresh gap i x (omega (arith, same)))
put_more_new (c ∷ cs) zero [] zero zero x same = ap (λ rest. x ∷ rest) (put_none cs zero)
put_more_new (c ∷ cs) zero [] zero (suc i) x same = absurd (omega (arith, same))
put_more_new (c ∷ cs) zero [] (suc gap) zero x same = absurd (omega (arith, same))
put_more_new (c ∷ cs) zero [] (suc gap) (suc i) x same = ap (λ rest. c ∷ rest) (put_more_new cs zero [] gap i x (omega (arith, same)) ∙ ap (λ l. slice_set l i x) (put_none cs zero))
put_more_new (c ∷ cs) zero (None ∷ fresh) gap zero x same = absurd (omega (arith, same))
put_more_new (c ∷ cs) zero (None ∷ fresh) gap (suc i) x same = ap (λ rest. c ∷ rest) (put_more_new cs zero fresh gap i x (omega (arith, same)))
put_more_new (c ∷ cs) zero (Some y ∷ fresh) gap zero x same = absurd (omega (arith, same))
put_more_new (c ∷ cs) zero (Some y ∷ fresh) gap (suc i) x same = ap (λ rest. y ∷ rest) (put_more_new cs zero fresh gap i x (omega (arith, same)))

-- ---- behind the last, all is as it was

pub put_behind : (cs : List Computed) (start : ℕ) (fresh : List (Option Computed)) (i : ℕ) → start + length fresh ≤ i → drop i (put_from cs start fresh) ≡ drop i cs
put_behind [] start fresh i le = refl
put_behind (c ∷ cs) (suc start) fresh zero le = absurd (omega (arith, le))
put_behind (c ∷ cs) (suc start) fresh (suc i) le = put_behind cs start fresh i (omega (arith, le))
put_behind (c ∷ cs) zero [] i le = refl
put_behind (c ∷ cs) zero (None ∷ fresh) zero le = absurd (omega (arith, le))
put_behind (c ∷ cs) zero (None ∷ fresh) (suc i) le = put_behind cs zero fresh i (omega (arith, le))
put_behind (c ∷ cs) zero (Some x ∷ fresh) zero le = absurd (omega (arith, le))
put_behind (c ∷ cs) zero (Some x ∷ fresh) (suc i) le = put_behind cs zero fresh i (omega (arith, le))

-- ---- values

values_same : (one other : List Computed) (i : ℕ) → slice_get one i ≡ slice_get other i → slice_get (values_in one) i ≡ slice_get (values_in other) i
values_same one other i same = slice_get-map (λ (c : Computed). c.values) one i ∙ ap (option_map (λ (c : Computed). c.values)) same ∙ sym (slice_get-map (λ (c : Computed). c.values) other i)

pub values_at : (cs : List Computed) (i : ℕ) (c : Computed) → slice_get cs i ≡ Some c → slice_get (values_in cs) i ≡ Some c.values
values_at cs i c at = slice_get-map (λ (x : Computed). x.values) cs i ∙ ap (option_map (λ (x : Computed). x.values)) at

pub values_front : (cs : List Computed) (start : ℕ) (fresh : List (Option Computed)) (i : ℕ) (v : Values) → i < start → slice_get (values_in cs) i ≡ Some v → slice_get (values_in (put_from cs start fresh)) i ≡ Some v
values_front cs start fresh i v lt at = values_same (put_from cs start fresh) cs i (put_before cs start fresh i lt) ∙ at

pub values_old : (cs : List Computed) (start : ℕ) (fresh : List (Option Computed)) (k i : ℕ) (v : Values) → i ≡ start + k → None ≡ fresh_at fresh k → slice_get (values_in cs) i ≡ Some v → slice_get (values_in (put_from cs start fresh)) i ≡ Some v
values_old cs start fresh k i v same none at = values_same (put_from cs start fresh) cs i (put_old cs start fresh k i same (sym none)) ∙ at

pub values_new : (cs : List Computed) (start : ℕ) (fresh : List (Option Computed)) (k i : ℕ) (x : Computed) → i ≡ start + k → i < length cs → Some x ≡ fresh_at fresh k → slice_get (values_in (put_from cs start fresh)) i ≡ Some x.values
values_new cs start fresh k i x same lt at = values_at (put_from cs start fresh) i x (put_new cs start fresh k i x same lt (sym at))

-- ---- a list that is filled up with nothing

length_nothing : (n : ℕ) → length (nothing n) ≡ n
length_nothing zero = refl
length_nothing (suc n) = ap suc (length_nothing n)

pub filled_next : (xs ys : List (Option Computed)) (place : ℕ) → length xs < place → ys ≡ xs ++ None ∷ [] → (length ys ≤ place) × (ys ++ nothing (place - length ys) ≡ xs ++ nothing (place - length xs))
filled_next xs ys place less same = (
  omega (arith, less, count),
  ap (λ l. l ++ nothing (place - length ys)) same
      ∙ append_assoc xs (None ∷ []) (nothing (place - length ys))
      ∙ ap (λ n. xs ++ nothing n) {x = suc (place - length ys)} {y = place - length xs} (omega (arith, less, count)),
)
  where
    count : length ys ≡ length xs + 1
    count = ap length same ∙ length-append xs (None ∷ [])

pub filled_all : (xs : List (Option Computed)) (place : ℕ) → place ≤ length xs → length xs ≤ place → xs ++ nothing (place - length xs) ≡ xs
filled_all xs place ge le = ap (λ n. xs ++ nothing n) {x = place - length xs} {y = 0} (omega (arith, ge, le)) ∙ append-nil xs

-- ---- one more is put

pub next_put : (cs : List Computed) (start place : ℕ) (fresh : List (Option Computed)) (next : Option Computed) → place ≡ start + length fresh → put_from cs start (fresh ++ next ∷ []) ≡ put_one (put_from cs start fresh) place next
next_put cs start place fresh None same = put_more_old cs start fresh
next_put cs start place fresh (Some x) same = ap (λ l. put_from cs start (l ++ Some x ∷ [])) (sym (append-nil fresh)) ∙ put_more_new cs start fresh 0 place x (omega (arith, same))
