-- The values that a tree and two rows give.
use Rattle.std.proofs.Common.{◌≡◌, ℕ, ◌-◌, Bool, true, false, cond, ◌&&◌, ◌||◌, nat_lt, List, [], ◌++◌, Option, Some, None, refl, sym, ap, ◌∙◌, subst, unwrap_or, arith}
use Rattle.std.specs.Prelude.{◌==◌, map as each}
use Rattle.std.specs.FinMap as map
use Rattle.std.proofs.lemmas.Bool.Decides.{nat_tests}
use Rattle.cv_property.specs.declared.property.Property.{Property}
use Rattle.cv_property.specs.Table.{inherits, number_of, properties}
use Rattle.cv_valuation.specs.declared.key.Key.{Key}
use Rattle.cv_valuation.specs.declared.key.Key.TheVariants.{Custom, Table}
use Rattle.cv_valuation.specs.declared.outcome.Outcome.{Outcome}
use Rattle.cv_valuation.specs.declared.outcome.Outcome.TheVariants.{Invalid}
use Rattle.cv_valuation.specs.declared.trie.Trie.{Trie, Leaf}
use Rattle.cv_valuation.specs.Keys.{key_cmp, same_key}
use Rattle.cv_valuation.specs.Rows.{AreKeptBy, in_row, outcome_by, place_of, row_of, values_by}
use Rattle.cv_valuation.specs.Starts.{inherited_at}
use Rattle.cv_valuation.specs.Tries.{FindsTheSame, Sets, found, keys_in, path_of}
use Rattle.cv_valuation.specs.Valuations.{MayKeep, outcome_of, outcome_at, with_outcome}
use Rattle.cv_valuation.proofs.KeyOrder.{equal_keys, key_cmp_total, key_cmp_antisymmetric}
use Rattle.cv_valuation.proofs.Outcomes.{kept_of, get-with_outcome, get-valuation_of, outcome_of-kept_of}
use Rattle.cv_valuation.proofs.RowTest.{inherits_is, is_listed}
use Rattle.cv_valuation.proofs.Tries.{has, has-append, absent, first_kept-each, found-Sets}

-- a key that isn't listed has no outcome
not_listed : (t : Trie) (i o : List Outcome) (q : Key) → has q (keys_in t ++ each Table properties) ≡ false → outcome_by t i o q ≡ Invalid
not_listed t i o (Custom name) none =
    by (has q (keys_in t)) (has q (each Table properties)) (sym (has-append q (keys_in t) (each Table properties)) ∙ none) (absent t (path_of q) q)
  where
    q : Key
    q = Custom name

    by : (a b : Bool) → (a || b) ≡ false → (a ≡ false → found t (path_of q) q ≡ None) → outcome_by t i o q ≡ Invalid
    by true b is in_tree = cc
    by false b is in_tree = ap (λ found. unwrap_or found Invalid) (in_tree refl)
not_listed t i o (Table p) none =
    absurd (by (has q (keys_in t)) (ap (λ b. has q (keys_in t) || b) (sym (is_listed p)) ∙ sym (has-append q (keys_in t) (each Table properties)) ∙ none))
  where
    q : Key
    q = Table p

    by : (a : Bool) → (a || true) ≡ false → ⊥
    by true is = cc
    by false is = cc

get-values_by : (t : Trie) (i o : List Outcome) (q : Key) → map.get (values_by t i o) q ≡ kept_of (outcome_by t i o q)
get-values_by t i o q =
    get-valuation_of (each (λ key. (key, outcome_by t i o key)) (keys_in t ++ each Table properties)) q
    ∙ first_kept-each (outcome_by t i o) q (keys_in t ++ each Table properties) (not_listed t i o q)

pub outcome_at-values_by : (t : Trie) (i o : List Outcome) (q : Key) → outcome_at (values_by t i o) q ≡ outcome_by t i o q
outcome_at-values_by t i o q = ap outcome_of (get-values_by t i o q) ∙ outcome_of-kept_of (outcome_by t i o q)

module _ (t : Trie) (i o : List Outcome) (t' : Trie) (i' o' : List Outcome) where
  -- where the same stands
  pub values_by-same : ((q : Key) → outcome_by t' i' o' q ≡ outcome_by t i o q) → values_by t' i' o' ≡ values_by t i o
  values_by-same same =
      map.same_map key_cmp_total key_cmp_antisymmetric _ _ (λ q. get-values_by t' i' o' q ∙ ap kept_of (same q) ∙ sym (get-values_by t i o q))

  pub kept-same : ((q : Key) → outcome_by t' i' o' q ≡ outcome_by t i o q) → AreKeptBy t i o → AreKeptBy t' i' o'
  kept-same same kept q = subst (MayKeep q) (sym (same q)) (kept q)

  -- where one outcome is set
  module _ (key : Key) (outcome : Outcome) (sets : (q : Key) → outcome_by t' i' o' q ≡ cond (same_key q key) outcome (outcome_by t i o q)) where
    pub values_by-with : values_by t' i' o' ≡ with_outcome (values_by t i o) key outcome
    values_by-with =
        map.same_map key_cmp_total key_cmp_antisymmetric _ _ (λ q.
        get-values_by t' i' o' q
        ∙ ap kept_of (sets q)
        ∙ by (same_key q key) (outcome_by t i o q)
        ∙ sym (get-with_outcome (values_by t i o) key outcome q ∙ ap (cond (same_key q key) (kept_of outcome)) (get-values_by t i o q)))
      where
        by : (b : Bool) (old : Outcome) → kept_of (cond b outcome old) ≡ cond b (kept_of outcome) (kept_of old)
        by true old = refl
        by false old = refl

    pub kept-with : AreKeptBy t i o → MayKeep key outcome → AreKeptBy t' i' o'
    kept-with kept may q = subst (MayKeep q) (sym (sets q)) (by (same_key q key) refl)
      where
        by : (b : Bool) → same_key q key ≡ b → MayKeep q (cond b outcome (outcome_by t i o q))
        by true same = subst (λ k. MayKeep k outcome) (sym (equal_keys q key same)) may
        by false other = kept q

-- a tree in which the same is found
pub same-custom : (t t' : Trie) (i o : List Outcome) → FindsTheSame t t' → (q : Key) → outcome_by t' i o q ≡ outcome_by t i o q
same-custom t t' i o same (Custom name) = ap (λ found. unwrap_or found Invalid) (same (path_of (Custom name)) (Custom name))
same-custom t t' i o same (Table p) = refl

-- the outcome of a custom property is set
pub sets-custom : (t t' : Trie) (i o : List Outcome) (name : List ℕ) (outcome : Outcome) → Sets t t' (path_of (Custom name)) (Custom name) outcome
    → (q : Key) → outcome_by t' i o q ≡ cond (same_key q (Custom name)) outcome (outcome_by t i o q)
sets-custom t t' i o name outcome sets (Custom other) =
    ap (λ found. unwrap_or found Invalid) (found-Sets t t' (Custom name) outcome sets (Custom other))
    ∙ by (same_key (Custom other) (Custom name)) (found t (path_of (Custom other)) (Custom other))
  where
    by : (b : Bool) (old : Option Outcome) → unwrap_or (cond b (Some outcome) old) Invalid ≡ cond b outcome (unwrap_or old Invalid)
    by true old = refl
    by false old = refl
sets-custom t t' i o name outcome sets (Table p) = refl

pub same_table : (a b : Property) → same_key (Table a) (Table b) ≡ (number_of a == number_of b)
same_table a b = by (number_of a == number_of b)
  where
    by : (t : Bool) → (true && (t && true)) ≡ t
    by true = refl
    by false = refl

-- the outcome of an ordinary property is set
pub sets-ordinary : (t : Trie) (i o i' o' : List Outcome) (p : Property) (outcome : Outcome)
    → ((q : ℕ) → in_row (row_of i' o' q) (place_of q) ≡ cond (q == number_of p) outcome (in_row (row_of i o q) (place_of q)))
    → (q : Key) → outcome_by t i' o' q ≡ cond (same_key q (Table p)) outcome (outcome_by t i o q)
sets-ordinary t i o i' o' p outcome sets (Custom name) = refl
sets-ordinary t i o i' o' p outcome sets (Table q) =
    sets (number_of q) ∙ ap (λ b. cond b outcome (in_row (row_of i o (number_of q)) (place_of (number_of q)))) (sym (same_table q p))

-- nothing is set in the rows
pub same-ordinary : (t : Trie) (i o i' o' : List Outcome)
    → ((q : ℕ) → in_row (row_of i' o' q) (place_of q) ≡ in_row (row_of i o q) (place_of q))
    → (q : Key) → outcome_by t i' o' q ≡ outcome_by t i o q
same-ordinary t i o i' o' same (Custom name) = refl
same-ordinary t i o i' o' same (Table q) = same (number_of q)

-- in the row of those that inherit, and in the other
pub rows-inherited : (i o i' : List Outcome) (n : ℕ) (outcome : Outcome) → nat_lt n 7 ≡ true
    → ((q : ℕ) → in_row i' q ≡ cond (q == place_of n) outcome (in_row i q))
    → (q : ℕ) → in_row (row_of i' o q) (place_of q) ≡ cond (q == n) outcome (in_row (row_of i o q) (place_of q))
rows-inherited i o i' n outcome below sets q = by (nat_lt q 7) refl
  where
    here : place_of n ≡ n
    here = ap (λ b. cond b n (n - 7)) below

    by : (b : Bool) → nat_lt q 7 ≡ b → in_row (cond b i' o) (cond b q (q - 7)) ≡ cond (q == n) outcome (in_row (cond b i o) (cond b q (q - 7)))
    by true is = sets q ∙ ap (λ m. cond (q == m) outcome (in_row i q)) here
    by false is = let other : (q == n) ≡ false = grind (arith, nat_tests) in ap (λ b. cond b outcome (in_row o (q - 7))) (sym other)

pub rows-own : (i o o' : List Outcome) (n : ℕ) (outcome : Outcome) → nat_lt n 7 ≡ false
    → ((q : ℕ) → in_row o' q ≡ cond (q == place_of n) outcome (in_row o q))
    → (q : ℕ) → in_row (row_of i o' q) (place_of q) ≡ cond (q == n) outcome (in_row (row_of i o q) (place_of q))
rows-own i o o' n outcome below sets q = by (nat_lt q 7) refl
  where
    here : place_of n ≡ n - 7
    here = ap (λ b. cond b n (n - 7)) below

    same : (b : Bool) → (q == n) ≡ b → nat_lt q 7 ≡ false → (q - 7 == n - 7) ≡ b
    same true is past = grind (arith, nat_tests)
    same false is past = grind (arith, nat_tests)

    by : (b : Bool) → nat_lt q 7 ≡ b → in_row (cond b i o') (cond b q (q - 7)) ≡ cond (q == n) outcome (in_row (cond b i o) (cond b q (q - 7)))
    by true is = let other : (q == n) ≡ false = grind (arith, nat_tests) in ap (λ b. cond b outcome (in_row i q)) (sym other)
    by false is =
        sets (q - 7)
        ∙ ap (λ m. cond (q - 7 == m) outcome (in_row o (q - 7))) here
        ∙ ap (λ b. cond b outcome (in_row o (q - 7))) (same (q == n) refl is)

-- what is inherited
pub inherits-by : (t t' : Trie) (i o it io : List Outcome) (tt' : Trie) → FindsTheSame t t' → (q : Key)
    → outcome_by t' i io q ≡ inherited_at (values_by t i o) (values_by tt' it io) q
inherits-by t t' i o it io tt' same (Custom name) = same-custom t t' i io same (Custom name) ∙ sym (outcome_at-values_by t i o (Custom name))
inherits-by t t' i o it io tt' same (Table p) =
    by (nat_lt (number_of p) 7) refl
    ∙ ap (λ b. cond b (outcome_at (values_by t i o) (Table p)) (outcome_at (values_by tt' it io) (Table p))) (sym (inherits_is p))
  where
    n : ℕ
    n = number_of p

    by : (b : Bool) → nat_lt n 7 ≡ b → in_row (cond b i io) (cond b n (n - 7)) ≡ cond b (outcome_at (values_by t i o) (Table p)) (outcome_at (values_by tt' it io) (Table p))
    by true is = sym (outcome_at-values_by t i o (Table p) ∙ ap (λ b. in_row (cond b i o) (cond b n (n - 7))) is)
    by false is = sym (outcome_at-values_by tt' it io (Table p) ∙ ap (λ b. in_row (cond b it io) (cond b n (n - 7))) is)

-- the tree and the rows are shared
pub same-shared : (t t' : Trie) (i i' o o' : List Outcome) → FindsTheSame t t' → i' ≡ i → o' ≡ o → (q : Key) → outcome_by t' i' o' q ≡ outcome_by t i o q
same-shared t t' i i' o o' same ii oo q = ap (λ row. outcome_by t' row o' q) ii ∙ ap (λ row. outcome_by t' i row q) oo ∙ same-custom t t' i o same q

pub inherits-shared : (t t' : Trie) (i o i' : List Outcome) (tt' : Trie) (it io io' : List Outcome) → FindsTheSame t t' → i' ≡ i → io' ≡ io → (q : Key)
    → outcome_by t' i' io' q ≡ inherited_at (values_by t i o) (values_by tt' it io) q
inherits-shared t t' i o i' tt' it io io' same ii oo q =
    ap (λ row. outcome_by t' row io' q) ii ∙ ap (λ row. outcome_by t' i row q) oo ∙ inherits-by t t' i o it io tt' same q

pub inherits-kept : (t t' : Trie) (i o i' : List Outcome) (tt' : Trie) (it io io' : List Outcome) → FindsTheSame t t' → i' ≡ i → io' ≡ io
    → AreKeptBy t i o → AreKeptBy tt' it io → AreKeptBy t' i' io'
inherits-kept t t' i o i' tt' it io io' same ii oo kept initial q =
    subst (MayKeep q) (sym (inherits-shared t t' i o i' tt' it io io' same ii oo q)) (by q)
  where
    by : (q : Key) → MayKeep q (inherited_at (values_by t i o) (values_by tt' it io) q)
    by (Custom name) = subst (MayKeep (Custom name)) (sym (outcome_at-values_by t i o (Custom name))) (kept (Custom name))
    by (Table p) = choose (inherits p)
      where
        choose : (b : Bool) → MayKeep (Table p) (cond b (outcome_at (values_by t i o) (Table p)) (outcome_at (values_by tt' it io) (Table p)))
        choose true = subst (MayKeep (Table p)) (sym (outcome_at-values_by t i o (Table p))) (kept (Table p))
        choose false = subst (MayKeep (Table p)) (sym (outcome_at-values_by tt' it io (Table p))) (initial (Table p))

-- nothing stands anywhere
pub no_values : values_by Leaf [] [] ≡ map.empty
no_values = map.same_map key_cmp_total key_cmp_antisymmetric _ _ (λ q. get-values_by Leaf [] [] q ∙ ap kept_of (none q) ∙ sym (map.get-empty key_cmp q))
  where
    none : (q : Key) → outcome_by Leaf [] [] q ≡ Invalid
    none (Custom name) = refl
    none (Table p) = by (nat_lt (number_of p) 7)
      where
        by : (b : Bool) → in_row (cond b [] []) (cond b (number_of p) (number_of p - 7)) ≡ Invalid
        by true = refl
        by false = refl
