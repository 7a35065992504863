-- The values that a list of entries gives.
use Rattle.std.proofs.Common.{◌≡◌, Bool, true, false, cond, List, [], ◌∷◌, Option, Some, None, refl, sym, ap, ◌∙◌, ◌≢◌}
use Rattle.std.specs.FinMap as map
use Rattle.cv_valuation.specs.declared.key.Key.{Key}
use Rattle.cv_valuation.specs.declared.outcome.Outcome.{Outcome}
use Rattle.cv_valuation.specs.declared.outcome.Outcome.TheVariants.{Tokens, Value, Invalid}
use Rattle.cv_valuation.specs.Keys.{key_cmp, same_key}
use Rattle.cv_valuation.specs.KeyLaws.{same_key_equiv}
use Rattle.cv_valuation.specs.Kept.{Kept, tokens, typed}
use Rattle.cv_valuation.specs.Valuations.{Values, outcome_of, outcome_at, with_outcome, valuation_of}
use Rattle.cv_valuation.specs.ValuationLaws.{OutcomesAreByKey}
use Rattle.cv_valuation.proofs.KeyOrder.{equal_keys, key_cmp_total, key_cmp_antisymmetric, tied_keys}

abbrev Entry : Type 0
Entry = Key × Outcome

abbrev pub kept_of : Outcome → Option Kept
kept_of (Tokens list) = Some (tokens list)
kept_of (Value value) = Some (typed value)
kept_of Invalid = None

-- the tokens of the first entry for a key
abbrev pub first_kept : Key → List Entry → Option Kept
first_kept key [] = None
first_kept key (e ∷ es) = cond (same_key key e.0) (kept_of e.1) (first_kept key es)

pub get-with_outcome : (values : Values) (key : Key) (outcome : Outcome) (q : Key) → map.get (with_outcome values key outcome) q ≡ cond (same_key q key) (kept_of outcome) (map.get values q)
get-with_outcome values key (Tokens list) q =
    map.get-insert key_cmp_total values key (tokens list) q ∙ ap (λ b. cond b (Some (tokens list)) (map.get values q)) (tied_keys q key)
get-with_outcome values key (Value value) q =
    map.get-insert key_cmp_total values key (typed value) q ∙ ap (λ b. cond b (Some (typed value)) (map.get values q)) (tied_keys q key)
get-with_outcome values key Invalid q =
    map.get-remove key_cmp_total values key q ∙ ap (λ b. cond b None (map.get values q)) (tied_keys q key)

pub get-valuation_of : (es : List Entry) (q : Key) → map.get (valuation_of es) q ≡ first_kept q es
get-valuation_of [] q = map.get-empty key_cmp q
get-valuation_of (e ∷ es) q =
    get-with_outcome (valuation_of es) e.0 e.1 q ∙ ap (cond (same_key q e.0) (kept_of e.1)) (get-valuation_of es q)

-- the outcome of a key is that of its entry
pub outcome_of-kept_of : (outcome : Outcome) → outcome_of (kept_of outcome) ≡ outcome
outcome_of-kept_of (Tokens list) = refl
outcome_of-kept_of (Value value) = refl
outcome_of-kept_of Invalid = refl

same_itself : (key : Key) → same_key key key ≡ true
same_itself key = same_key_equiv.refl key

outcome_none : (key : Key) → outcome_at map.empty key ≡ Invalid
outcome_none key = ap outcome_of (map.get-empty key_cmp key)

outcome_here : (values : Values) (key : Key) (outcome : Outcome) → outcome_at (with_outcome values key outcome) key ≡ outcome
outcome_here values key outcome =
    ap outcome_of (get-with_outcome values key outcome key ∙ ap (λ b. cond b (kept_of outcome) (map.get values key)) (same_itself key))
    ∙ outcome_of-kept_of outcome

not_same : (a b : Key) → a ≢ b → same_key a b ≡ false
not_same a b apart = by (same_key a b) refl
  where
    by : (t : Bool) → same_key a b ≡ t → same_key a b ≡ false
    by true same = absurd (apart (equal_keys a b same))
    by false other = other

outcome_elsewhere : (values : Values) (key : Key) (outcome : Outcome) (other : Key) → other ≢ key → outcome_at (with_outcome values key outcome) other ≡ outcome_at values other
outcome_elsewhere values key outcome other apart =
    ap outcome_of (get-with_outcome values key outcome other ∙ ap (λ b. cond b (kept_of outcome) (map.get values other)) (not_same other key apart))

kept_of-outcome_of : (found : Option Kept) → kept_of (outcome_of found) ≡ found
kept_of-outcome_of None = refl
kept_of-outcome_of (Some (tokens list)) = refl
kept_of-outcome_of (Some (typed value)) = refl

same_values : (values others : Values) → ((key : Key) → outcome_at values key ≡ outcome_at others key) → values ≡ others
same_values values others alike =
    map.same_map key_cmp_total key_cmp_antisymmetric values others (λ key.
    sym (kept_of-outcome_of (map.get values key)) ∙ ap kept_of (alike key) ∙ kept_of-outcome_of (map.get others key))

pub outcomes_are_by_key : OutcomesAreByKey
outcomes_are_by_key = record { none = outcome_none; here = outcome_here; elsewhere = outcome_elsewhere; same = same_values }
