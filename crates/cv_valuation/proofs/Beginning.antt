-- The initial values of ordinary properties, one after another.
use Rattle.std.proofs.Common.{◌≡◌, ℕ, ◌+◌, Bool, true, false, cond, nat_lt, Some, None, Result, Ok, Err, refl, sym, ap, ◌∙◌, arith}
use Rattle.std.specs.Prelude.{◌==◌, OnOk}
use Rattle.std.specs.FinMap as map
use Rattle.std.proofs.lemmas.Bool.Decides.{nat_tests}
use Rattle.cv_value.specs.declared.typed.Typed.{Typed}
use Rattle.cv_property.specs.declared.property.Property.{Property}
use Rattle.cv_property.specs.Table.{initial_of, number_of, numbered}
use Rattle.cv_property.specs.TableLaws.{TableIsFound}
use Rattle.cv_valuation.specs.declared.key.Key.{Key}
use Rattle.cv_valuation.specs.declared.key.Key.TheVariants.{Custom, Table}
use Rattle.cv_valuation.specs.declared.outcome.Outcome.{Outcome}
use Rattle.cv_valuation.specs.declared.outcome.Outcome.TheVariants.{Value, Invalid}
use Rattle.cv_valuation.specs.Keys.{key_cmp, same_key}
use Rattle.cv_valuation.specs.Starts.{initial_or, table_initial}
use Rattle.cv_valuation.specs.Valuations.{Values, outcome_of, outcome_at, with_outcome}
use Rattle.cv_valuation.proofs.Begun.{begun}
use Rattle.cv_valuation.proofs.Outcomes.{kept_of, get-with_outcome, outcome_of-kept_of}
use Rattle.cv_valuation.proofs.RowTest.{is_below}
use Rattle.cv_valuation.proofs.Rows.{same_table}

-- the outcome of each key once one is set
outcome_at-with : (values : Values) (key : Key) (outcome : Outcome) (q : Key) → outcome_at (with_outcome values key outcome) q ≡ cond (same_key q key) outcome (outcome_at values q)
outcome_at-with values key outcome q = ap outcome_of (get-with_outcome values key outcome q) ∙ by (same_key q key)
  where
    by : (b : Bool) → outcome_of (cond b (kept_of outcome) (map.get values q)) ≡ cond b outcome (outcome_at values q)
    by true = outcome_of-kept_of outcome
    by false = refl

module _ (law : TableIsFound) (number : ℕ) where
  one_put : (p : Property) → numbered number ≡ Some p → (values : Values) (key : Key) → outcome_at (with_outcome values (Table p) (Value (initial_of p))) key ≡ initial_or number key (outcome_at values key)
  one_put p at values (Custom name) = outcome_at-with values (Table p) (Value (initial_of p)) (Custom name)
  one_put p at values (Table q) =
      outcome_at-with values (Table p) (Value (initial_of p)) (Table q)
      ∙ ap (λ b. cond b (Value (initial_of p)) (outcome_at values (Table q))) (same_table q p ∙ ap (λ n. number_of q == n) (law.one_number number p at))
      ∙ by (number_of q == number) refl
    where
      by : (b : Bool) → (number_of q == number) ≡ b → cond b (Value (initial_of p)) (outcome_at values (Table q)) ≡ cond b (Value (initial_of q)) (outcome_at values (Table q))
      by true same =
          let number_is : number_of q ≡ number = grind (arith, nat_tests) in
          let one : Some p ≡ Some q = sym at ∙ ap numbered (sym number_is) ∙ law.numbered_so q in
          let alike : p ≡ q = cc in ap (λ r. Value (initial_of r)) alike
      by false other = refl

  pub put_some : (p : Property) → numbered number ≡ Some p → (value : Typed) → value ≡ initial_of p → {E : Type 0} (result : Result (Unit {0}) E) (old new : Values)
      → OnOk result (new ≡ with_outcome old (Table p) (Value value)) → OnOk result ((key : Key) → outcome_at new key ≡ initial_or number key (outcome_at old key))
  put_some p at value is (Ok done) old new put = λ key. ap (λ values. outcome_at values key) (put ∙ ap (λ v. with_outcome old (Table p) (Value v)) is) ∙ one_put p at old key
  put_some p at value is (Err e) old new put = tt

  pub put_none : numbered number ≡ None → (values : Values) (key : Key) → outcome_at values key ≡ initial_or number key (outcome_at values key)
  put_none none values (Custom name) = refl
  put_none none values (Table q) = by (number_of q == number) refl
    where
      by : (b : Bool) → (number_of q == number) ≡ b → outcome_at values (Table q) ≡ cond b (Value (initial_of q)) (outcome_at values (Table q))
      by true same =
          let number_is : number_of q ≡ number = grind (arith, nat_tests) in
          let two : Some q ≡ None = sym (law.numbered_so q) ∙ ap numbered number_is ∙ none in cc
      by false other = refl

-- none at first, one more, and all in the end
pub begun_none : (key : Key) → outcome_at map.empty key ≡ begun 0 key
begun_none (Custom name) = ap outcome_of (map.get-empty key_cmp (Custom name))
begun_none (Table p) = ap outcome_of (map.get-empty key_cmp (Table p)) ∙ (let none : nat_lt (number_of p) 0 ≡ false = grind (arith, nat_tests) in ap (λ b. cond b (Value (initial_of p)) Invalid) (sym none))

pub begun_next : (number : ℕ) (key : Key) → initial_or number key (begun number key) ≡ begun (number + 1) key
begun_next number (Custom name) = refl
begun_next number (Table p) = by (number_of p == number) (nat_lt (number_of p) number) refl refl
  where
    m : ℕ
    m = number_of p

    by : (a b : Bool) → (number_of p == number) ≡ a → nat_lt (number_of p) number ≡ b
        → cond a (Value (initial_of p)) (cond b (Value (initial_of p)) Invalid) ≡ cond (nat_lt (number_of p) (number + 1)) (Value (initial_of p)) Invalid
    by true b same less = let more : nat_lt (number_of p) (number + 1) ≡ true = grind (arith, nat_tests) in ap (λ t. cond t (Value (initial_of p)) Invalid) (sym more)
    by false true same less = let more : nat_lt (number_of p) (number + 1) ≡ true = grind (arith, nat_tests) in ap (λ t. cond t (Value (initial_of p)) Invalid) (sym more)
    by false false same less = let more : nat_lt (number_of p) (number + 1) ≡ false = grind (arith, nat_tests) in ap (λ t. cond t (Value (initial_of p)) Invalid) (sym more)

pub begun_all : (key : Key) → begun 35 key ≡ table_initial key
begun_all (Custom name) = refl
begun_all (Table p) = ap (λ t. cond t (Value (initial_of p)) Invalid) (is_below p)
