-- The items and rules of a list are no more than its tokens, and the blocks of rules hold only tokens that are spelt where the list's are.
use Rattle.std.proofs.Common.{ℕ, suc, zero, pred, ◌≤◌, Bool, true, false, List, [], ◌∷◌, ◌++◌, length, take, drop, Some, None, arith}
use Rattle.std.specs.Prelude.{All, if◌then◌else◌}
use Rattle.std.proofs.lemmas.List.Elements.{All-nil, All-cons, All-tail, All-append, All-take, All-drop}
use Rattle.cv_spec_text.specs.Runs.{run_values, run_values_within, these_if}
use Rattle.cv_spec_text.specs.Splits.{IsSpelt}
use Rattle.cv_spec_text.specs.declared.token.Token.{Token}
use Rattle.cv_spec_text.specs.declared.token.Token.TheVariants.{At}
use Rattle.cv_component.specs.Nesting.{completed}
use Rattle.cv_component.specs.TopLevel.{begins, closes_curly, ends_prelude, opens_curly, top_length}
use Rattle.cv_component.specs.Items.{item, item_length, item_size, item_at, begins_item, items}
use Rattle.cv_component.specs.Rules.{at_rule, block_inner, rule, rule_length, rule_size, rule_at, begins_rule, rules}
use Rattle.cv_component.specs.declared.sheet.Rule.TheVariants as rule_kinds
use Rattle.cv_component.proofs.Spelt.{all_completed}
use Rattle.cv_token.proofs.Few.{run_values-few}
use Rattle.cv_props.specs.Reading.{IsSpeltRule}

module _ {A B : Type 0} (size : List A → ℕ) (value : List A → List B) (P : A → Type 0) (Q : B → Type 0) (each : (l : List A) → All P l → All Q (value l)) where
  all_within : (within : ℕ) (all : List A) → All P all → All Q (run_values_within size value within all)
  all_within within [] holds = All-nil Q
  all_within (suc within) (x ∷ xs) holds = all_within within xs (All-tail P x xs holds)
  all_within zero (x ∷ xs) holds = by (all_within (pred (size (x ∷ xs))) xs (All-tail P x xs holds)) (size (x ∷ xs))
    where
      by : All Q (run_values_within size value (pred (size (x ∷ xs))) xs) → (n : ℕ) → All Q (these_if n (value (x ∷ xs) ++ run_values_within size value (pred (size (x ∷ xs))) xs))
      by rest zero = All-nil Q
      by rest (suc n) = All-append Q (value (x ∷ xs)) _ (each (x ∷ xs) holds) rest

  -- what holds of the values of lists whose elements are so holds of the values of the run
  pub run_values-All : (all : List A) → All P all → All Q (run_values size value all)
  unfolding run_values
  run_values-All all holds = all_within 0 all holds

one_item : (l : List Token) → length (item_at l) ≤ 1
one_item l = by (begins_item l)
  where
    by : (b : Bool) → length (if b then item (take (item_length l) l) ∷ [] else []) ≤ 1
    by true = omega arith
    by false = omega arith

-- no more items than tokens
pub few_items : (tokens : List Token) → length (items tokens) ≤ length tokens
few_items tokens = run_values-few item_size item_at one_item tokens

spelt_inner : (tokens : List Token) → All IsSpelt tokens → All IsSpelt (block_inner tokens)
unfolding block_inner
spelt_inner tokens holds = all_completed _ (All-take IsSpelt (top_length closes_curly (drop 1 tokens)) (drop 1 tokens) (All-drop IsSpelt 1 tokens holds))

spelt_at_rule : (name : List ℕ) (tokens : List Token) → All IsSpelt tokens → IsSpeltRule (at_rule name tokens)
unfolding at_rule
spelt_at_rule name tokens holds = by (begins opens_curly rest)
  where
    size : ℕ
    size = top_length ends_prelude tokens

    rest : List Token
    rest = drop size tokens

    by : (b : Bool) → IsSpeltRule (rule_kinds.At name (completed (take size tokens)) (if b then Some (block_inner rest) else None))
    by true = spelt_inner rest (All-drop IsSpelt size tokens holds)
    by false = tt

spelt_rule : (tokens : List Token) → All IsSpelt tokens → IsSpeltRule (rule tokens)
spelt_rule [] holds = tt
spelt_rule (At name ∷ rest) holds = spelt_at_rule name rest (All-tail IsSpelt (At name) rest holds)
spelt_rule (_ ∷ rest) holds = tt

spelt_rule_at : (l : List Token) → All IsSpelt l → All IsSpeltRule (rule_at l)
spelt_rule_at l holds = by (begins_rule l)
  where
    by : (b : Bool) → All IsSpeltRule (if b then rule (take (rule_length l) l) ∷ [] else [])
    by true = All-cons IsSpeltRule (rule (take (rule_length l) l)) [] (spelt_rule (take (rule_length l) l) (All-take IsSpelt (rule_length l) l holds)) (All-nil IsSpeltRule)
    by false = All-nil IsSpeltRule

-- the blocks of the rules of a list of tokens that are spelt
pub spelt_rules : (tokens : List Token) → All IsSpelt tokens → All IsSpeltRule (rules tokens)
spelt_rules tokens holds = run_values-All rule_size rule_at IsSpelt IsSpeltRule spelt_rule_at tokens holds

one_rule : (l : List Token) → length (rule_at l) ≤ 1
one_rule l = by (begins_rule l)
  where
    by : (b : Bool) → length (if b then rule (take (rule_length l) l) ∷ [] else []) ≤ 1
    by true = omega arith
    by false = omega arith

-- no more rules than tokens
pub few_rules : (tokens : List Token) → length (rules tokens) ≤ length tokens
few_rules tokens = run_values-few rule_size rule_at one_rule tokens
