-- The blocks of the rules of a list of tokens of texts are made of such tokens.
use Rattle.std.proofs.Common.{ℕ, Bool, true, false, List, [], ◌∷◌, take, drop, Some, None}
use Rattle.std.specs.Prelude.{All, if◌then◌else◌}
use Rattle.std.proofs.lemmas.List.Elements.{All-nil, All-cons, All-tail, All-take, All-drop}
use Rattle.cv_spec_text.specs.Splits.{IsSpelt}
use Rattle.cv_spec_text.specs.declared.token.Token.{Token}
use Rattle.cv_spec_text.specs.declared.token.Token.TheVariants.{At}
use Rattle.cv_component.specs.Nesting.{completed}
use Rattle.cv_component.specs.TopLevel.{begins, closes_curly, ends_prelude, opens_curly, top_length}
use Rattle.cv_component.specs.Rules.{at_rule, block_inner, rule, rule_length, rule_size, rule_at, begins_rule, rules}
use Rattle.cv_component.specs.declared.sheet.Rule.TheVariants as rule_kinds
use Rattle.cv_component.proofs.Spelt.{all_completed}
use Rattle.cv_props.specs.Reading.{IsSpeltRule}
use Rattle.cv_element_laws.proofs.Runs.{run_values-All}

spelt_inner : (tokens : List Token) → All IsSpelt tokens → All IsSpelt (block_inner tokens)
unfolding block_inner
spelt_inner tokens holds = all_completed _ (All-take IsSpelt (top_length closes_curly (drop 1 tokens)) (drop 1 tokens) (All-drop IsSpelt 1 tokens holds))

spelt_at_rule : (name : List ℕ) (tokens : List Token) → All IsSpelt tokens → IsSpeltRule (at_rule name tokens)
unfolding at_rule
spelt_at_rule name tokens holds = by (begins opens_curly rest)
  where
    size : ℕ
    size = top_length ends_prelude tokens

    rest : List Token
    rest = drop size tokens

    by : (b : Bool) → IsSpeltRule (rule_kinds.At name (completed (take size tokens)) (if b then Some (block_inner rest) else None))
    by true = spelt_inner rest (All-drop IsSpelt size tokens holds)
    by false = tt

spelt_rule : (tokens : List Token) → All IsSpelt tokens → IsSpeltRule (rule tokens)
spelt_rule [] holds = tt
spelt_rule (At name ∷ rest) holds = spelt_at_rule name rest (All-tail IsSpelt (At name) rest holds)
spelt_rule (_ ∷ rest) holds = tt

spelt_rule_at : (l : List Token) → All IsSpelt l → All IsSpeltRule (rule_at l)
spelt_rule_at l holds = by (begins_rule l)
  where
    by : (b : Bool) → All IsSpeltRule (if b then rule (take (rule_length l) l) ∷ [] else [])
    by true = All-cons IsSpeltRule (rule (take (rule_length l) l)) [] (spelt_rule (take (rule_length l) l) (All-take IsSpelt (rule_length l) l holds)) (All-nil IsSpeltRule)
    by false = All-nil IsSpeltRule

pub spelt_rules : (tokens : List Token) → All IsSpelt tokens → All IsSpeltRule (rules tokens)
spelt_rules tokens holds = run_values-All rule_size rule_at IsSpelt IsSpeltRule spelt_rule_at tokens holds
