-- The rules of a sheet (CSS Syntax 3, "Consume a list of rules").
use Rattle.std.specs.Prelude.{ℕ, ◌+◌, Bool, true, false, not, if◌then◌else◌, min, List, [], ◌∷◌, length, drop, take, Option, Some, None}
use Rattle.cv_spec_text.specs.Runs.{run_values}
use Rattle.cv_spec_text.specs.declared.token.Token.{Token}
use Rattle.cv_spec_text.specs.declared.token.Token.TheVariants.{At, White, Cdo, Cdc}
use Rattle.cv_component.specs.declared.sheet.Rule.{Rule}
use Rattle.cv_component.specs.declared.sheet.Rule.TheVariants as rule_kinds
use Rattle.cv_component.specs.Nesting.{completed}
use Rattle.cv_component.specs.TopLevel.{opens_curly, closes_curly, ends_prelude, top_length, begins, curly_length}
use Rattle.cv_component.specs.Items.{is_at}

-- what stands between the curly brackets of the block that begins here
unfoldable pub block_inner : List Token → List Token
block_inner tokens = completed (take (top_length closes_curly (drop 1 tokens)) (drop 1 tokens))

abbrev pub block_in : List Token → Option (List Token)
block_in tokens = if begins opens_curly tokens then Some (block_inner tokens) else None

-- a rule, from the token behind its name on
unfoldable pub at_rule : List ℕ → List Token → Rule
at_rule name tokens =
    let prelude = top_length ends_prelude tokens in
    rule_kinds.At name (completed (take prelude tokens)) (block_in (drop prelude tokens))

abbrev pub rule : List Token → Rule
rule (At name ∷ rest) = at_rule name rest
rule _ = rule_kinds.Other

-- how many tokens end a prelude: a block, or a semicolon if there is one
abbrev pub ending_length : List Token → ℕ
ending_length tokens = if begins opens_curly tokens then curly_length tokens else min 1 (length tokens)

-- how many tokens the rule takes that begins here
unfoldable pub rule_length : List Token → ℕ
rule_length tokens =
    let prelude = top_length ends_prelude tokens in
    let front = top_length opens_curly tokens in
    if is_at tokens then prelude + ending_length (drop prelude tokens) else front + curly_length (drop front tokens)

-- the tokens between rules
abbrev pub separates_rules : Token → Bool
separates_rules White = true
separates_rules Cdo = true
separates_rules Cdc = true
separates_rules _ = false

abbrev pub begins_rule : List Token → Bool
begins_rule [] = false
begins_rule (token ∷ rest) = not (separates_rules token)

abbrev pub rule_size : List Token → ℕ
rule_size tokens = if begins_rule tokens then rule_length tokens else 1

abbrev pub rule_at : List Token → List Rule
rule_at tokens = if begins_rule tokens then rule (take (rule_length tokens) tokens) ∷ [] else []

-- the rules of the tokens
abbrev pub rules : List Token → List Rule
rules = run_values rule_size rule_at
