use Rattle.std.proofs.Common.{◌<◌, drop, sym, arith, length-drop}
use Rattle.std.proofs.lemmas.List.{take_rest}
use Rattle.cv_component.proofs.Reading.{front}
use Rattle.cv_component.proofs.RuleSteps.{rule_length-positive, rules_skipped, rules_read, rules_end}
use Rattle.cv_component.proofs.sheet.rules.Goals as goal
use Rattle.cv_component.proofs.sheet.rules.Goals.{After-push}

pub rules-preserved-then-separates_rules : goal.rules-preserved-then-separates_rules
rules-preserved-then-separates_rules c =
    let is = front c.rules.rest.now c.token-item.result c.in-len1-up.len_at_least c.token-item.is in
    record {
      rules = rw (take_rest _ _) (rules_skipped _ _ _ _ c.rules.invariant.rules is c.if-separates_rules.ensures);
      within = rw (take_rest _ _) (omega (arith, length-drop 1 c.rules.rest.now, c.rules.invariant.within));
    }

-- the item takes something
some_taken : (c : After-push) → 0 < c.in_ok-size.size
some_taken c =
    let is = front c.rules.rest.now c.token-item.result c.in-len1-up.len_at_least c.token-item.is in
    rw (c.in_ok-size.ensures.size, is) (rule_length-positive c.token-item.result (drop 1 c.rules.rest.now) (sym c.if-separates_rules.ensures))

pub rules-smaller : goal.rules-smaller
rules-smaller c =
    let some = some_taken (goal.at.rules-smaller c).After-push in
    rw (take_rest _ _) (omega (arith, length-drop c.in_ok-size.size c.rules.rest.now, c.in_ok-size.ensures.within))

pub rules-preserved : goal.rules-preserved
rules-preserved c =
    let is = front c.rules.rest.now c.token-item.result c.in-len1-up.len_at_least c.token-item.is in
    record {
      rules = rw (take_rest _ _, c.in_ok-push.ensures.items) (rules_read _ _ _ c.token-item.result _ _ c.rules.invariant.rules is c.if-separates_rules.ensures c.in_ok-size.ensures.size c.in_ok-size.ensures.within c.in_ok-read_rule.ensures);
      within = rw (take_rest _ _) (omega (arith, length-drop c.in_ok-size.size c.rules.rest.now, c.rules.invariant.within));
    }

pub returns : goal.returns
returns c = rules_end _ _ _ c.rules.invariant.rules c.in_default.len_below
