use Rattle.std.proofs.Common.{◌<◌, drop, sym, arith, length-drop}
use Rattle.std.proofs.lemmas.List.{take_rest}
use Rattle.cv_component.proofs.Reading.{front}
use Rattle.cv_component.proofs.ItemSteps.{item_length-positive, items_skipped, items_read, items_end}
use Rattle.cv_component.proofs.items.declarations.Goals as goal
use Rattle.cv_component.proofs.items.declarations.Goals.{After-push}

pub items-preserved-then-separates : goal.items-preserved-then-separates
items-preserved-then-separates c =
    let is = front c.items.rest.now c.token-item.result c.in-len1-up.len_at_least c.token-item.is in
    record {
      items = rw (take_rest _ _) (items_skipped _ _ _ _ c.items.invariant.items is c.if-separates.ensures);
      within = rw (take_rest _ _) (omega (arith, length-drop 1 c.items.rest.now, c.items.invariant.within));
    }

-- the item takes something
some_taken : (c : After-push) → 0 < c.in_ok-size.size
some_taken c =
    let is = front c.items.rest.now c.token-item.result c.in-len1-up.len_at_least c.token-item.is in
    rw (c.in_ok-size.ensures.size, is) (item_length-positive c.token-item.result (drop 1 c.items.rest.now) (sym c.if-separates.ensures))

pub items-smaller : goal.items-smaller
items-smaller c =
    let some = some_taken (goal.at.items-smaller c).After-push in
    rw (take_rest _ _) (omega (arith, length-drop c.in_ok-size.size c.items.rest.now, c.in_ok-size.ensures.within))

pub items-preserved : goal.items-preserved
items-preserved c =
    let is = front c.items.rest.now c.token-item.result c.in-len1-up.len_at_least c.token-item.is in
    record {
      items = rw (take_rest _ _, c.in_ok-push.ensures.items) (items_read _ _ _ c.token-item.result _ _ c.items.invariant.items is c.if-separates.ensures c.in_ok-size.ensures.size c.in_ok-size.ensures.within c.in_ok-item.ensures);
      within = rw (take_rest _ _) (omega (arith, length-drop c.in_ok-size.size c.items.rest.now, c.items.invariant.within));
    }

pub returns : goal.returns
returns c = items_end _ _ _ c.items.invariant.items c.in_default.len_below
