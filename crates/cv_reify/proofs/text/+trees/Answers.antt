use Rattle.std.proofs.Common.{◌∙◌, ap}
use Rattle.cv_reify.specs.Text.{tree_text}
use Rattle.cv_reify.proofs.Texts.{four, clamp_is}
use Rattle.cv_reify.proofs.text.+trees.Goals as goal

pub push_tree-returns-in_ok-push-in-Clamp : goal.push_tree-returns-in_ok-push-in-Clamp
push_tree-returns-in_ok-push-in-Clamp t c =
    four _ _ _ _ _ _ _ _ _ _ c.in_ok-push_behind-in-Clamp.ensures c.in_ok-push_behind-in-Clamp-2.ensures c.in_ok-push_behind-in-Clamp-3.ensures c.in_ok-push-in-Clamp.ensures.items
    (ap tree_text c.in-Clamp.is ∙ clamp_is c.in-Clamp.low c.in-Clamp.middle c.in-Clamp.high c.get-in-Clamp.result.now c.get-in-Clamp-2.result.now c.get-in-Clamp-3.result.now c.get-in-Clamp.ensures c.get-in-Clamp-2.ensures c.get-in-Clamp-3.ensures)
