use Rattle.std.specs.Prelude.{fold, Ok}
use Rattle.std.proofs.Common.{◌≡◌, drop}
use Rattle.cv_om.specs.Choice.{choice_of}
use Rattle.cv_om.specs.SumValue.{chosen_next}
use Rattle.cv_om.proofs.choices.chosen_among.Given as goal

abbrev pub invariant-loop-row : goal.invariant-loop-row
invariant-loop-row l = fold (chosen_next (choice_of l.choice)) (Ok l.item) (drop l.row-index l.rows) ≡ fold (chosen_next (choice_of l.choice)) (Ok l.fn.first) l.rows
