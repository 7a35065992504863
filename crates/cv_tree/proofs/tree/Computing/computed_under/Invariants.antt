use Rattle.cv_tree.proofs.tree.Computing.computed_under.Given as goal

abbrev pub ghosts-computed_counting : goal.ghosts-computed_counting
ghosts-computed_counting a = record { name = a.blank.name; parts = a.blank.parts }
