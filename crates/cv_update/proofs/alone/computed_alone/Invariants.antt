use Rattle.cv_update.proofs.alone.computed_alone.Given as goal

abbrev pub ghosts-counting : goal.ghosts-counting
ghosts-counting a = record { name = a.blank.name; parts = a.blank.parts }
