use Rattle.cv_element.proofs.held.add_sizes_to.Given as goal

abbrev pub ghosts-held : goal.ghosts-held
ghosts-held a = record { name = a.blank.name; parts = a.blank.parts }
