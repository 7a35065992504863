use Rattle.cv_call_rows.proofs.cycles.a_ring_of_a_million.Given as goal

abbrev pub ghosts-count_cyclic : goal.ghosts-count_cyclic
ghosts-count_cyclic g a = record { name = a.blank.name; parts = a.blank.parts }
