use Rattle.cv_call_rows.proofs.cycles.only_nodes_between_which_edges_lead_both_ways.Given as goal

abbrev pub ghosts-flags : goal.ghosts-flags
ghosts-flags g a = record { name = a.blank.name; parts = a.blank.parts }
