use Rattle.cv_cycle.proofs.walk.Walk.close.Goals as goal

pub returns : goal.returns
returns c = record { between = _; writes = c.write.ensures; cuts = c.cut.ensures }
