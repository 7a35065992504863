use Rattle.cv_element.specs.Starting.{AreReset}
use Rattle.cv_element.proofs.starting.reset_names.Given as goal

abbrev pub invariant-loop-place : goal.invariant-loop-place
invariant-loop-place l = AreReset l.registry l.all l.place l.initial.values l.values
