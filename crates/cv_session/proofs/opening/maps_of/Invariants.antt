use Rattle.std.proofs.Common.{◌≡◌}
use Rattle.cv_session.proofs.opening.maps_of.Given as goal

abbrev pub invariant-loop-decls : goal.invariant-loop-decls
invariant-loop-decls l = l.maps.items ≡ l.yielded
