use Rattle.std.proofs.Common.{◌≡◌, take}
use Rattle.cv_map.proofs.map.copied.Given as goal

abbrev pub invariant-loop-place : goal.invariant-loop-place
invariant-loop-place l = l.all.items ≡ take l.place l.decls
