use Rattle.std.proofs.Common.{◌≡◌, take}
use Rattle.std.specs.List.{list_any}
use Rattle.std.specs.Option.{option_copied}
use Rattle.cv_element.specs.Holding.{lends_font}
use Rattle.cv_element.proofs.held.some_lends.Given as goal

abbrev pub invariant-loop-place : goal.invariant-loop-place
invariant-loop-place l = l.has ≡ list_any (lends_font l.root l.registry l.decls (option_copied l.parent)) (take l.place l.names)
