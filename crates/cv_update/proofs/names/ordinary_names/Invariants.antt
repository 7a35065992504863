use Rattle.std.proofs.Common.{◌≡◌, All, map, take}
use Rattle.cv_property.specs.Table.{properties}
use Rattle.cv_valuation.specs.declared.key.Key.TheVariants.{Table}
use Rattle.cv_update.specs.Names.{IsNamed, IsSpelled, key_of}
use Rattle.cv_update.proofs.names.ordinary_names.Given as goal

abbrev pub invariant-loop-number : goal.invariant-loop-number
invariant-loop-number l = (map key_of l.all.items ≡ map Table (take l.number properties)) × All IsNamed l.all.items × All IsSpelled l.all.items
