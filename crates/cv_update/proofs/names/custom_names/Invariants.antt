use Rattle.std.proofs.Common.{◌≡◌, All, map, take}
use Rattle.cv_valuation.specs.declared.key.Key.TheVariants.{Custom}
use Rattle.cv_update.specs.Names.{IsNamed, IsSpelled, key_of}
use Rattle.cv_update.proofs.names.custom_names.Given as goal

abbrev pub invariant-loop-name : goal.invariant-loop-name
invariant-loop-name l = (map key_of l.all.items ≡ map Custom (take l.name-index l.custom)) × All IsNamed l.all.items × All IsSpelled l.all.items
