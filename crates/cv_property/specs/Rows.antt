-- What a row of the code says.
use Rattle.cv_property.specs.declared.property.Property.{Property}
use Rattle.cv_property.specs.declared.table.Row.{Row}
use Rattle.cv_property.specs.Table.{Entry}

abbrev pub entry_of : Row → Property × Entry
entry_of r = (r.property, record { name = r.name.now; inherits = r.inherits; initial = r.initial; grammar = r.grammar.now; percentages = r.percentages })
