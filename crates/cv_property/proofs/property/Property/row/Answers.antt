use Rattle.std.proofs.Common.{◌<◌, sym, subst}
use Rattle.cv_property.proofs.Rows.{number_below, at_number}
use Rattle.cv_property.proofs.property.Property.row.Goals as goal

pub row_at-requires : goal.row_at-requires
row_at-requires c = subst (λ n. n < 35) (sym c.number.ensures) (number_below c.args.self)

pub returns : goal.returns
returns c = at_number c.args.self c.number.result _ c.number.ensures c.row_at.ensures
