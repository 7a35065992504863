-- The order of numbers in a text: by the bytes of their units' names. CSS Values and Units 4, "Serialization", sorts by names too, without
-- ASCII case; that `Q` stands before the small letters is this project's own.
use Rattle.std.specs.Prelude.{◌≡◌}
use Rattle.std.specs.Ordering.{nat_cmp}
use Rattle.std.specs.Cmp.Lexicographic.{slice_cmp}
use Rattle.cv_calc.specs.declared.unit.Unit as units
use Rattle.cv_calc.specs.Names.{unit_text, HasName}
use Rattle.cv_simplify.specs.Text.{unit_rank}

-- Two units that have a name are ranked as the bytes of their names are ordered.
abbrev pub RanksAreByteOrder : Type 0
RanksAreByteOrder = (u t : units.Unit) → HasName u → HasName t → nat_cmp (unit_rank u) (unit_rank t) ≡ slice_cmp nat_cmp (unit_text u) (unit_text t)
