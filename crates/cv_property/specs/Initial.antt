-- The initial value that the table says, as a value (CSS Cascade 4, "Initial Values").
use Rattle.std.specs.Prelude.{pos}
use Rattle.cv_spec_ratio.specs.Ratio.{Ratio, ratio}
use Rattle.cv_color.specs.declared.color.Color.TheVariants.{Rgb}
use Rattle.cv_value.specs.declared.typed.Item.TheVariants as item_of
use Rattle.cv_value.specs.declared.typed.Typed.{Typed}
use Rattle.cv_value.specs.declared.typed.Typed.TheVariants.{One}
use Rattle.cv_property.specs.declared.table.Initial.{Initial}
use Rattle.cv_property.specs.declared.table.Initial.TheVariants.{Keyword, Px, Number, Integer, Black, Transparent}
use Rattle.cv_property.specs.Keywords.{keyword_text}

-- black with this alpha
abbrev pub shade : Ratio → Typed
shade a = One (item_of.Color (Rgb 0 0 0 a))

abbrev pub initial_value : Initial → Typed
initial_value (Keyword k) = One (item_of.Ident (keyword_text k))
initial_value (Px n) = One (item_of.Length (ratio (pos n) 1))
initial_value (Number n) = One (item_of.Number (ratio (pos n) 1))
initial_value (Integer n) = One (item_of.Integer n)
initial_value Black = shade (ratio (pos 1) 1)
initial_value Transparent = shade (ratio (pos 0) 1)
