-- Channels within their ranges (CSS Color 4, "The RGB functions: rgb() and rgba()"). Red, green and blue are rounded (CSS Color 4,
-- "Serializing sRGB values"); that the alpha stays exact is this project's own.
use Rattle.std.specs.Prelude.{ℕ, pos, unsigned_abs}
use Rattle.std.specs.Ordering.{ord_min, ord_max}
use Rattle.cv_spec_ratio.specs.Ratio.{Ratio, ratio}
use Rattle.cv_spec_ratio.specs.Order.{ratio_cmp}
use Rattle.cv_frac.specs.Rounded.{half_up}
use Rattle.cv_color.specs.declared.color.Color.{Color}
use Rattle.cv_color.specs.declared.color.Color.TheVariants.{Rgb}

-- the nearest fraction from 0 to a whole number
abbrev pub clamped : ℕ → Ratio → Ratio
clamped most v = ord_min ratio_cmp (ord_max ratio_cmp v (ratio (pos 0) 1)) (ratio (pos most) 1)

-- from 0 to 255, and then the nearest whole number, halves upwards
abbrev pub channel : Ratio → ℕ
channel v = unsigned_abs (half_up (clamped 255 v))

abbrev pub from_channels : Ratio → Ratio → Ratio → Ratio → Color
from_channels r g b a = Rgb (channel r) (channel g) (channel b) (clamped 1 a)
