-- What a list is as a colour: a name, hexadecimal digits or a colour function (CSS Color 4, "The <color> syntax", "The RGB functions: rgb() and
-- rgba()"). That a colour can be out of range is this project's own, since its fractions are exact.
use Rattle.std.specs.Prelude.{ℕ, Bool, ◌+◌, ◌-◌, ◌==◌, ◌||◌, pos, List, [], ◌∷◌, length, map, take, drop, codes, Option, Some, None, if◌then◌else◌}
use Rattle.cv_spec_ratio.specs.Ratio.{Ratio, ratio}
use Rattle.cv_spec_text.specs.Keywords.{is_word}
use Rattle.cv_spec_text.specs.declared.token.Token.{Token}
use Rattle.cv_spec_text.specs.declared.token.Token.TheVariants.{Ident, Hash, Function}
use Rattle.cv_component.specs.Blocks.{matching}
use Rattle.cv_component.specs.Parts.{is_white, is_comma, is_solidus, parts, filled, trim}
use Rattle.cv_calc.specs.declared.context.Context.{Context}
use Rattle.cv_numeric.specs.declared.matched.Matched.{Matched}
use Rattle.cv_numeric.specs.declared.matched.Matched.TheVariants.{No, Fit}
use Rattle.cv_numeric.specs.Matched.{both, or_else}
use Rattle.cv_color.specs.declared.color.Color.{Color}
use Rattle.cv_color.specs.Names.{named}
use Rattle.cv_color.specs.Hex.{hex}
use Rattle.cv_color.specs.Channels.{from_channels}
use Rattle.cv_colorread.specs.declared.channels.Channels.{Channels}
use Rattle.cv_colorread.specs.declared.channels.Form.TheVariants.{Number, Percentage, Either}
use Rattle.cv_colorread.specs.Channels.{by_either, read_as, three}

-- ---- the arguments of a colour function

abbrev pub with_alpha : Channels → Ratio → Color
with_alpha c a = from_channels c.red c.green c.blue a

abbrev pub opaque : Ratio
opaque = ratio (pos 1) 1

-- the colour with no alpha written, or with one
abbrev pub without_alpha : Matched Channels → Matched Color
without_alpha channels = both with_alpha channels (Fit opaque)

abbrev pub alpha : Context → List Token → Matched Ratio
alpha x ts = by_either 1 x ts

-- three numbers, or three percentages
abbrev pub alike : Context → List (List Token) → Matched Channels
alike x channels = or_else (three (read_as Number x) channels) (three (read_as Percentage x) channels)

-- three numbers or percentages, between whitespace
abbrev pub mixed : Context → List Token → Matched Channels
mixed x ts = three (read_as Either x) (filled (parts is_white ts))

-- with commas, the legacy syntax: channels that are alike, and maybe an alpha
abbrev pub legacy : Context → List (List Token) → Matched Color
legacy x (r ∷ g ∷ b ∷ a ∷ []) = both with_alpha (alike x (r ∷ g ∷ b ∷ [])) (alpha x a)
legacy x channels = without_alpha (alike x channels)

-- with whitespace, the modern syntax: an alpha stands behind a `/`
abbrev pub modern : Context → List (List Token) → Matched Color
modern x (channels ∷ []) = without_alpha (mixed x channels)
modern x (channels ∷ a ∷ []) = both with_alpha (mixed x channels) (alpha x (trim a))
modern x _ = No

abbrev pub arguments : Context → List Token → Matched Color
arguments x ts = or_else (legacy x (map trim (parts is_comma ts))) (modern x (parts is_solidus ts))

-- ---- a colour function

-- `rgba` is another name of `rgb`
abbrev pub is_rgb : List ℕ → Bool
is_rgb name = is_word (codes "rgb") name || is_word (codes "rgba") name

-- what stands within the function that a list begins with: it ends with the list, or its closing bracket does
abbrev pub inside_by : List Token → Option ℕ → Option (List Token)
inside_by ts None = Some (drop 1 ts)
inside_by ts (Some end) = if end + 1 == length ts then Some (take (end - 1) (drop 1 ts)) else None

abbrev pub inside : List Token → Option (List Token)
inside ts = inside_by ts (matching ts 0)

abbrev pub arguments_in : Context → Option (List Token) → Matched Color
arguments_in x None = No
arguments_in x (Some ts) = arguments x ts

-- a list that begins with a function of this name
abbrev pub function : Context → List ℕ → List Token → Matched Color
function x name ts = if is_rgb name then arguments_in x (inside ts) else No

-- ---- a colour

abbrev pub fitting : Option Color → Matched Color
fitting None = No
fitting (Some c) = Fit c

unfoldable pub color : Context → List Token → Matched Color
color x (Ident name ∷ []) = fitting (named name)
color x (Hash digits id ∷ []) = fitting (hex digits)
color x (Function name ∷ ts) = function x name (Function name ∷ ts)
color x _ = No
