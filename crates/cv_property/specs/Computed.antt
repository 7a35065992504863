-- The computed value of what a list is as a value of a property (CSS Cascade 4, "Computed Values").
use Rattle.std.specs.Prelude.{◌≡◌, pos, true}
use Rattle.cv_spec_ratio.specs.Ratio.{Ratio, ratio}
use Rattle.cv_frac.specs.Bounded.{in_bounds}
use Rattle.cv_color.specs.declared.color.Color.TheVariants.{Current}
use Rattle.cv_color.specs.Channels.{clamped}
use Rattle.cv_colorread.specs.Channels.{hundredths}
use Rattle.cv_value.specs.declared.typed.Item.{Item}
use Rattle.cv_value.specs.declared.typed.Item.TheVariants.{Number, Percentage, Length, Ident, Color}
use Rattle.cv_value.specs.declared.typed.Typed.{Typed}
use Rattle.cv_value.specs.declared.typed.Typed.TheVariants.{One}
use Rattle.cv_property.specs.declared.property.Property.{Property}
use Rattle.cv_property.specs.declared.property.Property.TheVariants as of

-- the one keyword of `font-size`, `medium`, is 16px: that size is this project's own (CSS Fonts 4, "Absolute Size Keyword Mapping Table")
abbrev pub font_size_of : Item → Typed
font_size_of (Ident name) = One (Length (ratio (pos 16) 1))
font_size_of i = One i

-- `currentcolor` as the value of `color` is the inherited colour (CSS Color 4, "The currentcolor Keyword")
abbrev pub color_of : Typed → Item → Typed
color_of inherited (Color Current) = inherited
color_of inherited i = One i

-- a number from 0 to 1 (CSS Color 4, "Transparency: the opacity property")
abbrev pub within_one : Ratio → Typed
within_one v = One (Number (clamped 1 v))

abbrev pub opacity_of : Item → Typed
opacity_of (Number v) = within_one v
opacity_of (Percentage v) = within_one (hundredths 1 v)
opacity_of i = One i

abbrev pub computed_item : Property → Typed → Item → Typed
computed_item of.FontSize inherited i = font_size_of i
computed_item of.Color inherited i = color_of inherited i
computed_item of.Opacity inherited i = opacity_of i
computed_item p inherited i = One i

-- the computed value, where `inherited` is the value that the property inherits
unfoldable pub computed_of : Property → Typed → Typed → Typed
computed_of p inherited (One i) = computed_item p inherited i
computed_of p inherited v = v

-- ---- what a value of the property is like

-- the part of 1 that a percentage is, is in bounds
abbrev pub HasPortion : Item → Type 0
HasPortion (Percentage v) = in_bounds (hundredths 1 v) ≡ true
HasPortion i = Unit {0}

abbrev pub HasPortionOf : Property → Item → Type 0
HasPortionOf of.Opacity i = HasPortion i
HasPortionOf p i = Unit {0}

abbrev pub HasPortionIn : Property → Typed → Type 0
HasPortionIn p (One i) = HasPortionOf p i
HasPortionIn p v = Unit {0}
