-- What is remembered of a list: its computed value, whatever the property inherits.
use Rattle.std.specs.Prelude.{◌≡◌, Bool, true, false, List}
use Rattle.cv_spec_text.specs.declared.token.Token.{Token}
use Rattle.cv_calc.specs.declared.context.Context.{Context}
use Rattle.cv_numeric.specs.declared.matched.Matched.TheVariants.{Fit}
use Rattle.cv_numeric.specs.Matched.{mapped}
use Rattle.cv_value.specs.declared.typed.Typed.{Typed}
use Rattle.cv_value.specs.Kept.{MayBeKept}
use Rattle.cv_property.specs.declared.property.Property.{Property}
use Rattle.cv_property.specs.declared.property.Property.TheVariants as of
use Rattle.cv_property.specs.Computed.{computed_of}
use Rattle.cv_property.specs.Grammar.{matching_property}

-- The value is the computed value of the list, whatever the property inherits, and may be kept (CSS Cascade 4, "Computed Values").
pub record IsValueOf (property : Property) (x : Context) (list : List Token) (value : Typed) : Type 0 where
  pub computed : (inherited : Typed) → mapped (computed_of property inherited) (matching_property property x list) ≡ Fit value
  pub kept : MayBeKept value

-- The value is the computed value of the list, where the property inherits some value, and may be kept.
pub record IsMet (property : Property) (x : Context) (list : List Token) (value : Typed) : Type 0 where
  pub inherited : Typed
  pub computed : mapped (computed_of property inherited) (matching_property property x list) ≡ Fit value
  pub kept : MayBeKept value

-- of one property the computed value may be the inherited one (CSS Color 4, "The currentcolor Keyword")
abbrev pub takes_inherited : Property → Bool
takes_inherited of.Color = true
takes_inherited property = false
