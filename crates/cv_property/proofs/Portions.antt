-- The part of 1 that a percentage as an opacity is, is in bounds.
use Rattle.std.proofs.Common.{◌≡◌, Bool, true, false, List, refl}
use Rattle.std.specs.Prelude.{if◌then◌else◌}
use Rattle.cv_spec_ratio.specs.Ratio.{Ratio}
use Rattle.cv_frac.specs.Bounded.{in_bounds}
use Rattle.cv_spec_text.specs.declared.token.Token.{Token}
use Rattle.cv_calc.specs.declared.context.Context.{Context}
use Rattle.cv_numeric.specs.declared.matched.Matched.{Matched}
use Rattle.cv_numeric.specs.declared.matched.Matched.TheVariants.{No, Out, Fit}
use Rattle.cv_numeric.specs.declared.quantity.Range.TheVariants.{All}
use Rattle.cv_numeric.specs.Matched.{IfFit}
use Rattle.cv_numeric.specs.Numeric as numeric
use Rattle.cv_numeric.specs.Numeric.{with_basis}
use Rattle.cv_colorread.specs.Channels.{hundredths}
use Rattle.cv_value.specs.declared.typed.Item.TheVariants as item_of
use Rattle.cv_value.specs.declared.typed.Typed.{Typed}
use Rattle.cv_value.specs.declared.typed.Typed.TheVariants.{One, Spaces, Commas}
use Rattle.cv_property.specs.declared.property.Property.TheVariants as of
use Rattle.cv_property.specs.Table.{row}
use Rattle.cv_property.specs.Grammar.{counted_portion, basis_of, matching_property}
use Rattle.cv_property.specs.Computed.{HasPortion, HasPortionIn}
use Rattle.cv_property.specs.Portions.{PortionsAreCounted}
use Rattle.cv_property.proofs.Grammars.{OfItem, if_mapped, if_matching, fit_is}

counted_or : (b : Bool) (v : Ratio) → in_bounds (hundredths 1 v) ≡ b → IfFit HasPortion (if b then Fit (item_of.Percentage v) else Out)
counted_or true v is = is
counted_or false v is = tt

counted : (m : Matched Ratio) → IfFit HasPortion (counted_portion m)
counted No = tt
counted Out = tt
counted (Fit v) = counted_or (in_bounds (hundredths 1 v)) v refl

of_opacity : (x : Context) (ts : List Token) → IfFit (OfItem HasPortion) (matching_property of.Opacity x ts)
of_opacity x ts =
    let y : Context = with_basis (basis_of (row of.Opacity).percentages x) x in
    if_matching HasPortion of.Opacity x ts (if_mapped HasPortion item_of.Number (numeric.number All y ts) (λ v. tt), (counted (numeric.percentage y ts), tt))

in_value : (v : Typed) → OfItem HasPortion v → HasPortionIn of.Opacity v
in_value (One i) h = h
in_value (Spaces is) h = tt
in_value (Commas is) h = tt

pub portions_are_counted : PortionsAreCounted
portions_are_counted of.Opacity x ts v fits = in_value v (fit_is (OfItem HasPortion) (matching_property of.Opacity x ts) v fits (of_opacity x ts))
portions_are_counted p x ts (One i) fits = tt
portions_are_counted p x ts (Spaces is) fits = tt
portions_are_counted p x ts (Commas is) fits = tt
