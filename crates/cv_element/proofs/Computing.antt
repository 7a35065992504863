-- What is read by a grammar may be kept.
use Rattle.std.proofs.Common.{◌≡◌, List, refl, sym, ◌∙◌, ap, subst}
use Rattle.cv_spec_text.specs.declared.token.Token.{Token}
use Rattle.cv_calc.specs.declared.context.Context.{Context}
use Rattle.cv_numeric.specs.declared.matched.Matched.{Matched}
use Rattle.cv_numeric.specs.declared.matched.Matched.TheVariants.{No, Out, Fit}
use Rattle.cv_numeric.specs.Matched.{mapped}
use Rattle.cv_value.specs.declared.typed.Typed.{Typed}
use Rattle.cv_value.specs.Kept.{MayBeKept}
use Rattle.cv_property.specs.declared.property.Property.{Property}
use Rattle.cv_property.specs.Computed.{computed_of}
use Rattle.cv_property.specs.Grammar.{matching_property}
use Rattle.cv_property_laws.specs.Keeping.{PropertiesMayBeKept}
use Rattle.cv_props.specs.Remembered.{IsMet}

mapped_fit : (f : Typed → Typed) (m : Matched Typed) (v : Typed) → mapped f m ≡ Fit v → (w : Typed) × (m ≡ Fit w) × (f w ≡ v)
mapped_fit f No v is = cc
mapped_fit f Out v is = cc
mapped_fit f (Fit w) v is = (w, refl, let both : Fit (f w) ≡ Fit v = is in cc)

pub computed_kept : PropertiesMayBeKept → (p : Property) (x : Context) (ts : List Token) (inherited : Typed) → MayBeKept inherited → (v : Typed) → mapped (computed_of p inherited) (matching_property p x ts) ≡ Fit v → MayBeKept v
computed_kept laws p x ts inherited kept v is =
    let found = mapped_fit (computed_of p inherited) (matching_property p x ts) v is in
    subst MayBeKept found.2 (laws.computed p x ts inherited found.0 kept found.1)

-- what is computed of the same list may be remembered
pub computed_met : PropertiesMayBeKept → (p : Property) (x : Context) (ts list : List Token) → ts ≡ list → (inherited : Typed) → MayBeKept inherited → (v : Typed) → mapped (computed_of p inherited) (matching_property p x ts) ≡ Fit v → IsMet p x list v
computed_met laws p x ts list same inherited kept v is = record {
  inherited = inherited;
  computed = sym (ap (λ (l : List Token). mapped (computed_of p inherited) (matching_property p x l)) same) ∙ is;
  kept = computed_kept laws p x ts inherited kept v is;
}
