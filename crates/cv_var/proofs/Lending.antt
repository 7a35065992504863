-- The part at a number is the flat piece of that number.
use Rattle.std.proofs.Common.{◌≡◌, ℕ, List, map, Option, Some, None, refl, sym, ◌∙◌, ap, subst}
use Rattle.std.specs.Prelude.{All, slice_get, option_map}
use Rattle.std.proofs.lemmas.Option.{slice_get-map, slice_get_within, get_or_from_slice_get}
use Rattle.cv_spec_text.specs.Splits.{IsSpelt}
use Rattle.cv_spec_text.specs.declared.token.Token.{Token as CssToken}
use Rattle.cv_var.specs.declared.place.Place.{Place}
use Rattle.cv_var.specs.Flat.{FlatPiece}
use Rattle.cv_var.specs.Places.{flat_at}

pub spelt_at : (tokens : List CssToken) (place : ℕ) (t : CssToken) → Some t ≡ slice_get tokens place → All IsSpelt tokens → IsSpelt t
spelt_at tokens place t is spelt =
    subst IsSpelt (get_or_from_slice_get tokens place t t (sym is)) (spelt place t (slice_get_within tokens place t (sym is)))

unwrapped : {X : Type 0} (a o : Option X) → Some a ≡ option_map Some o → a ≡ o
unwrapped a None is = absurd cc
unwrapped a (Some x) is = cc

none_mapped : {X Y : Type 0} (f : X → Y) (o : Option X) → None ≡ option_map f o → o ≡ None
none_mapped f None is = refl
none_mapped f (Some x) is = absurd cc

module _ (list : List CssToken) (places : List Place) (pieces : List FlatPiece) (number : ℕ) (spell : map (flat_at list) places ≡ map Some pieces) where
  both : option_map (flat_at list) (slice_get places number) ≡ option_map Some (slice_get pieces number)
  both = sym (slice_get-map (flat_at list) places number) ∙ ap (λ ps. slice_get ps number) spell ∙ slice_get-map Some pieces number

  pub lent_part : (place : Place) → Some place ≡ slice_get places number → flat_at list place ≡ slice_get pieces number
  lent_part place is = unwrapped (flat_at list place) (slice_get pieces number) (ap (option_map (flat_at list)) is ∙ both)

  pub lent_none : None ≡ slice_get places number → None ≡ slice_get pieces number
  lent_none is = sym (none_mapped Some (slice_get pieces number) (ap (option_map (flat_at list)) is ∙ both))
