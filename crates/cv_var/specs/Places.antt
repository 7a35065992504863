-- What is found in a list, as places in it.
use Rattle.std.specs.Prelude.{◌≡◌, ◌≤◌, ℕ, ◌-◌, ◌+◌, List, length, take, drop, slice_get, Option, Some, None, option_map, map, true, false}
use Rattle.cv_spec_text.specs.declared.token.Token.{Token}
use Rattle.cv_spec_text.specs.declared.token.Token.TheVariants.{Ident}
use Rattle.cv_var.specs.References.{Reference, has_var, pieces_of}
use Rattle.cv_var.specs.Flat.{FlatPiece, flat_token, flat_reference, flattened}
use Rattle.cv_var.specs.declared.place.Extent.{Extent}
use Rattle.cv_var.specs.declared.place.Found.{Found}
use Rattle.cv_var.specs.declared.place.Place.{Place}
use Rattle.cv_var.specs.declared.place.Place.TheVariants as place

-- the tokens from one place to another
abbrev pub stretch : List Token → ℕ → ℕ → List Token
stretch tokens start end = take (end - start) (drop start tokens)

-- the name that stands at a place
abbrev pub name_of : Option Token → Option (List ℕ)
name_of (Some (Ident name)) = Some name
name_of _ = None

abbrev pub name_at : List Token → ℕ → Option (List ℕ)
name_at tokens place = name_of (slice_get tokens place)

abbrev pub fallback_at : List Token → Option Extent → Option (List Token)
fallback_at tokens None = None
fallback_at tokens (Some extent) = Some (stretch tokens extent.start extent.end)

abbrev pub IsWithin : ℕ → Option Extent → Type 0
IsWithin size None = Unit {0}
IsWithin size (Some extent) = (extent.start ≤ extent.end) × (extent.end ≤ size)

-- the same tokens in a list that has so many more in front
abbrev pub moved : ℕ → Option Extent → Option Extent
moved by None = None
moved by (Some extent) = Some (record { start = extent.start + by; end = extent.end + by })

-- the reference stands at these places of the list
pub record StandsAt (tokens : List Token) (found : Found) (reference : Option Reference) : Type 0 where
  pub name : List ℕ
  pub named : name_at tokens found.name ≡ Some name
  pub is : reference ≡ Some (name, fallback_at tokens found.fallback)
  pub within : IsWithin (length tokens) found.fallback

-- the flat piece that a place stands for
abbrev pub flat_at : List Token → Place → Option FlatPiece
flat_at tokens (place.Token at) = option_map flat_token (slice_get tokens at)
flat_at tokens (place.Reference at fallback) = option_map (λ name. flat_reference name fallback) (name_at tokens at)

-- what is kept of a list's parts: nothing where it has no `var()`, else the place of each
abbrev pub AreParts : List Token → Option (List Place) → Type 0
AreParts tokens None = has_var tokens ≡ false
AreParts tokens (Some places) = (has_var tokens ≡ true) × (map (flat_at tokens) places ≡ map Some (flattened (pieces_of tokens)))
