-- The steps of the walk that gathers the parts of a list.
use Rattle.std.proofs.Common.{◌≡◌, ℕ, ◌+◌, ◌-◌, ◌<◌, ◌≤◌, List, [], ◌∷◌, ◌++◌, length, drop, map, Option, Some, None, refl, sym, ◌∙◌, ap, subst, append_assoc, append-nil, arith}
use Rattle.std.specs.Prelude.{option_map}
use Rattle.std.proofs.lemmas.List.{map-append, length-map}
use Rattle.cv_spec_text.specs.declared.token.Token.{Token as CssToken}
use Rattle.cv_var.specs.declared.place.Extent.{Extent}
use Rattle.cv_var.specs.declared.place.Found.{Found}
use Rattle.cv_var.specs.declared.place.Place.{Place}
use Rattle.cv_var.specs.declared.place.Place.TheVariants.{Token, Reference}
use Rattle.cv_var.specs.Flat.{FlatPiece, flat_token, flat_reference, flattened}
use Rattle.cv_var.specs.Places.{stretch, name_at, fallback_at, flat_at, IsWithin, moved, StandsAt}
use Rattle.cv_var.specs.References.{reference_at, function_size, first_piece, pieces_of}
use Rattle.cv_var.proofs.Stretches.{begins_with, drop_of_stretch, StandsAt-moved, length-stretch, name-within}
use Rattle.cv_var.proofs.Unfolding.{FallbackWithin, reference_at-within, pieces_of-more, pieces_of-nil}

-- the pieces of a list that begins with this token
pub first : (t : CssToken) (rest tokens : List CssToken) → tokens ≡ t ∷ rest → (found : Option (List ℕ × Option (List CssToken))) → reference_at tokens ≡ found → pieces_of tokens ≡ first_piece found t pieces_of rest (drop (function_size tokens) tokens)
first t rest tokens is found found_is =
    ap pieces_of is ∙ pieces_of-more t rest
    ∙ ap (λ f. first_piece f t pieces_of rest (drop (function_size (t ∷ rest)) (t ∷ rest))) (ap reference_at (sym is) ∙ found_is)
    ∙ ap (λ ts. first_piece found t pieces_of rest (drop (function_size ts) ts)) (sym is)

pub fallback-shorter : (t : CssToken) (rest tokens : List CssToken) → tokens ≡ t ∷ rest → (name : List ℕ) (fallback : List CssToken) → reference_at tokens ≡ Some (name, Some fallback) → length fallback < length tokens
fallback-shorter t rest tokens is name fallback found =
    let within : length fallback ≤ length rest = subst (FallbackWithin (length rest)) (ap reference_at (sym is) ∙ found) (reference_at-within t rest) in
    omega (arith, ap length is)

abbrev pub spelled : List CssToken → List (Option FlatPiece)
spelled tokens = map Some (flattened (pieces_of tokens))

pub parts_read : (whole : List CssToken) (all : List (Option FlatPiece)) (read more : List Place) (rest behind : List CssToken) → map (flat_at whole) read ++ spelled rest ≡ all → spelled rest ≡ map (flat_at whole) more ++ spelled behind → map (flat_at whole) (read ++ more) ++ spelled behind ≡ all
parts_read whole all read more rest behind was is =
    ap (λ ps. ps ++ spelled behind) (map-append (flat_at whole) read more)
    ∙ append_assoc (map (flat_at whole) read) (map (flat_at whole) more) (spelled behind)
    ∙ ap (λ ps. map (flat_at whole) read ++ ps) (sym is)
    ∙ was

pub parts_end : (whole : List CssToken) (all : List (Option FlatPiece)) (read : List Place) (rest : List CssToken) → map (flat_at whole) read ++ spelled rest ≡ all → length rest ≡ 0 → map (flat_at whole) read ≡ all
parts_end whole all read [] was none = sym (append-nil (map (flat_at whole) read)) ∙ ap (λ ps. map (flat_at whole) read ++ map Some (flattened ps)) (sym pieces_of-nil) ∙ was
parts_end whole all read (t ∷ rest) was none = absurd (omega arith)

module _ (tokens : List CssToken) (at end : ℕ) (some : at < end) (fits : end ≤ length tokens) where
  pub parts-token : reference_at (stretch tokens at end) ≡ None → spelled (stretch tokens at end) ≡ map (flat_at tokens) (Token at ∷ []) ++ spelled (stretch tokens (at + 1) end)
  parts-token none =
      let begins = begins_with tokens at end some fits in
      ap (λ ps. map Some (flattened ps)) (first begins.token (stretch tokens (at + 1) end) (stretch tokens at end) begins.is None none)
      ∙ ap (λ o. option_map flat_token o ∷ spelled (stretch tokens (at + 1) end)) (sym begins.at)

  pub behind : drop (function_size (stretch tokens at end)) (stretch tokens at end) ≡ stretch tokens (at + function_size (stretch tokens at end)) end
  behind = drop_of_stretch tokens at end (function_size (stretch tokens at end))

  pub parts-bare : (name : List ℕ) (place : ℕ) → name_at tokens place ≡ Some name → reference_at (stretch tokens at end) ≡ Some (name, None) → spelled (stretch tokens at end) ≡ map (flat_at tokens) (Reference place None ∷ []) ++ spelled (stretch tokens (at + function_size (stretch tokens at end)) end)
  parts-bare name place named found =
      let begins = begins_with tokens at end some fits in
      ap (λ ps. map Some (flattened ps)) (first begins.token (stretch tokens (at + 1) end) (stretch tokens at end) begins.is (Some (name, None)) found)
      ∙ ap (λ o. option_map (λ n. flat_reference n None) o ∷ spelled (drop (function_size (stretch tokens at end)) (stretch tokens at end))) (sym named)
      ∙ ap (λ ts. map (flat_at tokens) (Reference place None ∷ []) ++ spelled ts) behind

  pub parts-fallback : (name : List ℕ) (place : ℕ) (fallback : List CssToken) (inner : List Place) → name_at tokens place ≡ Some name → reference_at (stretch tokens at end) ≡ Some (name, Some fallback) → map (flat_at tokens) inner ≡ spelled fallback → spelled (stretch tokens at end) ≡ map (flat_at tokens) (Reference place (Some (length inner)) ∷ inner) ++ spelled (stretch tokens (at + function_size (stretch tokens at end)) end)
  parts-fallback name place fallback inner named found inner_is =
      let begins = begins_with tokens at end some fits in
      let count : length (flattened (pieces_of fallback)) ≡ length inner =
      sym (length-map (flattened (pieces_of fallback)) Some) ∙ ap length (sym inner_is) ∙ length-map inner (flat_at tokens) in
      ap (λ ps. map Some (flattened ps)) (first begins.token (stretch tokens (at + 1) end) (stretch tokens at end) begins.is (Some (name, Some fallback)) found)
      ∙ ap (λ ps. Some (flat_reference name (Some (length (flattened (pieces_of fallback))))) ∷ ps) (map-append Some (flattened (pieces_of fallback)) (flattened (pieces_of (drop (function_size (stretch tokens at end)) (stretch tokens at end)))))
      ∙ ap (λ n. Some (flat_reference name (Some n)) ∷ spelled fallback ++ spelled (drop (function_size (stretch tokens at end)) (stretch tokens at end))) count
      ∙ ap (λ o. option_map (λ n. flat_reference n (Some (length inner))) o ∷ spelled fallback ++ spelled (drop (function_size (stretch tokens at end)) (stretch tokens at end))) (sym named)
      ∙ ap (λ ps. option_map (λ n. flat_reference n (Some (length inner))) (name_at tokens place) ∷ ps ++ spelled (drop (function_size (stretch tokens at end)) (stretch tokens at end))) (sym inner_is)
      ∙ ap (λ ts. map (flat_at tokens) (Reference place (Some (length inner)) ∷ inner) ++ spelled ts) behind

  module _ (found : Found) (stands : StandsAt (stretch tokens at end) found (reference_at (stretch tokens at end))) where
    abbrev pub placed : StandsAt tokens (record { name = found.name + at; fallback = moved at found.fallback }) (reference_at (stretch tokens at end))
    placed = StandsAt-moved tokens at end found (record { name = found.name + at; fallback = moved at found.fallback }) (reference_at (stretch tokens at end)) (omega arith) refl refl stands

    pub name-fits : found.name + at < length tokens
    name-fits = name-within tokens (found.name + at) placed.name placed.named

    pub step-bare : found.fallback ≡ None → spelled (stretch tokens at end) ≡ map (flat_at tokens) (Reference (found.name + at) None ∷ []) ++ spelled (stretch tokens (at + function_size (stretch tokens at end)) end)
    step-bare none = parts-bare placed.name (found.name + at) placed.named (placed.is ∙ ap (λ f. Some (placed.name, fallback_at tokens (moved at f))) none)

    module _ (extent : Extent) (some_fallback : found.fallback ≡ Some extent) where
      pub step-fallback : (inner : List Place) → map (flat_at tokens) inner ≡ spelled (stretch tokens (extent.start + at) (extent.end + at)) → spelled (stretch tokens at end) ≡ map (flat_at tokens) (Reference (found.name + at) (Some (length inner)) ∷ inner) ++ spelled (stretch tokens (at + function_size (stretch tokens at end)) end)
      step-fallback inner inner_is = parts-fallback placed.name (found.name + at) (stretch tokens (extent.start + at) (extent.end + at)) inner placed.named (placed.is ∙ ap (λ f. Some (placed.name, fallback_at tokens (moved at f))) some_fallback) inner_is

      pub fallback-within : (extent.start ≤ extent.end) × (extent.end + at ≤ length tokens)
      fallback-within =
          let inside = subst (λ f. IsWithin (length tokens) (moved at f)) some_fallback placed.within in
          (omega (arith, inside.0), inside.1)

      pub fallback-smaller : extent.end + at - (extent.start + at) < end - at
      fallback-smaller =
          let begins = begins_with tokens at end some fits in
          let inside = subst (λ f. IsWithin (length tokens) (moved at f)) some_fallback placed.within in
          let shorter = fallback-shorter begins.token (stretch tokens (at + 1) end) (stretch tokens at end) begins.is placed.name (stretch tokens (extent.start + at) (extent.end + at)) (placed.is ∙ ap (λ f. Some (placed.name, fallback_at tokens (moved at f))) some_fallback) in
          omega (arith, shorter, length-stretch tokens (extent.start + at) (extent.end + at) inside.0 inside.1, length-stretch tokens at end (omega arith) fits)
