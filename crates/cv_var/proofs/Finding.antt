-- A reference that is found stands at the places that are told.
use Rattle.std.proofs.Common.{◌≡◌, ℕ, ◌+◌, ◌-◌, ◌≤◌, List, [], ◌∷◌, length, drop, Option, Some, None, refl, sym, ◌∙◌, ap, subst, length-drop, arith}
use Rattle.std.specs.Prelude.{true}
use Rattle.std.proofs.lemmas.List.{drop-drop}
use Rattle.cv_spec_text.specs.declared.token.Token.{Token}
use Rattle.cv_component.specs.Blocks.{matching}
use Rattle.cv_component.specs.TopLevel.{trim_front}
use Rattle.cv_var.specs.declared.place.Extent.{Extent}
use Rattle.cv_var.specs.declared.place.Found.{Found}
use Rattle.cv_var.specs.References.{name_in, fallback_in, named_fallback_in, reference_in, inner_to, begins_var, reference_at}
use Rattle.cv_var.specs.Places.{stretch, name_of, name_at, fallback_at, IsWithin, moved, StandsAt}
use Rattle.cv_var.proofs.Stretches.{slice_get-drop, fallback_at-stretch, IsWithin-moved, StandsAt-moved, drop-stretch}

-- the same suffix, by its length
pub suffix : {X : Type 0} (whole middle rest : List X) → middle ≡ drop (length whole - length middle) whole → length middle ≤ length whole → rest ≡ drop (length middle - length rest) middle → length rest ≤ length middle → rest ≡ drop (length whole - length rest) whole
suffix whole middle rest middle_is middle_fits rest_is rest_fits =
    let place : length whole - length middle + (length middle - length rest) ≡ length whole - length rest = omega arith in
    rest_is
    ∙ ap (drop (length middle - length rest)) middle_is
    ∙ drop-drop (length middle - length rest) (length whole - length middle) whole
    ∙ ap (λ k. drop k whole) place

-- all but the first
pub all_but_first : {X : Type 0} (whole : List X) → 1 ≤ length whole → drop 1 whole ≡ drop (length whole - length (drop 1 whole)) whole
all_but_first whole some =
    let size = length-drop 1 whole in
    let place : 1 ≡ length whole - length (drop 1 whole) = omega arith in
    ap (λ k. drop k whole) place

module _ (inner front rest : List Token) (name : List ℕ) (fallback : Option Extent) where
  pub StandsAt-inner : front ≡ trim_front inner → front ≡ drop (length inner - length front) inner → length front ≤ length inner → name_in front ≡ Some (name, rest) → name_at front 0 ≡ Some name → rest ≡ drop (length front - length rest) front → length rest ≤ length front → fallback_in name rest ≡ Some (name, fallback_at rest fallback) → IsWithin (length rest) fallback → StandsAt inner (record { name = length inner - length front; fallback = moved (length inner - length rest) fallback }) (reference_in inner)
  unfolding reference_in
  StandsAt-inner front_trimmed front_is front_fits name_is named rest_is rest_fits found within =
      let place : length inner - length front ≡ length inner - length front + 0 = omega arith in
      let there : rest ≡ stretch inner (length inner - length rest) (length inner) = suffix inner front rest front_is front_fits rest_is rest_fits ∙ drop-stretch inner (length inner - length rest) in
      record {
        name = name;
        named = ap (name_at inner) place ∙ ap name_of (sym (slice_get-drop (length inner - length front) inner 0)) ∙ ap (λ f. name_at f 0) (sym front_is) ∙ named;
        is =
            ap (λ f. named_fallback_in (name_in f)) (sym front_trimmed)
            ∙ ap named_fallback_in name_is
            ∙ found
            ∙ ap (λ f. Some (name, f)) (ap (λ r. fallback_at r fallback) there ∙ fallback_at-stretch inner (length inner - length rest) (length inner) fallback (subst (λ r. IsWithin (length r) fallback) there within));
        within = IsWithin-moved inner (length inner - length rest) (length inner) fallback (omega arith) (subst (λ r. IsWithin (length r) fallback) there within);
      }

-- the tokens between the brackets are a stretch of the whole
inner_to-stretch : (tokens : List Token) (end : Option ℕ) → (b : ℕ) × (inner_to tokens end ≡ stretch tokens 1 b)
inner_to-stretch tokens None = (length tokens, drop-stretch tokens 1)
inner_to-stretch tokens (Some end) = (end, refl)

pub begins-some : (tokens : List Token) → begins_var tokens ≡ true → 1 ≤ length tokens
begins-some [] begins = absurd cc
begins-some (t ∷ rest) begins = omega arith

module _ (tokens inner : List Token) (found new : Found) where
  -- the reference between the brackets is that of the function
  pub StandsAt-function : begins_var tokens ≡ true → inner ≡ inner_to tokens (matching tokens 0) → StandsAt inner found (reference_in inner) → new.name ≡ found.name + 1 → new.fallback ≡ moved 1 found.fallback → StandsAt tokens new (reference_at tokens)
  StandsAt-function begins inner_is stands name_is fallback_is =
      let inside = inner_to-stretch tokens (matching tokens 0) in
      let at : reference_at tokens ≡ reference_in inner = rw begins (ap reference_in (sym inner_is)) in
      StandsAt-moved tokens 1 inside.0 found new (reference_at tokens) (begins-some tokens begins) name_is fallback_is
      (subst (λ r. StandsAt (stretch tokens 1 inside.0) found r) (sym at) (subst (λ i. StandsAt i found (reference_in inner)) (inner_is ∙ inside.1) stands))
