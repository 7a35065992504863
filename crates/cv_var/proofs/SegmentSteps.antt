-- The steps of the walk that cuts a list into texts and references.
use Rattle.std.proofs.Common.{◌≡◌, ℕ, ◌+◌, ◌<◌, ◌≤◌, List, [], ◌∷◌, ◌++◌, length, Option, Some, None, refl, sym, ◌∙◌, ap, append_assoc, arith}
use Rattle.std.specs.Prelude.{slice_get}
use Rattle.cv_spec_text.specs.declared.token.Token.{Token as CssToken}
use Rattle.cv_var.specs.declared.place.Extent.{Extent}
use Rattle.cv_var.specs.declared.place.Found.{Found}
use Rattle.cv_var.specs.declared.segment.Segment.{Segment}
use Rattle.cv_var.specs.declared.segment.Segment.TheVariants.{Ref}
use Rattle.cv_var.specs.Places.{stretch, fallback_at, moved, StandsAt}
use Rattle.cv_var.specs.References.{reference_at, function_size, pieces_of}
use Rattle.cv_var.specs.Segments.{texted, segments_within, segments_of}
use Rattle.cv_var.proofs.Stretches.{begins_with}
use Rattle.cv_var.proofs.PartSteps.{first, placed, behind}
use Rattle.cv_var.proofs.Unfolding.{pieces_of-nil}

texted-is : (text : List CssToken) (segments : List Segment) → texted text segments ≡ texted text [] ++ segments
texted-is [] segments = refl
texted-is (t ∷ ts) segments = refl

-- a text and a reference are added
pub added : (all : List Segment) (text : List CssToken) (reference : Segment) (more : List Segment) → ((all ++ texted text []) ++ reference ∷ []) ++ more ≡ all ++ texted text (reference ∷ more)
added all text reference more =
    append_assoc (all ++ texted text []) (reference ∷ []) more
    ∙ append_assoc all (texted text []) (reference ∷ more)
    ∙ ap (λ ss. all ++ ss) (sym (texted-is text (reference ∷ more)))

pub segments_end : (all whole : List Segment) (text rest : List CssToken) → all ++ segments_within text (pieces_of rest) ≡ whole → length rest ≡ 0 → all ++ texted text [] ≡ whole
segments_end all whole text [] was none = ap (λ ps. all ++ segments_within text ps) (sym pieces_of-nil) ∙ was
segments_end all whole text (t ∷ rest) was none = absurd (omega arith)

module _ (tokens : List CssToken) (at end : ℕ) (some : at < end) (fits : end ≤ length tokens) where
  pub segments-token : (text : List CssToken) (t : CssToken) → slice_get tokens at ≡ Some t → reference_at (stretch tokens at end) ≡ None → segments_within text (pieces_of (stretch tokens at end)) ≡ segments_within (text ++ t ∷ []) (pieces_of (stretch tokens (at + 1) end))
  segments-token text t is none =
      let begins = begins_with tokens at end some fits in
      let begins_at = begins.at in
      let same : begins.token ≡ t = cc in
      ap (segments_within text) (first begins.token (stretch tokens (at + 1) end) (stretch tokens at end) begins.is None none)
      ∙ ap (λ x. segments_within (text ++ x ∷ []) (pieces_of (stretch tokens (at + 1) end))) same

  -- the segments of a fallback, given where it stands
  abbrev pub inner : Option Extent → Option (List Segment)
  inner None = None
  inner (Some extent) = Some (segments_of (pieces_of (stretch tokens (extent.start + at) (extent.end + at))))

  module _ (found : Found) (stands : StandsAt (stretch tokens at end) found (reference_at (stretch tokens at end))) (text : List CssToken) where
    by_fallback : (fallback : Option Extent) → found.fallback ≡ fallback → segments_within text (pieces_of (stretch tokens at end)) ≡ texted text (Ref (placed tokens at end some fits found stands).name (inner fallback) ∷ segments_within [] (pieces_of (stretch tokens (at + function_size (stretch tokens at end)) end)))
    by_fallback None none =
        let begins = begins_with tokens at end some fits in
        let there = placed tokens at end some fits found stands in
        ap (segments_within text) (first begins.token (stretch tokens (at + 1) end) (stretch tokens at end) begins.is (Some (there.name, None)) (there.is ∙ ap (λ f. Some (there.name, fallback_at tokens (moved at f))) none))
        ∙ ap (λ ts. texted text (Ref there.name None ∷ segments_within [] (pieces_of ts))) (behind tokens at end some fits)
    by_fallback (Some extent) is =
        let begins = begins_with tokens at end some fits in
        let there = placed tokens at end some fits found stands in
        ap (segments_within text) (first begins.token (stretch tokens (at + 1) end) (stretch tokens at end) begins.is (Some (there.name, Some (stretch tokens (extent.start + at) (extent.end + at)))) (there.is ∙ ap (λ f. Some (there.name, fallback_at tokens (moved at f))) is))
        ∙ ap (λ ts. texted text (Ref there.name (inner (Some extent)) ∷ segments_within [] (pieces_of ts))) (behind tokens at end some fits)

    pub segments-reference : (fallback : Option (List Segment)) → fallback ≡ inner found.fallback → segments_within text (pieces_of (stretch tokens at end)) ≡ texted text (Ref (placed tokens at end some fits found stands).name fallback ∷ segments_within [] (pieces_of (stretch tokens (at + function_size (stretch tokens at end)) end)))
    segments-reference fallback is =
        by_fallback found.fallback refl
        ∙ ap (λ f. texted text (Ref (placed tokens at end some fits found stands).name f ∷ segments_within [] (pieces_of (stretch tokens (at + function_size (stretch tokens at end)) end)))) (sym is)
