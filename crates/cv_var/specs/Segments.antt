-- A list as texts and references, each reference with the segments of its fallback.
use Rattle.std.specs.Prelude.{ℕ, List, [], ◌∷◌, ◌++◌, Some, None}
use Rattle.cv_spec_text.specs.declared.token.Token.{Token as CssToken}
use Rattle.cv_spec_element.specs.Pieces.{Pieces, finish, token, reference, reference_or}
use Rattle.cv_var.specs.declared.segment.Segment.{Segment}
use Rattle.cv_var.specs.declared.segment.Segment.TheVariants.{Text, Ref}

-- tokens in front of segments
abbrev pub texted : List CssToken → List Segment → List Segment
texted [] segments = segments
texted (t ∷ ts) segments = Text (t ∷ ts) ∷ segments

-- the segments of the pieces behind this text
abbrev pub segments_within : List CssToken → Pieces (List ℕ) CssToken → List Segment
segments_within text finish = texted text []
segments_within text (token t rest) = segments_within (text ++ t ∷ []) rest
segments_within text (reference n rest) = texted text (Ref n None ∷ segments_within [] rest)
segments_within text (reference_or n fallback rest) = texted text (Ref n (Some (segments_within [] fallback)) ∷ segments_within [] rest)

abbrev pub segments_of : Pieces (List ℕ) CssToken → List Segment
segments_of pieces = segments_within [] pieces
