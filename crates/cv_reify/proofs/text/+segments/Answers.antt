use Rattle.std.specs.Prelude.{None, Some}
use Rattle.std.proofs.Common.{sym, ◌∙◌, ap, ◌++◌, map, codes}
use Rattle.cv_var.specs.declared.segment.Segment.TheVariants.{Ref}
use Rattle.cv_reify.specs.Text.{name_text, segment_text, unparsed}
use Rattle.cv_reify.proofs.Texts.{two, four, segment-Ref, segment-Ref-fallback}
use Rattle.cv_reify.proofs.text.+segments.Goals as goal

pub push_segment-returns-in_ok-push-in-None : goal.push_segment-returns-in_ok-push-in-None
push_segment-returns-in_ok-push-in-None t c =
    two _ _ _ _ _ _ c.in_ok-push_reference-in-None.ensures c.in_ok-push-in-None.ensures.items
    (ap segment_text (c.in-Ref.is ∙ ap (Ref c.in-Ref.name) c.in-None.is) ∙ segment-Ref c.in-Ref.name)

pub push_segment-returns-in_ok-push-in-Some : goal.push_segment-returns-in_ok-push-in-Some
push_segment-returns-in_ok-push-in-Some t c =
    four _ _ _ _ _ _ _ _ _ _ c.in_ok-push_reference-in-Some.ensures c.in_ok-extend_from_slice-in-Some.ensures.items c.in_ok-push_unparsed-in-Some.ensures c.in_ok-push-in-Some.ensures.items
    (ap segment_text (c.in-Ref.is ∙ ap (Ref c.in-Ref.name) c.in-Some.is) ∙ segment-Ref-fallback c.in-Ref.name c.in-Some.segments
    ∙ ap (λ ss. codes "var(" ++ name_text c.in-Ref.name ++ codes ", " ++ unparsed (map segment_text ss) ++ codes ")") (sym c.as_slice-in-Some.ensures))
