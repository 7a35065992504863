use Rattle.std.proofs.Common.{◌≡◌, ◌∙◌, Err, ap, subst, sym}
use Rattle.std.specs.Prelude.{IfOk}
use Rattle.cv_property.specs.Grammar.{is_match}
use Rattle.cv_value.specs.Matching.{matching}
use Rattle.cv_props.specs.Registration.{viewport}
use Rattle.cv_map.proofs.value.is_match.Goals.{in-Ok, in-Err-Range, in-Err-Mismatch, in-Err-Memory}
use Rattle.cv_map.proofs.value.is_match.Goals as goal

pub returns : goal.returns
returns c =
    let same = ap (λ x. is_match (matching c.args.syntax.now x c.args.list.now)) (sym c.any_context.ensures) in
    elim c.match-match_syntax.branch [
      | in-Ok w ↦ subst (λ r. IfOk r (λ is. is ≡ is_match (matching c.args.syntax.now (viewport 0 0) c.args.list.now))) (sym w.result-is) (sym (same ∙ ap is_match w.in-Ok.ensures.ok))
      | in-Err-Range w ↦ subst (λ r. IfOk r (λ is. is ≡ is_match (matching c.args.syntax.now (viewport 0 0) c.args.list.now))) (sym w.result-is) (sym (same ∙ ap is_match (w.in-Err-Range.ensures.range (ap Err w.in-Err-Range.field-0-is))))
      | in-Err-Mismatch w ↦ subst (λ r. IfOk r (λ is. is ≡ is_match (matching c.args.syntax.now (viewport 0 0) c.args.list.now))) (sym w.result-is) (sym (same ∙ ap is_match (w.in-Err-Mismatch.ensures.mismatch (ap Err w.in-Err-Mismatch.field-0-is))))
      | in-Err-Memory w ↦ subst (λ r. IfOk r (λ is. is ≡ is_match (matching c.args.syntax.now (viewport 0 0) c.args.list.now))) (sym w.result-is) tt
    ]
