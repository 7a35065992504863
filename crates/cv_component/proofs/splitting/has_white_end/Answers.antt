use Rattle.std.proofs.Common.{◌≡◌, ◌↔◌, [], sym, ◌∙◌}
use Rattle.std.proofs.lemmas.Result.{IfOk-weaker}
use Rattle.std.specs.Prelude.{IsTrue}
use Rattle.cv_component.specs.Nesting.{nesting_past}
use Rattle.cv_component.specs.Parts.{has_white_end}
use Rattle.cv_component.proofs.Ends.{white_end, full_end}
use Rattle.cv_component.proofs.splitting.has_white_end.Goals as goal

pub returns-then-ends_white : goal.returns-then-ends_white
returns-then-ends_white c =
    IfOk-weaker c.is_closed.result (λ closed. IsTrue closed ↔ (nesting_past [] c.args.tokens.now ≡ [])) (λ white. white ≡ has_white_end c.args.tokens.now)
    (λ closed h. white_end c.args.tokens.now closed (sym c.begins_white.ensures ∙ c.if-begins_white.false) (sym c.ends_white.ensures ∙ c.if-ends_white.true) h) c.is_closed.ensures

pub returns-else-ends_white : goal.returns-else-ends_white
returns-else-ends_white c = full_end c.args.tokens.now (sym c.begins_white.ensures ∙ c.if-begins_white.false) (sym c.ends_white.ensures ∙ c.if-ends_white.false)
