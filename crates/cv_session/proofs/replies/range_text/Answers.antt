use Rattle.std.proofs.Common.{◌++◌, ◌∙◌, ap, append_assoc}
use Rattle.cv_valuation.specs.Keys.{key_text}
use Rattle.cv_session.proofs.replies.range_text.Goals as goal

pub returns : goal.returns
returns c =
    c.in_ok-key_text.ensures.ok ∙ ap (λ text. text ++ key_text c.args.property.now) (c.in_ok-text.ensures ∙ c.as_str.ensures.value ∙ c.in_ok-front.ensures.ok)
    ∙ simp append_assoc
