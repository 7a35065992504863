use Rattle.std.proofs.Common.{refl, ◌∙◌}
use Rattle.std.proofs.lemmas.List.{take_rest}
use Rattle.cv_component.proofs.Sharing.{behind_name}
use Rattle.cv_component.proofs.shared.behind_name.Goals as goal

pub returns : goal.returns
returns c =
    c.into_part.ensures
    ∙ behind_name c.args.list c.tokens-tokens.result.now c.trim_front.result.now _ _ _ c.tokens-tokens.ensures.tokens (take_rest c.tokens-tokens.result.now 1) c.requires c.trim_front.ensures.trimmed c.trim_front.ensures.end c.trim_front.ensures.within refl refl
