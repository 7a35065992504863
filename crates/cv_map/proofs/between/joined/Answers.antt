use Rattle.std.proofs.Common.{◌≡◌, ◌++◌, ◌∙◌, ap, subst, sym}
use Rattle.std.specs.Prelude.{All}
use Rattle.cv_spec_text.specs.Splits.{IsSpelt}
use Rattle.cv_map.specs.Lists.{between_tokens}
use Rattle.cv_map.proofs.Spelt.{all_joined}
use Rattle.cv_map.proofs.between.joined.Goals as goal

pub of-requires : goal.of-requires
of-requires c =
    let same : c.push_tokens.new.all.items ≡ c.args.old.now ++ between_tokens c.args.between ++ c.args.value.now =
    c.in_ok-push_tokens.ensures ∙ ap (λ l. l ++ c.args.value.now) (c.in_ok-push_between.ensures ∙ ap (λ l. l ++ between_tokens c.args.between) c.in_ok-all.ensures) in
    subst (All IsSpelt) (sym same) (all_joined c.args.between c.args.old.now c.args.value.now c.requires.old c.requires.value)
