use Rattle.std.proofs.Common.{subst, sym}
use Rattle.std.specs.Prelude.{All}
use Rattle.cv_spec_text.specs.Splits.{IsSpelt}
use Rattle.cv_component.proofs.Spelt.{all_completed}
use Rattle.cv_component.proofs.shared.completed_run.Goals as goal

pub of-requires : goal.of-requires
of-requires c = subst (All IsSpelt) (sym c.in_ok-all.ensures) (all_completed c.tokens-2.result.now (subst (All IsSpelt) (sym c.tokens-2.ensures.tokens) c.tokens-2.ensures.spelt))
