use Rattle.std.proofs.Common.{List, subst, sym, ap, length, arith}
use Rattle.std.specs.Prelude.{All}
use Rattle.cv_spec_text.specs.declared.token.Token.{Token}
use Rattle.cv_spec_text.specs.Splits.{IsSpelt}
use Rattle.cv_spec_text.proofs.run.Run.of.Goals as goal

pub invariant_of-result : goal.invariant_of-result
invariant_of-result c = (subst (λ (tokens : List Token). All IsSpelt tokens) (sym c.in_ok-from_vec.ensures) c.requires, omega arith, omega (arith, ap length c.in_ok-from_vec.ensures, c.len-to.ensures))
