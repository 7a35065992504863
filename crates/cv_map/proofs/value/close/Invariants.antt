use Rattle.std.proofs.Common.{◌≡◌, ◌++◌, length}
use Rattle.std.specs.Prelude.{map}
use Rattle.cv_spec_text.specs.declared.token.Token.TheVariants.{Close}
use Rattle.cv_map.proofs.value.close.Given as goal

abbrev pub invariant-closing : goal.invariant-closing
invariant-closing l = l.tokens.items ++ map Close l.open ≡ l.fn.tokens.items ++ map Close l.fn.brackets

abbrev pub decreases-closing : goal.decreases-closing
decreases-closing l = length l.open
