use Rattle.std.proofs.Common.{◌≡◌, take}
use Rattle.cv_syntax.proofs.syntax.copied.Given as goal

abbrev pub invariant-loop-component : goal.invariant-loop-component
invariant-loop-component l = l.all ≡ take l.component-index l.components
