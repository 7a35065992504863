use Rattle.std.proofs.Common.{◌≡◌, take}
use Rattle.cv_reify.proofs.style.+copy.Given as goal

abbrev pub invariant-copied_styles-loop-style : goal.invariant-copied_styles-loop-style
invariant-copied_styles-loop-style l = l.all ≡ take l.style-index l.styles
