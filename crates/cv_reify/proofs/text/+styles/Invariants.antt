use Rattle.std.specs.Prelude.{map}
use Rattle.std.proofs.Common.{◌≡◌, ◌++◌, drop}
use Rattle.cv_reify.specs.Text.{joined, separated, style_text}
use Rattle.cv_reify.proofs.text.+styles.Given as goal

abbrev pub invariant-push_styles-loop-style : goal.invariant-push_styles-loop-style
invariant-push_styles-loop-style l = l.text.items ++ separated l.separator (map style_text (drop l.style-index l.styles)) ≡ l.initial.text.items ++ joined (map style_text l.styles)
