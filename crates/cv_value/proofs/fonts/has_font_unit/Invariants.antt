use Rattle.std.proofs.Common.{◌≡◌, drop}
use Rattle.cv_calc_laws.specs.Fonts.{holds_no_font_unit}
use Rattle.cv_value.proofs.fonts.has_font_unit.Given as goal

abbrev pub invariant-loop-token : goal.invariant-loop-token
invariant-loop-token l = holds_no_font_unit l.root (drop l.token-index l.tokens) ≡ holds_no_font_unit l.root l.tokens
