-- The parts of a list, as a list of items has them: none where whitespace stands at an end.
use Rattle.std.specs.Prelude.{List, [], map, if◌then◌else◌}
use Rattle.cv_spec_text.specs.declared.token.Token.{Token}
use Rattle.cv_component.specs.Parts.{is_white, is_comma, parts, filled, trim, has_white_end}

abbrev pub spaced : List Token → List (List Token)
spaced ts = if has_white_end ts then [] else filled (parts is_white ts)

abbrev pub with_commas : List Token → List (List Token)
with_commas ts = if has_white_end ts then [] else map trim (parts is_comma ts)
