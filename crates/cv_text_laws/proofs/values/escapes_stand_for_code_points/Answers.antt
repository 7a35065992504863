use Rattle.cv_text_laws.proofs.CodePoints.{plain_escapes, hex_escapes, last_escape}
use Rattle.cv_text_laws.proofs.values.escapes_stand_for_code_points.Goals as goal

pub returns-clause-plain : goal.returns-clause-plain
returns-clause-plain c = plain_escapes

pub returns-clause-hex : goal.returns-clause-hex
returns-clause-hex c = hex_escapes

pub returns-clause-last : goal.returns-clause-last
returns-clause-last c = last_escape
