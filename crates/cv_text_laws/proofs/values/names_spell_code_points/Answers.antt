use Rattle.cv_text_laws.proofs.CodePoints.{names_keep, names_read_escapes, names_end}
use Rattle.cv_text_laws.proofs.values.names_spell_code_points.Goals as goal

pub returns-clause-ident : goal.returns-clause-ident
returns-clause-ident c = names_keep

pub returns-clause-escape : goal.returns-clause-escape
returns-clause-escape c = names_read_escapes

pub returns-clause-end : goal.returns-clause-end
returns-clause-end c = names_end
