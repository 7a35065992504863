use Rattle.cv_spec_element.proofs.LooseElement.{loose_lawful, loose_edges, loose_reads}
use Rattle.cv_spec_element.proofs.loose.loose_element_is_lawful.Goals as goal

pub returns-clause-lawful : goal.returns-clause-lawful
returns-clause-lawful g c = λ is_same font_size declarations is_white keyword parent laws. loose_lawful is_same font_size declarations is_white keyword parent laws

pub returns-clause-edges : goal.returns-clause-edges
returns-clause-edges g c = λ is_same font_size declarations is_white keyword parent p q. loose_edges is_same font_size declarations is_white keyword parent p q

pub returns-clause-reads : goal.returns-clause-reads
returns-clause-reads g c = λ is_same font_size declarations is_white keyword parent p q. loose_reads is_same font_size declarations is_white keyword parent p q
