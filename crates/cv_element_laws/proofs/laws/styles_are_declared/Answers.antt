use Rattle.cv_element_laws.proofs.Styles.{style_declared}
use Rattle.cv_element_laws.proofs.laws.styles_are_declared.Goals as goal

pub returns : goal.returns
returns c = style_declared c.properties_are_found.ensures c.winners_are_by_key.ensures
