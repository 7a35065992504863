use Rattle.cv_element.proofs.Sizing.{size_found}
use Rattle.cv_element.proofs.held.size_place.Goals as goal

pub returns : goal.returns
returns c = size_found c.properties_are_found.ensures c.args.decls.now c.len.ensures.once c.index_of.result c.index_of.ensures.only_where c.index_of.ensures.exactly_where
