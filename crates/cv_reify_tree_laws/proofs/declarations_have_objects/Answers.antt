use Rattle.cv_reify_tree_laws.proofs.Objects.{in_range}
use Rattle.cv_reify_tree_laws.proofs.declarations_have_objects.Goals as goal

pub returns : goal.returns
returns c = λ document limit single. in_range c.ranges_are_out.ensures c.properties_are_found.ensures c.winners_are_by_key.ensures c.pieces_are_read.ensures document limit single
