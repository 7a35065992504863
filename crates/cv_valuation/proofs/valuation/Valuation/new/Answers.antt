use Rattle.std.proofs.Common.{◌∙◌, [], ap}
use Rattle.cv_valuation.specs.declared.trie.Trie.{Leaf}
use Rattle.cv_valuation.specs.Rows.{values_by}
use Rattle.cv_valuation.proofs.Rows.{no_values}
use Rattle.cv_valuation.proofs.valuation.Valuation.new.Goals as goal

pub returns : goal.returns
returns c = ap (λ row. values_by Leaf row c.new-2.result) c.new.ensures ∙ ap (λ row. values_by Leaf [] row) c.new-2.ensures ∙ no_values
