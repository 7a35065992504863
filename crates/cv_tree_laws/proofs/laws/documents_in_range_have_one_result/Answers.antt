use Rattle.cv_tree_laws.proofs.Documents.{PartsMayStand, document_result}
use Rattle.cv_tree_laws.proofs.laws.documents_in_range_have_one_result.Goals as goal

pub returns : goal.returns
returns c =
    let parts : PartsMayStand = record { entries = c.sheets_register_entries.ensures; declared = c.styles_are_declared.ensures } in
    document_result parts c.trees_in_range_have_one_result.ensures
