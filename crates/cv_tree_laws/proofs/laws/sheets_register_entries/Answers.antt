use Rattle.cv_tree_laws.proofs.Sheets.{sheet_entries}
use Rattle.cv_tree_laws.proofs.laws.sheets_register_entries.Goals as goal

pub returns : goal.returns
returns c = sheet_entries c.syntaxes_have_no_keyword.ensures c.values_may_be_kept.ensures
