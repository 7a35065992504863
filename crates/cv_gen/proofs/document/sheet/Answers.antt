use Rattle.cv_gen.specs.Generated.{sheet}
use Rattle.cv_gen.proofs.Texts.{sheet_is_ascii}
use Rattle.cv_gen.proofs.document.sheet.Goals as goal

pub ascii_name-requires : goal.ascii_name-requires
unfolding sheet
ascii_name-requires c = sheet_is_ascii

pub returns : goal.returns
unfolding sheet
returns c = c.ascii_name.ensures
