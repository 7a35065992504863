-- What the definition of a document keeps.
use Rattle.std.proofs.Common.{rules}
use Rattle.cv_doc.specs.Reading.{document_of, shape_of}
use Rattle.cv_doc.specs.Refusals.{Answers}
use Rattle.cv_doc.proofs.Sound.{answer_sound}
use Rattle.cv_doc.proofs.Sized.{answer_sized}
use Rattle.cv_doc.proofs.document.Document.of_bytes.Goals as goal

pub returns-in-Some-clause-sound : goal.returns-in-Some-clause-sound
returns-in-Some-clause-sound c =
    let exact : Answers shape_of (document_of c.args.bytes.now) c.document_of_value.result = search rules in
    answer_sound c.args.bytes.now c.document_of_value.result exact

pub returns-in-Some-clause-sized : goal.returns-in-Some-clause-sized
returns-in-Some-clause-sized c =
    let exact : Answers shape_of (document_of c.args.bytes.now) c.document_of_value.result = search rules in
    answer_sized c.args.bytes.now c.document_of_value.result exact
