-- What becomes of an input: it is refused, or is computed.
use Rattle.std.specs.Prelude.{ℕ, ◌≡◌, ◌<◌, nat_lt, List, length, Result, Ok, Err, if◌then◌else◌}
use Rattle.cv_doc.specs.declared.refusal.BadDoc.{BadDoc}
use Rattle.cv_doc.specs.declared.refusal.What.{What}
use Rattle.cv_doc.specs.declared.refusal.What.TheVariants.{Bytes, Names}
use Rattle.cv_doc.specs.Reading.{Shape, document_of}
use Rattle.cv_doc.specs.Refusals.{Refusal}
use Rattle.cv_doc.specs.Refusals as refusal
use Rattle.cv_tree.specs.Contents.{most_bytes}
use Rattle.cv_tree.specs.Names.{counted}

-- A part of the input is too large, the document is malformed, or it is computed.
pub data Fate : Type 0 where
  too_large : What → Fate
  malformed : BadDoc → Fate
  computed : Shape → Fate

-- the most different custom names
abbrev pub most_names : ℕ
most_names = 2048

-- what becomes of a document
abbrev pub fate_of_document : Shape → Fate
fate_of_document document = if nat_lt most_names (counted document) then too_large Names else computed document

abbrev pub fate_of_reading : Result Shape Refusal → Fate
fate_of_reading (Ok document) = fate_of_document document
fate_of_reading (Err (refusal.malformed why)) = malformed why
fate_of_reading (Err (refusal.too_large what)) = too_large what

-- what becomes of the bytes that a source gave
unfoldable pub fate_of : List ℕ → Fate
fate_of given = if nat_lt most_bytes (length given) then too_large Bytes else fate_of_reading (document_of given)

-- The part is too large: there are more bytes than there may be, or more names, or the document is refused for the part.
abbrev pub IsTooLarge : List ℕ → What → Type 0
IsTooLarge given Bytes = most_bytes < length given
IsTooLarge given Names = (document : Shape) × (document_of given ≡ Ok document) × (most_names < counted document)
IsTooLarge given what = document_of given ≡ Err (refusal.too_large what)
