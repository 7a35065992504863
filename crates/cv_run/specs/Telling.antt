-- What the stages of a run answer of a document.
use Rattle.std.specs.Prelude.{ℕ, ◌≡◌, ◌≤◌, length, List, map, Option, Some, None, IfSome}
use Rattle.cv_doc.specs.Reading.{Shape}
use Rattle.cv_words.specs.declared.words.Job.{Job}
use Rattle.cv_words.specs.declared.words.Words.{Words}
use Rattle.cv_valuation.specs.declared.key.Key.{Key}
use Rattle.cv_report.specs.Report.{report_text}
use Rattle.cv_reify_report.specs.Report.{reify_text}
use Rattle.cv_tree.specs.Names.{shown_of}
use Rattle.cv_tree.specs.Single.{HaveOneResult}
use Rattle.cv_tree.specs.Styles.{declarations_of, notes_of}
use Rattle.cv_tree.specs.Tree.{AreComputed, tree_of}
use Rattle.cv_run.specs.Asked.{IsOutBy, fate_for, limit_for}
use Rattle.cv_run.specs.Fates.{Fate, IsTooLarge, computed, malformed, too_large}
use Rattle.cv_run.specs.Reports.{IsOnlyReport}
use Rattle.cv_run.specs.declared.writing.Report.{Report}
use Rattle.cv_run.specs.declared.writing.Writing.{Writing}
use Rattle.cv_run.specs.declared.writing.Writing.TheVariants as writing
use Rattle.cv_run.specs.declared.status.Status.{Status}
use Rattle.cv_run.specs.declared.status.Status.TheVariants.{Done, Usage, ReadFault, TooLarge, Malformed, Range, WriteFault, NoMemory}

-- the text of a report's values
abbrev pub report_of : Report → List ℕ
report_of report = report_text report.notes.items report.shown.items report.all.items

-- the text of a report's objects
abbrev pub objects_of : Report → List ℕ
objects_of report = reify_text report.notes.items report.shown.items report.declarations.items report.all.items

-- what is written
abbrev pub text_of : Writing → List ℕ
text_of (writing.Values report) = report_of report
text_of (writing.Objects report) = objects_of report
text_of (writing.Summary text) = text.items

-- a report numbers no more elements than a document may have, each with its declarations
pub record IsSized (report : Report) : Type 0 where
  pub few : length report.all.items ≤ 16384
  pub paired : length report.declarations.items ≡ length report.all.items

abbrev pub IsFew : Writing → Type 0
IsFew (writing.Values report) = IsSized report
IsFew (writing.Objects report) = IsSized report
IsFew (writing.Summary text) = Unit {0}

-- a document is computed, and this is what it says and what is computed of it
pub record IsReportOf (limit : ℕ) (fate : Fate) (report : Report) : Type 0 where
  pub document : Shape
  pub document_computed : fate ≡ computed document
  pub single : HaveOneResult (tree_of document) limit
  pub notes : report.notes.items ≡ notes_of document
  pub shown : report.shown.items ≡ shown_of document
  pub declarations : report.declarations.items ≡ map declarations_of document.elements
  pub all : AreComputed (tree_of document) limit (length document.elements) report.all.items

-- a document is computed, and this is what the job writes of it
pub record TellsOf (job : Job) (limit : ℕ) (fate : Fate) (text : List ℕ) : Type 0 where
  pub document : Shape
  pub document_computed : fate ≡ computed document
  pub single : HaveOneResult (tree_of document) limit
  pub only : IsOnlyReport job document limit text

-- a document is computed, and the property is out of range on the element
pub record IsOutOf (job : Job) (limit : ℕ) (fate : Fate) (element : ℕ) (property : Key) : Type 0 where
  pub document : Shape
  pub document_computed : fate ≡ computed document
  pub out : IsOutBy job document limit element property

-- a status that is a refusal; want of memory is free
abbrev pub IsRefusal : Job → ℕ → Fate → Status → Type 0
IsRefusal job limit fate (TooLarge what) = fate ≡ too_large what
IsRefusal job limit fate (Malformed why) = fate ≡ malformed why
IsRefusal job limit fate (Range element property) = IsOutOf job limit fate element property
IsRefusal job limit fate NoMemory = Unit {0}
IsRefusal job limit fate _ = ⊥

-- a part that a status calls too large is so
abbrev pub IsOversized : Option (List ℕ) → Status → Type 0
IsOversized given (TooLarge what) = IfSome given (λ bytes. IsTooLarge bytes what)
IsOversized given _ = Unit {0}

-- a status that ends a run before it writes: the source failed, or what becomes of the bytes that it had is refused
abbrev pub IsStoppedBy : Job → ℕ → (List ℕ → Fate) → Option (List ℕ) → Type 0 → Status → Type 0
IsStoppedBy job limit fate given source_failed ReadFault = source_failed
IsStoppedBy job limit fate given source_failed status = IfSome given (λ bytes. IsRefusal job limit (fate bytes) status)

abbrev pub IsStopped : Option (List ℕ) → Words → Type 0 → Status → Type 0
IsStopped given read source_failed status = IsStoppedBy read.job (limit_for read) (fate_for read) given source_failed status

-- the statuses that end a run behind its words and before it writes
abbrev pub EndsEarly : Status → Type 0
EndsEarly Done = ⊥
EndsEarly Usage = ⊥
EndsEarly WriteFault = ⊥
EndsEarly _ = Unit {0}
