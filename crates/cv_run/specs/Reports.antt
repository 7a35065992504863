-- What each job writes of a document, which is the only text that it may write (this project's own).
use Rattle.std.specs.Prelude.{ℕ, ◌≡◌, List, length, map}
use Rattle.cv_doc.specs.Reading.{Shape}
use Rattle.cv_words.specs.declared.words.Job.{Job}
use Rattle.cv_words.specs.declared.words.Job.TheVariants.{Compute, Reify, Gen}
use Rattle.cv_valuation.specs.declared.computed.Computed.{Computed}
use Rattle.cv_gen.specs.Summary.{summary_text}
use Rattle.cv_report.specs.Report.{report_text}
use Rattle.cv_reify_report.specs.Report.{reify_text}
use Rattle.cv_tree.specs.Names.{shown_of}
use Rattle.cv_tree.specs.Styles.{declarations_of, notes_of}
use Rattle.cv_tree.specs.Tree.{AreComputed, tree_of, values_in}

-- what the job writes of a document, where this is computed of its elements
abbrev pub text_by : Job → Shape → List Computed → List ℕ
text_by Compute document all = report_text (notes_of document) (shown_of document) all
text_by Reify document all = reify_text (notes_of document) (shown_of document) (map declarations_of document.elements) all
text_by Gen document all = summary_text (values_in all)

-- the job writes this text of the document, under this limit
pub record IsReport (job : Job) (document : Shape) (limit : ℕ) (text : List ℕ) : Type 0 where
  pub all : List Computed
  pub computed : AreComputed (tree_of document) limit (length document.elements) all
  pub report : text ≡ text_by job document all

-- the job writes this text of the document, and may write no other
pub record IsOnlyReport (job : Job) (document : Shape) (limit : ℕ) (text : List ℕ) : Type 0 where
  pub report : IsReport job document limit text
  pub only : (other : List ℕ) → IsReport job document limit other → other ≡ text
