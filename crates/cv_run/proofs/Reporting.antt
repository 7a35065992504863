-- The text of a report is the one report of its document.
use Rattle.std.proofs.Common.{◌≡◌, ℕ, zero, suc, ◌<◌, ◌≤◌, List, [], ◌∷◌, ◌++◌, length, Option, Some, None, refl, sym, ◌∙◌, ap, subst, arith}
use Rattle.std.specs.Prelude.{IfSome, map}
use Rattle.std.specs.List.{AllZip, slice_get}
use Rattle.std.proofs.lemmas.List.{length-map}
use Rattle.std.proofs.lemmas.Option.{slice_get_within}
use Rattle.cv_doc.specs.Reading.{Shape}
use Rattle.cv_valuation.specs.declared.computed.Computed.{Computed}
use Rattle.cv_valuation.specs.declared.key.Key.{Key}
use Rattle.cv_valuation.specs.TableLaws.{PropertiesAreFound}
use Rattle.cv_spec_valuation.specs.Computed.{IsOnce}
use Rattle.cv_spec_valuation.specs.Single.{TellsTheSame}
use Rattle.cv_report.specs.Report.{notes_text, report_text}
use Rattle.cv_reify_report.specs.Report.{reify_text}
use Rattle.cv_words.specs.Words.{HasWords}
use Rattle.cv_words.specs.declared.words.Job.{Job}
use Rattle.cv_words.specs.declared.words.Job.TheVariants.{Compute, Reify, Gen}
use Rattle.cv_words.specs.declared.words.Words.{Words}
use Rattle.cv_valuation.specs.Valuations.{Values}
use Rattle.cv_gen.specs.Summary.{summary_text}
use Rattle.cv_tree.specs.Names.{shown_of}
use Rattle.cv_tree.specs.Single.{HaveOneResult}
use Rattle.cv_tree.specs.Styles.{declarations_of, notes_of}
use Rattle.cv_tree.specs.Tree.{AreComputed, parent_of, tree_of, values_in}
use Rattle.cv_run.specs.Fates.{Fate, computed}
use Rattle.cv_run.specs.Outcome.{IsText}
use Rattle.cv_run.specs.Reports.{IsOnlyReport, IsReport, text_by}
use Rattle.cv_run.specs.Asked.{fate_for, limit_for}
use Rattle.cv_run.specs.Telling.{IsReportOf, IsSized, TellsOf, objects_of, report_of}
use Rattle.cv_run.specs.declared.writing.Report.{Report}
use Rattle.cv_run.proofs.Lines.{IsWrittenAlike, texts_same, written_alike}
use Rattle.cv_run.proofs.Objects.{objects_same}

-- an item that stands there
item_at : {X : Type 0} (xs : List X) (i : ℕ) → i < length xs → (x : X) × (slice_get xs i ≡ Some x)
item_at [] i below = absurd (omega (arith, below))
item_at (x ∷ xs) zero below = (x, refl)
item_at (x ∷ xs) (suc i) below = item_at xs i (omega (arith, below))

count_parents : (document : Shape) → length (tree_of document).parents ≡ length document.elements
count_parents document = length-map document.elements parent_of

-- where the same is told of elements, their values are the same
same_values : (all others : List Computed) → AllZip TellsTheSame all others → values_in others ≡ values_in all
same_values [] [] told = refl
same_values [] (other ∷ others) told = absurd told
same_values (one ∷ all) [] told = absurd told
same_values (one ∷ all) (other ∷ others) told =
    ap (λ (v : Values). v ∷ values_in others) told.0.values ∙ ap (λ (vs : List Values). one.values ∷ vs) (same_values all others told.1)

-- ---- what a job writes

module _ (found : PropertiesAreFound) (document : Shape) (limit : ℕ) (single : HaveOneResult (tree_of document) limit) where
  once : (i : ℕ) (one : Computed) → slice_get single.all i ≡ Some one → IsOnce one.faults
  once i one at =
      let below : i < length single.all = slice_get_within single.all i one at in
      let parent = item_at (tree_of document).parents i (omega (arith, below, single.are_computed.count)) in
      let decls = item_at (tree_of document).declarations i (omega (arith, below, single.are_computed.count, count_parents document, length-map document.elements declarations_of)) in
      (single.are_computed.each i parent.0 decls.0 one (record { under = parent.1; declares = decls.1 }) at).once

  written : (xs ys : List Computed) → AllZip TellsTheSame xs ys → ((i : ℕ) (one : Computed) → slice_get xs i ≡ Some one → IsOnce one.faults) → AllZip (IsWrittenAlike (shown_of document)) xs ys
  written [] [] told each = tt
  written [] (y ∷ ys) told each = absurd told
  written (x ∷ xs) [] told each = absurd told
  written (x ∷ xs) (y ∷ ys) told each = (written_alike found (shown_of document) x y told.0 (each 0 x refl), written xs ys told.1 (λ i one at. each (suc i) one at))

  -- what is computed of the document's elements is written alike
  same_by : (job : Job) (others : List Computed) → AllZip TellsTheSame single.all others → text_by job document others ≡ text_by job document single.all
  same_by Compute others told = ap (λ text. notes_text (notes_of document) ++ text) (texts_same (shown_of document) single.all others (written single.all others told once))
  same_by Reify others told = ap (λ text. notes_text (notes_of document) ++ text) (objects_same (shown_of document) (map declarations_of document.elements) single.all others told)
  same_by Gen others told = ap summary_text (same_values single.all others told)

  same_text : (job : Job) (others : List Computed) → AreComputed (tree_of document) limit (length document.elements) others → text_by job document others ≡ text_by job document single.all
  same_text job others is = same_by job others (single.only others (subst (λ (n : ℕ). AreComputed (tree_of document) limit n others) (sym (count_parents document)) is))

  -- what a job writes is the only text that it may write
  pub only_report : (job : Job) (text : List ℕ) → IsReport job document limit text → IsOnlyReport job document limit text
  only_report job text is = record {
    report = is;
    only = λ other is_other. is_other.report ∙ same_text job is_other.all is_other.computed ∙ sym (same_text job is.all is.computed) ∙ sym is.report;
  }

-- ---- what the code forms

-- what a law of single texts says of a job
abbrev pub AreOnly : Job → Shape → ℕ → Type 0
AreOnly job document limit = HaveOneResult (tree_of document) limit → (text : List ℕ) → IsReport job document limit text → IsOnlyReport job document limit text

-- a text that a job writes of a document that has one result, which is the only one
pub one_report : (job : Job) (document : Shape) (limit : ℕ) → HaveOneResult (tree_of document) limit → AreOnly job document limit → (text : List ℕ) × IsOnlyReport job document limit text
one_report job document limit single only = (
  text_by job document single.all,
  only single (text_by job document single.all) (record {
    all = single.all;
    computed = subst (λ (n : ℕ). AreComputed (tree_of document) limit n single.all) (count_parents document) single.are_computed;
    report = refl;
  }),
)

-- a report is as large as its document
pub are_sized : (document : Shape) (limit : ℕ) (report : Report) → AreComputed (tree_of document) limit (length document.elements) report.all.items
    → report.declarations.items ≡ map declarations_of document.elements → length report.all.items ≤ 16384 → IsSized report
are_sized document limit report is declarations few = record {
  few = few;
  paired = ap length declarations ∙ length-map document.elements declarations_of ∙ sym is.count;
}

values_of : (limit : ℕ) (fate : Fate) (report : Report) → ((document : Shape) → AreOnly Compute document limit) → IsReportOf limit fate report → TellsOf Compute limit fate (report_of report)
values_of limit fate report only is = record {
  document = is.document;
  document_computed = is.document_computed;
  single = is.single;
  only = only is.document is.single (report_of report) (record {
    all = report.all.items;
    computed = is.all;
    report = ap (λ n. report_text n report.shown.items report.all.items) is.notes ∙ ap (λ s. report_text (notes_of is.document) s report.all.items) is.shown;
  });
}

objects_told : (limit : ℕ) (fate : Fate) (report : Report) → ((document : Shape) → AreOnly Reify document limit) → IsReportOf limit fate report → TellsOf Reify limit fate (objects_of report)
objects_told limit fate report only is = record {
  document = is.document;
  document_computed = is.document_computed;
  single = is.single;
  only = only is.document is.single (objects_of report) (record {
    all = report.all.items;
    computed = is.all;
    report = ap (λ n. reify_text n report.shown.items report.declarations.items report.all.items) is.notes
        ∙ ap (λ s. reify_text (notes_of is.document) s report.declarations.items report.all.items) is.shown
        ∙ ap (λ d. reify_text (notes_of is.document) (shown_of is.document) d report.all.items) is.declarations;
  });
}

-- a report of what a source gave tells of its values and of its objects
pub values_given : (left : Option (List ℕ)) (fate : List ℕ → Fate) (limit : ℕ) (report : Report) → ((document : Shape) → AreOnly Compute document limit)
    → IfSome left (λ given. IsReportOf limit (fate given) report) → IfSome left (λ given. TellsOf Compute limit (fate given) (report_of report))
values_given None fate limit report only is = tt
values_given (Some given) fate limit report only is = values_of limit (fate given) report only is

pub objects_given : (left : Option (List ℕ)) (fate : List ℕ → Fate) (limit : ℕ) (report : Report) → ((document : Shape) → AreOnly Reify document limit)
    → IfSome left (λ given. IsReportOf limit (fate given) report) → IfSome left (λ given. TellsOf Reify limit (fate given) (objects_of report))
objects_given None fate limit report only is = tt
objects_given (Some given) fate limit report only is = objects_told limit (fate given) report only is

pub sums_up : (document : Shape) (all : List Computed) (text : List ℕ) → HaveOneResult (tree_of document) 16384 → AreOnly Gen document 16384
    → AreComputed (tree_of document) 16384 (length document.elements) all → text ≡ summary_text (values_in all) → TellsOf Gen 16384 (computed document) text
sums_up document all text single only is said = record {
  document = document;
  document_computed = refl;
  single = single;
  only = only single text (record { all = all; computed = is; report = said });
}

-- words that say one thing have one text of an input
pub one_text : ((words : List (List ℕ)) (one other : Words) → HasWords words one → HasWords words other → other ≡ one)
    → (words : List (List ℕ)) (given one other : List ℕ) → IsText words given one → IsText words given other → other ≡ one
one_text single words given one other is is_other =
    let read : is_other.read ≡ is.read = single words is.read is_other.read is.has_words is_other.has_words in
    let again : TellsOf is.read.job (limit_for is.read) (fate_for is.read given) other = subst (λ (r : Words). TellsOf r.job (limit_for r) (fate_for r given) other) read is_other.tells in
    let fates : computed again.document ≡ computed is.tells.document = sym again.document_computed ∙ is.tells.document_computed in
    let document : again.document ≡ is.tells.document = cc in
    is.tells.only.only other (subst (λ (d : Shape). IsReport is.read.job d (limit_for is.read) other) document again.only.report)
