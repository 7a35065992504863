use Rattle.std.proofs.Common.{◌≡◌, ap, ◌∙◌, subst, sym, List, ℕ}
use Rattle.std.specs.Prelude.{OnErr}
use Rattle.cv_io.specs.Streams.{TookPrefix}
use Rattle.cv_report.specs.Report.{report_text}
use Rattle.cv_reify_report.specs.Report.{reify_text}
use Rattle.cv_run.specs.Telling.{text_of}
use Rattle.cv_run.proofs.writing.put_all.Goals as goal

pub returns-in-Values-clause-part : goal.returns-in-Values-clause-part
returns-in-Values-clause-part g c =
    let told = c.in-Values.told in
    let text : report_text c.deref.result.now c.deref-in-Values.result.now c.deref-in-Values-2.result.now ≡ text_of c.args.writing.now =
    ap (λ n. report_text n c.deref-in-Values.result.now c.deref-in-Values-2.result.now) c.deref.ensures.value
    ∙ ap (λ s. report_text told.notes.items s c.deref-in-Values-2.result.now) c.deref-in-Values.ensures.value
    ∙ ap (λ a. report_text told.notes.items told.shown.items a) c.deref-in-Values-2.ensures.value
    ∙ ap text_of (sym c.in-Values.is) in
    subst (λ (t : List ℕ). OnErr c.report.result (TookPrefix (g.O.Sink.taken c.args.out.now) (g.O.Sink.taken c.report.new.out) t)) text c.report.ensures.part

pub returns-in-Objects-clause-part : goal.returns-in-Objects-clause-part
returns-in-Objects-clause-part g c =
    let told = c.in-Objects.told in
    let text : reify_text c.deref-in-Objects.result.now c.deref-in-Objects-2.result.now c.deref-in-Objects-3.result.now c.deref-in-Objects-4.result.now ≡ text_of c.args.writing.now =
    ap (λ n. reify_text n c.deref-in-Objects-2.result.now c.deref-in-Objects-3.result.now c.deref-in-Objects-4.result.now) c.deref-in-Objects.ensures.value
    ∙ ap (λ s. reify_text told.notes.items s c.deref-in-Objects-3.result.now c.deref-in-Objects-4.result.now) c.deref-in-Objects-2.ensures.value
    ∙ ap (λ d. reify_text told.notes.items told.shown.items d c.deref-in-Objects-4.result.now) c.deref-in-Objects-3.ensures.value
    ∙ ap (λ a. reify_text told.notes.items told.shown.items told.declarations.items a) c.deref-in-Objects-4.ensures.value
    ∙ ap text_of (sym c.in-Objects.is) in
    subst (λ (t : List ℕ). OnErr c.reify_report.result (TookPrefix (g.O.Sink.taken c.args.out.now) (g.O.Sink.taken c.reify_report.new.out) t)) text c.reify_report.ensures.part

pub returns-in-Summary-clause-part : goal.returns-in-Summary-clause-part
returns-in-Summary-clause-part g c =
    subst (λ (t : List ℕ). OnErr c.put.result (TookPrefix (g.O.Sink.taken c.args.out.now) (g.O.Sink.taken c.put.new.out) t))
    (c.deref-in-Summary.ensures.value ∙ ap text_of (sym c.in-Summary.is)) c.put.ensures.part
