use Rattle.std.proofs.Common.{◌∙◌, ap, sym}
use Rattle.indexmap.specs.IndexMap.{insert_entry}
use Rattle.indexmap.proofs.CallerLemmas.{insert_entry-new}
use Rattle.cv_valuation.specs.Keys.{same_key}
use Rattle.cv_report.specs.Report.{cause_of}
use Rattle.cv_report.proofs.Finding.{cause_of-again, none_found}
use Rattle.cv_report.proofs.causes.add.Goals as goal

pub returns-then-contains_key : goal.returns-then-contains_key
returns-then-contains_key c =
    cause_of-again c.args.key.now c.args.cause.now c.args.first.now.entries (sym c.contains_key.ensures ∙ c.if-contains_key.true)

pub returns : goal.returns
returns c = λ other.
    let before = c.args.first.now.entries in
    ap (cause_of other)
    (c.in_ok-insert.ensures.entries
    ∙ ap (λ key. insert_entry same_key before key c.in_ok-copy-2.field-0) c.in_ok-copy.ensures
    ∙ ap (insert_entry same_key before c.args.key.now) c.in_ok-copy-2.ensures
    ∙ insert_entry-new same_key c.args.first.now c.args.key.now c.args.cause.now (none_found _ (sym c.contains_key.ensures ∙ c.if-contains_key.false)))
