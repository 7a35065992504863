use Rattle.std.proofs.Common.{◌∙◌, ◌++◌, List, ℕ, ap}
use Rattle.cv_gen.proofs.Sums.{text_is}
use Rattle.cv_gen.proofs.totals.summary.Goals as goal

pub returns-clause-text : goal.returns-clause-text
returns-clause-text c =
    let text = c.deref.ensures.value ∙ c.in_ok-text.ensures ∙ text_is c.args.all.now c.in_ok-widths.widths c.in_ok-padding.padding c.in_ok-widths.ensures.sum c.in_ok-padding.ensures.sum in
    c.in_ok-extend_from_slice.ensures.items ∙ ap (λ (bytes : List ℕ). c.args.out.now.items ++ bytes) text
