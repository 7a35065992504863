use Rattle.std.proofs.Common.{◌∙◌, reverse, sym, ap}
use Rattle.std.proofs.lemmas.List.{reverse-reverse}
use Rattle.cv_simplify.specs.Checked.{with_terms}
use Rattle.cv_simplify.proofs.Rows.{ends}
use Rattle.cv_simplify.proofs.row.with_terms.Goals as goal

pub returns-in-None : goal.returns-in-None
returns-in-None c =
    sym (ends c.loop-term.row c.pop.new.self c.in-Some.term (sym c.in_ok-next.ensures ∙ c.in-None.is))
    ∙ ap (λ ts. with_terms c.loop-term.row (reverse ts)) (sym c.in-Some.ensures)
    ∙ c.loop-term.invariant
    ∙ ap (λ ts. with_terms c.args.row (reverse ts)) c.in_ok-rest.ensures
    ∙ ap (with_terms c.args.row) (reverse-reverse c.args.terms)
