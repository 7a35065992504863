use Rattle.std.proofs.Common.{◌≡◌, ◌∙◌, ◌-◌, ℕ, List, ap, arith, get_or, length, subst}
use Rattle.std.specs.Prelude.{IfOk}
use Rattle.cv_doc.specs.declared.elements.Elem.{Elem}
use Rattle.cv_gen.proofs.Kept.{count_elements, style_before}
use Rattle.cv_gen.proofs.style.style.Goals as goal

pub bounds-earlier-index : goal.bounds-earlier-index
bounds-earlier-index c = omega (arith, ap length c.requires, count_elements c.args.index)

pub returns-else-index-le-PERIOD : goal.returns-else-index-le-PERIOD
returns-else-index-le-PERIOD c =
    let i = c.args.index in
    let e = c.index-earlier-index.result in
    let same = ap (λ (all : List Elem). (get_or all (i - 41) e).style) c.requires ∙ style_before i e c.if-index-le-PERIOD.false in
    subst (λ (text : List ℕ). IfOk c.copy.result (λ copy. copy ≡ text)) same c.copy.ensures
