use Rattle.std.proofs.Common.{get_or, ◌∙◌, sym, ap, arith}
use Rattle.cv_simplify.specs.Firsts.{first_in}
use Rattle.cv_simplify.specs.Checked.{joined_within}
use Rattle.cv_simplify.proofs.Firsts.{first_below, end_other, end_none, end_apart, at_first, outside_first}
use Rattle.cv_simplify.proofs.row.Row.spot_of.Goals as goal

pub offset_bounds-as_slice-at : goal.offset_bounds-as_slice-at
offset_bounds-as_slice-at c =
    let below = first_below c.in-Some.unit c.as_slice.result.now c.in-Some-first_of.at (ap (first_in c.in-Some.unit) (c.as_slice.ensures ∙ c.self.view_is) ∙ sym c.first_of.ensures ∙ c.in-Some-first_of.is) in
    omega (arith, below, c.as_slice.type_inv)

pub bounds-as_slice-at : goal.bounds-as_slice-at
bounds-as_slice-at c =
    first_below c.in-Some.unit c.as_slice.result.now c.in-Some-first_of.at
    (ap (first_in c.in-Some.unit) (c.as_slice.ensures ∙ c.self.view_is) ∙ sym c.first_of.ensures ∙ c.in-Some-first_of.is)

pub returns-in-One : goal.returns-in-One
returns-in-One c =
    at_first c.args.how c.args.term.now c.in-Some.unit (sym c.unit_of.ensures ∙ c.in-Some.is) c.args.self.now c.in-Some-first_of.at c.index-as_slice-at.result c.in-One.number
    (sym c.first_of.ensures ∙ c.in-Some-first_of.is)
    (ap (λ x. joined_within c.args.how x c.args.term.now) (ap (λ l. get_or l c.in-Some-first_of.at c.index-as_slice-at.result) (sym (c.as_slice.ensures ∙ c.self.view_is)) ∙ sym c.index-as_slice-at.is)
    ∙ sym c.join.ensures ∙ c.in-One.is)

pub returns-in-Outside : goal.returns-in-Outside
returns-in-Outside c =
    outside_first c.args.how c.args.term.now c.in-Some.unit (sym c.unit_of.ensures ∙ c.in-Some.is) c.args.self.now c.in-Some-first_of.at c.index-as_slice-at.result
    (sym c.first_of.ensures ∙ c.in-Some-first_of.is)
    (ap (λ x. joined_within c.args.how x c.args.term.now) (ap (λ l. get_or l c.in-Some-first_of.at c.index-as_slice-at.result) (sym (c.as_slice.ensures ∙ c.self.view_is)) ∙ sym c.index-as_slice-at.is)
    ∙ sym c.join.ensures ∙ c.in-Outside.is)

pub returns-in-Apart : goal.returns-in-Apart
returns-in-Apart c =
    end_apart c.args.how c.args.term.now c.in-Some.unit (sym c.unit_of.ensures ∙ c.in-Some.is) c.args.self.now c.in-Some-first_of.at c.index-as_slice-at.result
    (sym c.first_of.ensures ∙ c.in-Some-first_of.is)
    (ap (λ x. joined_within c.args.how x c.args.term.now) (ap (λ l. get_or l c.in-Some-first_of.at c.index-as_slice-at.result) (sym (c.as_slice.ensures ∙ c.self.view_is)) ∙ sym c.index-as_slice-at.is)
    ∙ sym c.join.ensures ∙ c.in-Apart.is)

pub returns-in-None-first_of : goal.returns-in-None-first_of
returns-in-None-first_of c =
    end_none c.args.how c.args.term.now c.in-Some.unit (sym c.unit_of.ensures ∙ c.in-Some.is) c.args.self.now (sym c.first_of.ensures ∙ c.in-None-first_of.is)

pub returns-in-None : goal.returns-in-None
returns-in-None c = end_other c.args.how c.args.term.now c.args.self.now (sym c.unit_of.ensures ∙ c.in-None.is)
