use Rattle.std.specs.Prelude.{ℕ, List, [], ◌∷◌, ◌++◌, Option, Some, None, not, is_some, slice_set}
use Rattle.std.proofs.Common.{get_or, ◌∙◌, sym, ap, ap₂, subst}
use Rattle.cv_calc.specs.declared.calc.Calc.{Calc}
use Rattle.cv_simplify.specs.Firsts.{HoldsFirsts}
use Rattle.cv_simplify.proofs.Firsts.{firsts_past, firsts_kept, firsts_set}
use Rattle.cv_simplify.proofs.row.Row.push.Goals as goal

pub invariant_of-self-then-is_none : goal.invariant_of-self-then-is_none
invariant_of-self-then-is_none c =
    subst (λ (row : List Calc). HoldsFirsts row c.set.new.self) (sym c.in_ok-push.ensures.ok)
    (subst (λ (firsts : List (Option ℕ)). HoldsFirsts (c.self.inside.terms ++ c.args.term ∷ []) firsts)
    (sym (c.set.ensures ∙ ap₂ (λ rank last. slice_set c.self.inside.firsts rank (Some last)) c.unit_rank-rank.ensures.rank c.len-last.ensures))
    (firsts_set c.self.inside.terms c.self.inside.firsts c.args.term c.in-Some.unit c.self.invariant (sym c.unit_of-unit.ensures ∙ c.in-Some.is)
    (ap₂ (λ firsts rank. is_some (get_or firsts rank None)) (sym c.as_slice.ensures) (sym c.unit_rank-rank.ensures.rank) ∙ c.is_none.ensures ∙ ap not c.if-is_none.true)))

pub invariant_of-self-else-is_none : goal.invariant_of-self-else-is_none
invariant_of-self-else-is_none c =
    subst (λ (row : List Calc). HoldsFirsts row c.self.inside.firsts) (sym c.in_ok-push.ensures.ok)
    (firsts_kept c.self.inside.terms c.self.inside.firsts c.args.term c.in-Some.unit c.self.invariant (sym c.unit_of-unit.ensures ∙ c.in-Some.is)
    (ap₂ (λ firsts rank. is_some (get_or firsts rank None)) (sym c.as_slice.ensures) (sym c.unit_rank-rank.ensures.rank) ∙ c.is_none.ensures ∙ ap not c.if-is_none.false))

pub invariant_of-self-in_default : goal.invariant_of-self-in_default
invariant_of-self-in_default c =
    subst (λ (row : List Calc). HoldsFirsts row c.self.inside.firsts) (sym c.in_ok-push.ensures.ok)
    (firsts_past c.self.inside.terms c.self.inside.firsts c.args.term c.self.invariant (sym c.unit_of-unit.ensures ∙ c.in_default.is))
