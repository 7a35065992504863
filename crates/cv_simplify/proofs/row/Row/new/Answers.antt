use Rattle.std.specs.Prelude.{ℕ, List, [], Option}
use Rattle.std.proofs.Common.{sym, subst}
use Rattle.cv_calc.specs.declared.calc.Calc.{Calc}
use Rattle.cv_simplify.specs.Firsts.{HoldsFirsts}
use Rattle.cv_simplify.proofs.Firsts.{firsts_none}
use Rattle.cv_simplify.proofs.row.Row.new.Goals as goal

pub invariant_of-result : goal.invariant_of-result
invariant_of-result c =
    subst (λ (row : List Calc). HoldsFirsts row c.in_ok-from_slice.field-0) (sym c.new.ensures)
    (subst (λ (firsts : List (Option ℕ)). HoldsFirsts [] firsts) (sym c.in_ok-from_slice.ensures) firsts_none)
