use Rattle.std.proofs.Common.{◌∙◌, sym, ap, subst}
use Rattle.cv_calc.specs.declared.calc.Calc.{Calc}
use Rattle.cv_simplify.specs.Agrees.{KeepsValue}
use Rattle.cv_simplify.proofs.Kept.{simp_kept}
use Rattle.cv_simplify.specs.Canonical.{holds_canonical}
use Rattle.cv_simplify.proofs.Canonical.{simp_canonical}
use Rattle.cv_calc.specs.Types.{type_of}
use Rattle.cv_simplify.proofs.TypesKept.{type_kept}
use Rattle.cv_simplify.proofs.Ranges.{made_simple, made_none}
use Rattle.cv_simplify.proofs.calculation.simplify.Goals as goal

pub returns-in-Some-clause-value : goal.returns-in-Some-clause-value
returns-in-Some-clause-value c = (made_simple c.args.x.now c.args.c.now c.in-Some.simple (sym c.in_ok-simple.ensures ∙ c.in-Some.is)).1

pub returns-in-Some-clause-in_range : goal.returns-in-Some-clause-in_range
returns-in-Some-clause-in_range c = (made_simple c.args.x.now c.args.c.now c.in-Some.simple (sym c.in_ok-simple.ensures ∙ c.in-Some.is)).0

pub returns-in-None-clause-range : goal.returns-in-None-clause-range
returns-in-None-clause-range c = λ _. made_none c.args.x.now c.args.c.now (sym c.in_ok-simple.ensures ∙ c.in-None.is)

pub returns-in-Some-clause-units : goal.returns-in-Some-clause-units
returns-in-Some-clause-units c =
    ap holds_canonical (made_simple c.args.x.now c.args.c.now c.in-Some.simple (sym c.in_ok-simple.ensures ∙ c.in-Some.is)).1 ∙ simp_canonical c.args.x.now c.args.c.now

pub returns-in-Some-clause-kept : goal.returns-in-Some-clause-kept
returns-in-Some-clause-kept c =
    subst (λ (s : Calc). KeepsValue c.args.x.now c.args.c.now s) (sym (made_simple c.args.x.now c.args.c.now c.in-Some.simple (sym c.in_ok-simple.ensures ∙ c.in-Some.is)).1)
    (simp_kept c.args.x.now c.args.c.now)

pub returns-in-Some-clause-type_kept : goal.returns-in-Some-clause-type_kept
returns-in-Some-clause-type_kept c =
    ap type_of (made_simple c.args.x.now c.args.c.now c.in-Some.simple (sym c.in_ok-simple.ensures ∙ c.in-Some.is)).1 ∙ type_kept c.args.x.now c.args.c.now c.requires
