use Rattle.std.specs.Prelude.{ℤ}
use Rattle.std.proofs.Common.{◌∙◌, ap, Vec, Global}
use Rattle.cv_om.specs.Coded.{map_code}
use Rattle.cv_om.proofs.FoundTerms.{add_refused, add_done, add_coded}
use Rattle.cv_om.proofs.terms.Terms.add.Goals as goal

pub returns-in-Err-clause-err : goal.returns-in-Err-clause-err
returns-in-Err-clause-err c =
    add_refused (λ (k : Vec ℤ Global). k.items) c.self.inside.by_code.entries c.in_ok-code.code c.args.self.now c.args.item _ c.self.view_is c.self.invariant
    (c.in_ok-code.ensures ∙ ap map_code c.as_slice.ensures) c.get.ensures.value c.in-Err.error c.in-Err.ensures.err

pub returns-in-Ok-insert-clause-ok : goal.returns-in-Ok-insert-clause-ok
returns-in-Ok-insert-clause-ok c =
    add_done (λ (k : Vec ℤ Global). k.items) c.self.inside.by_code.entries c.in_ok-code.code c.args.self.now c.args.item _ c.self.view_is c.self.invariant
    (c.in_ok-code.ensures ∙ ap map_code c.as_slice.ensures) c.get.ensures.value c.insert.new.self.entries c.in-Ok.sum c.in-Ok-insert.ensures.entries c.in-Ok.ensures.ok

pub invariant_of-self : goal.invariant_of-self
invariant_of-self c =
    add_coded (λ (k : Vec ℤ Global). k.items) c.self.inside.by_code.entries c.in_ok-code.code c.args.self.now c.args.item _ c.self.view_is c.self.invariant
    (c.in_ok-code.ensures ∙ ap map_code c.as_slice.ensures) c.get.ensures.value c.insert.new.self.entries c.in-Ok.sum c.in-Ok-insert.ensures.entries c.in-Ok.ensures.ok
