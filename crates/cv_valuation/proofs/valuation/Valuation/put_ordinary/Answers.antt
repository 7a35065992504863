use Rattle.std.proofs.Common.{◌∙◌, ap, Result, Ok, Err, OnErr}
use Rattle.cv_valuation.specs.declared.key.Key.TheVariants.{Table}
use Rattle.cv_valuation.specs.Valuations.{with_outcome}
use Rattle.cv_valuation.proofs.Rows.{kept-same, kept-with, same-ordinary, sets-ordinary, values_by-same, values_by-with}
use Rattle.cv_valuation.proofs.valuation.Valuation.put_ordinary.Goals as goal

on_err : {T E X : Type 0} (r : Result T E) → X → OnErr r X
on_err (Ok v) x = tt
on_err (Err e) x = x

pub invariant_of-self : goal.invariant_of-self
invariant_of-self c =
    let old = c.self.inside in
    let new = c.put_in.new in (
      kept-same old.custom old.inherited old.own old.custom new.inherited new.own
          (same-ordinary old.custom old.inherited old.own new.inherited new.own c.in_err-put_in.ensures.err) c.self.invariant.0,
      c.self.invariant.1,
    )

pub returns-in_err-put_in-clause-err : goal.returns-in_err-put_in-clause-err
returns-in_err-put_in-clause-err c =
    let old = c.self.inside in
    let new = c.put_in.new in
    on_err c.from_residual.result
    (values_by-same old.custom old.inherited old.own old.custom new.inherited new.own
    (same-ordinary old.custom old.inherited old.own new.inherited new.own c.in_err-put_in.ensures.err)
    ∙ c.self.view_is)

pub invariant_of-self-2 : goal.invariant_of-self-2
invariant_of-self-2 c =
    let old = c.self.inside in
    let new = c.put_in.new in (
      kept-with old.custom old.inherited old.own old.custom new.inherited new.own (Table c.args.property) c.args.outcome
          (sets-ordinary old.custom old.inherited old.own new.inherited new.own c.args.property c.args.outcome c.in_ok-put_in.ensures.ok) c.self.invariant.0 c.requires,
      c.self.invariant.1,
    )

pub returns-clause-ok : goal.returns-clause-ok
returns-clause-ok c =
    let old = c.self.inside in
    let new = c.put_in.new in
    values_by-with old.custom old.inherited old.own old.custom new.inherited new.own (Table c.args.property) c.args.outcome
    (sets-ordinary old.custom old.inherited old.own new.inherited new.own c.args.property c.args.outcome c.in_ok-put_in.ensures.ok)
    ∙ ap (λ values. with_outcome values (Table c.args.property) c.args.outcome) c.self.view_is
