use Rattle.std.proofs.Common.{◌≡◌, ◌∙◌, Err, ap, subst, refl}
use Rattle.cv_walk.specs.Walks.{Walked}
use Rattle.cv_walk.specs.declared.walking.WalkErr.{WalkErr}
use Rattle.cv_walk.specs.declared.walking.WalkErr.TheVariants as walk
use Rattle.cv_walk.specs.Subtrees.{subtree}
use Rattle.cv_tree.specs.declared.tree.Stop.{Stop}
use Rattle.cv_tree.specs.declared.tree.Stop.TheVariants as stop
use Rattle.cv_update.specs.Walking.{Stepped}
use Rattle.cv_update.specs.declared.renewing.Renewing.{Renewing}
use Rattle.cv_update.proofs.Walked.{ready_all, renewed_all, renewed_out}
use Rattle.cv_update.proofs.renewing.fresh_of.Goals as goal

pub walk_from-requires-clause-ready : goal.walk_from-requires-clause-ready
walk_from-requires-clause-ready c =
    ready_all c.args.renewal.now c.requires
    (record { alloc = c.args.alloc; renewal = c.args.renewal; fresh = record { start = c.args.renewal.now.at; all = c.new.result } })
    (record { renewal = refl; start = refl; none = c.new.ensures.items })

pub returns-in-Ok-clause-within : goal.returns-in-Ok-clause-within
returns-in-Ok-clause-within c =
    (renewed_all c.args.renewal.now c.requires
    (record { alloc = c.args.alloc; renewal = c.args.renewal; fresh = record { start = c.args.renewal.now.at; all = c.new.result } })
    c.walk_from.new.step (record { renewal = refl; start = refl; none = c.new.ensures.items }) c.in-Ok.ensures).within

pub returns-in-Ok-clause-computed : goal.returns-in-Ok-clause-computed
returns-in-Ok-clause-computed c =
    (renewed_all c.args.renewal.now c.requires
    (record { alloc = c.args.alloc; renewal = c.args.renewal; fresh = record { start = c.args.renewal.now.at; all = c.new.result } })
    c.walk_from.new.step (record { renewal = refl; start = refl; none = c.new.ensures.items }) c.in-Ok.ensures).computed

pub returns-in-Ok-clause-stand : goal.returns-in-Ok-clause-stand
returns-in-Ok-clause-stand c =
    (renewed_all c.args.renewal.now c.requires
    (record { alloc = c.args.alloc; renewal = c.args.renewal; fresh = record { start = c.args.renewal.now.at; all = c.new.result } })
    c.walk_from.new.step (record { renewal = refl; start = refl; none = c.new.ensures.items }) c.in-Ok.ensures).stand

pub returns-in-Err-Stop-clause-range : goal.returns-in-Err-Stop-clause-range
returns-in-Err-Stop-clause-range c = λ number property is.
    let s : Renewing = record { alloc = c.args.alloc; renewal = c.args.renewal; fresh = record { start = c.args.renewal.now.at; all = c.new.result } } in
    let same : c.in-Err-Stop.stop ≡ stop.Range number property = cc in
    renewed_out c.args.renewal.now c.requires number property s c.walk_from.new.step (record { renewal = refl; start = refl; none = c.new.ensures.items })
    (subst (λ (x : WalkErr Stop). Walked Stepped (subtree c.args.renewal.now.at c.args.renewal.now.elements.now.items) s (Err x) c.walk_from.new.step) (c.in-Err-Stop.field-0-is ∙ ap walk.Stop same) c.in-Err-Stop.ensures)
