use Rattle.std.proofs.Common.{◌≡◌, Err, subst}
use Rattle.cv_doc.specs.Walks.{Reaches}
use Rattle.cv_tree.specs.Walking.{Stepped}
use Rattle.cv_tree.specs.declared.tree.Computing.{Computing}
use Rattle.cv_tree.specs.declared.tree.Stop.{Stop}
use Rattle.cv_tree.specs.declared.tree.Stop.TheVariants as stop
use Rattle.cv_tree.proofs.Walked.{ready_all, computed_all, computed_out}
use Rattle.cv_tree.proofs.tree.computed_of.Goals as goal

pub walk-requires-clause-ready : goal.walk-requires-clause-ready
walk-requires-clause-ready c =
    ready_all c.args.elements.now.items
    (record { alloc = c.args.alloc; registry = c.args.registry; declarations = c.args.declarations; width = c.args.size.0; height = c.args.size.1; limit = c.args.limit; all = c.new.result })
    c.requires.tree c.requires.least c.requires.most c.requires.declarations c.requires.short c.new.ensures.items

pub returns-in-Ok-clause-computed : goal.returns-in-Ok-clause-computed
returns-in-Ok-clause-computed c =
    (computed_all c.args.elements.now.items
    (record { alloc = c.args.alloc; registry = c.args.registry; declarations = c.args.declarations; width = c.args.size.0; height = c.args.size.1; limit = c.args.limit; all = c.new.result })
    c.walk.new.step c.requires.tree c.new.ensures.items c.in-Ok.ensures).0

pub returns-in-Ok-clause-stand : goal.returns-in-Ok-clause-stand
returns-in-Ok-clause-stand c =
    (computed_all c.args.elements.now.items
    (record { alloc = c.args.alloc; registry = c.args.registry; declarations = c.args.declarations; width = c.args.size.0; height = c.args.size.1; limit = c.args.limit; all = c.new.result })
    c.walk.new.step c.requires.tree c.new.ensures.items c.in-Ok.ensures).1

pub returns-in-Err-clause-range : goal.returns-in-Err-clause-range
returns-in-Err-clause-range c = λ number property is.
    let s : Computing = record { alloc = c.args.alloc; registry = c.args.registry; declarations = c.args.declarations; width = c.args.size.0; height = c.args.size.1; limit = c.args.limit; all = c.new.result } in
    let same : c.in-Err.stop ≡ stop.Range number property = cc in
    computed_out number property c.args.elements.now.items s c.walk.new.step c.requires.tree c.new.ensures.items
    (subst (λ (x : Stop). Reaches Stepped 0 c.args.elements.now.items s (Err x) c.walk.new.step) same c.in-Err.ensures)
