use Rattle.std.proofs.Common.{◌∙◌, ap, sym, ◌++◌}
use Rattle.cv_props.proofs.Naming.{next_name}
use Rattle.cv_props.proofs.registry.copied.Goals as goal

pub loop-name-preserved : goal.loop-name-preserved
loop-name-preserved c =
    let done = c.loop-name.all.entries in
    ap (λ entries. entries ++ c.next.new.self) c.in_ok-add_copy.ensures
    ∙ next_name done c.next.new.self c.args.entries.now.entries (c.in-Some.name.now, c.in-Some.entry.now) c.iter-name-items.ensures.unique (ap (λ rest. done ++ rest) (sym c.in-Some.ensures.steps) ∙ c.loop-name.invariant)
