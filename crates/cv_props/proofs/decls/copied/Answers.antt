use Rattle.std.proofs.Common.{◌∙◌, ap, sym, ◌++◌}
use Rattle.cv_props.proofs.Entries.{next_entry}
use Rattle.cv_props.proofs.decls.copied.Goals as goal

pub loop-key-preserved : goal.loop-key-preserved
loop-key-preserved c =
    let done = c.loop-key.all.entries in
    ap (λ entries. entries ++ c.next.new.self) c.in_ok-add_copy.ensures
    ∙ next_entry done c.next.new.self c.args.declarations.now.entries (c.in-Some.key.now, c.in-Some.declaration.now) c.iter-key-items.ensures.unique (ap (λ rest. done ++ rest) (sym c.in-Some.ensures.steps) ∙ c.loop-key.invariant)
