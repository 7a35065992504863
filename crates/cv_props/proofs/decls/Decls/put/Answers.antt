use Rattle.std.proofs.Common.{sym, subst}
use Rattle.std.specs.Prelude.{All}
use Rattle.cv_props.specs.Declaring.{IsDeclaredEntry}
use Rattle.cv_props.proofs.Entries.{All-insert_entry}
use Rattle.cv_props.proofs.decls.Decls.put.Goals as goal

pub invariant_of-self-2 : goal.invariant_of-self-2
invariant_of-self-2 c =
    subst (All IsDeclaredEntry) (sym c.in_ok-insert.ensures.entries) (All-insert_entry IsDeclaredEntry c.self.inside.declarations.entries c.args.key c.args.declaration c.self.invariant c.requires)
