use Rattle.std.proofs.Common.{sym, subst}
use Rattle.std.specs.Prelude.{All}
use Rattle.cv_valuation.specs.Keys.{same_key}
use Rattle.cv_props.specs.Declaring.{IsDeclaredEntry}
use Rattle.cv_props.proofs.Entries.{All-remove_entry}
use Rattle.cv_props.proofs.decls.Decls.remove.Goals as goal

pub invariant_of-self : goal.invariant_of-self
invariant_of-self c =
    subst (All IsDeclaredEntry) (sym c.shift_remove.ensures.entries) (All-remove_entry IsDeclaredEntry (same_key c.args.key.now) c.self.inside.declarations.entries c.self.invariant)
