use Rattle.std.proofs.Common.{arith, subst, ◌≡◌, ◌∷◌}
use Rattle.std.proofs.lemmas.Grind.{common_steps}
use Rattle.cv_tree.specs.Names.{AreNames}
use Rattle.cv_tree.proofs.Naming.{named_next, names_tail}
use Rattle.cv_tree.proofs.names.named_keys.Goals as goal

pub loop-name-preserved : goal.loop-name-preserved
loop-name-preserved c =
    let split : c.loop-name.rest.now ≡ c.in-Some.name.now ∷ c.in-Some.after.now = c.in-Some.ensures.cases.0 in (
      grind (arith, common_steps, named_next),
      names_tail c.in-Some.name.now c.in-Some.after.now (subst AreNames split c.loop-name.invariant.1),
    )
