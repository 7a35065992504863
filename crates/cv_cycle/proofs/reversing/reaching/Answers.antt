use Rattle.std.proofs.Common.{◌≡◌, ℕ, List, Bool, Result, Ok, Err, ◌↔◌, length, sym, ◌∙◌, ap, subst}
use Rattle.std.specs.Prelude.{IfOk}
use Rattle.std.proofs.lemmas.Result.{IfOk-weaker}
use Rattle.cv_cycle.specs.Marks.{IsMarked}
use Rattle.cv_cycle.specs.Reversing.{IsReachedBack, IsReversed}
use Rattle.cv_cycle.specs.Spreading.{IsReached}
use Rattle.cv_cycle.proofs.Turning.{reached_back}
use Rattle.cv_cycle.proofs.reversing.reaching.Goals as goal

pub returns-clause-reaching : goal.returns-clause-reaching
returns-clause-reaching g c =
    IfOk-weaker c.reached.result (λ marks. (node : ℕ) → IsMarked marks.items node ↔ IsReached c.in_ok-back.back c.args.goals.now node) (λ marks. (node : ℕ) → IsMarked marks.items node ↔ IsReachedBack c.args.graph.now c.args.through.now c.args.goals.now node)
    (λ marks reached node.
    let back = reached_back c.args.graph.now c.args.through.now c.args.goals.now c.in_ok-back.back c.in_ok-back.ensures.back node in
    ((λ marked. back.0 ((reached node).0 marked)), (λ far. (reached node).1 (back.1 far))))
    c.reached.ensures.reached
