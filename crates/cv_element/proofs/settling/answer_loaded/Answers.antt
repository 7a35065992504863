use Rattle.std.proofs.Common.{false, IfOk, subst}
use Rattle.cv_var.specs.References.{pieces_of}
use Rattle.cv_subst.specs.Values.{value_in}
use Rattle.cv_element.specs.Settling.{value_at}
use Rattle.cv_element.specs.Answers.{IsAnswer, is_counted}
use Rattle.cv_element.proofs.Keying.{sub-agrees}
use Rattle.cv_element.proofs.settling.answer_loaded.Goals as goal

pub returns-clause-answer : goal.returns-clause-answer
returns-clause-answer c =
    subst (λ o. IfOk c.answer.result (IsAnswer (is_counted c.args.key.now c.args.declared.now) false o c.args.limit)) (sub-agrees (value_in c.load_references.new.runs) (value_at c.args.values.now) (pieces_of c.args.declared.now) c.in_ok-load_references.ensures.here) c.answer.ensures
