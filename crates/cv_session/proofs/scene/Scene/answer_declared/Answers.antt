use Rattle.std.proofs.Common.{rules}
use Rattle.cv_session.proofs.scene.Scene.answer_declared.Goals as goal

pub returns-in-Err-Range : goal.returns-in-Err-Range
returns-in-Err-Range c = record {
  element = c.in-Err-Range.element;
  property = c.in-Err-Range.property;
  out = search rules;
  text_is = search rules;
}
