use Rattle.std.proofs.Common.{Some, ap, ◌∙◌}
use Rattle.cv_map.proofs.Found.{found_if, is_memory, refused_if}
use Rattle.cv_map.proofs.value.checked.Goals as goal

pub returns-in-Ok : goal.returns-in-Ok
returns-in-Ok c = ap Some c.in-Ok.ensures.ok ∙ found_if c.args.list c.in-Ok.ensures.checked

pub returns-in-Err-TooDeep : goal.returns-in-Err-TooDeep
returns-in-Err-TooDeep c = refused_if c.args.list c.in-Err-TooDeep.field-0 (ap is_memory c.in-Err-TooDeep.field-0-is) c.in-Err-TooDeep.ensures.only_where

pub returns-in-Err-BadValue : goal.returns-in-Err-BadValue
returns-in-Err-BadValue c = refused_if c.args.list c.in-Err-BadValue.field-0 (ap is_memory c.in-Err-BadValue.field-0-is) c.in-Err-BadValue.ensures.only_where

pub returns-in-Err-BadVar : goal.returns-in-Err-BadVar
returns-in-Err-BadVar c = refused_if c.args.list c.in-Err-BadVar.field-0 (ap is_memory c.in-Err-BadVar.field-0-is) c.in-Err-BadVar.ensures.only_where
