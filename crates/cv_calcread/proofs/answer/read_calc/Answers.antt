use Rattle.cv_calcread.proofs.Agreed.{ok_answer, err_answer, tree_answer, no_calc_answer}
use Rattle.cv_calcread.proofs.answer.read_calc.Goals as goal

pub returns-clause-ok : goal.returns-clause-ok
returns-clause-ok c = ok_answer c.args.tokens.now c.found.result c.found.ensures.ok

pub returns-clause-err : goal.returns-clause-err
returns-clause-err c = err_answer c.args.tokens.now c.found.result c.found.ensures.err

pub returns-clause-tree : goal.returns-clause-tree
returns-clause-tree c = tree_answer c.args.tokens.now c.found.result c.found.ensures.ok

pub returns-clause-no_calc : goal.returns-clause-no_calc
returns-clause-no_calc c = no_calc_answer c.args.tokens.now c.found.result c.found.ensures.err
