use Rattle.cv_calcread.proofs.figure.joined.Goals as goal

pub returns-in-Undefined : goal.returns-in-Undefined
returns-in-Undefined c = rw c.in-Undefined.is (c.undefined_with.ensures c.args.joining)
