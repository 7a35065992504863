-- A refusal that is the answer.
use Rattle.std.specs.Prelude.{Result, Err}
use Rattle.std.proofs.Common.{◌≡◌}
use Rattle.cv_calc.specs.declared.calc.Calc.{Calc}
use Rattle.cv_calcread.specs.declared.error.CalcErr.{CalcErr}
use Rattle.cv_calcread.specs.declared.error.CalcErr.TheVariants.{NoCalc, NoType, Range, DivZero, Memory}
use Rattle.cv_calcread.specs.Answer.{IsRefusal}

pub refused : (a : Result Calc CalcErr) (e : CalcErr) → a ≡ Err e → IsRefusal a e
refused a NoCalc h = h
refused a NoType h = h
refused a (Range n t b) h = h
refused a (DivZero n) h = h
refused a Memory h = tt

pub ruleset refusals = (refused)
