-- Refusals.
use Rattle.std.specs.Prelude.{◌≡◌, Result, Err}
use Rattle.cv_reify.specs.declared.error.ReifyErr.{ReifyErr}
use Rattle.cv_reify.specs.declared.error.ReifyErr.TheVariants.{Range, Memory}

-- a refusal is the one of the definition, but for want of memory
abbrev pub IsRefusal : {A : Type 0} → Result A ReifyErr → ReifyErr → Type 0
IsRefusal answer Memory = Unit {0}
IsRefusal answer Range = answer ≡ Err Range
