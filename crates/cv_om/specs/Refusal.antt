-- Answers that may be refused, one after the other.
use Rattle.std.specs.Prelude.{◌≡◌, Result, Ok, Err, List, [], ◌∷◌}
use Rattle.cv_spec_ratio.specs.Ratio.{Ratio}
use Rattle.cv_frac.specs.declared.error.FracErr.{FracErr}
use Rattle.cv_om.specs.declared.error.OmErr.{OmErr}
use Rattle.cv_om.specs.declared.error.OmErr.TheVariants.{Syntax, BadType, RangeError, Range, Memory}

-- what follows an answer, where it is no refusal
abbrev pub and_then : {A B : Type 0} → Result A OmErr → (A → Result B OmErr) → Result B OmErr
and_then (Ok a) f = f a
and_then (Err e) f = Err e

abbrev pub answer_map : {A B : Type 0} → (A → B) → Result A OmErr → Result B OmErr
answer_map f (Ok a) = Ok (f a)
answer_map f (Err e) = Err e

-- all answers, or the first refusal
unfoldable pub all_of : {A : Type 0} → List (Result A OmErr) → Result (List A) OmErr
all_of [] = Ok []
all_of (r ∷ rs) = and_then r (λ a. answer_map (λ rest. a ∷ rest) (all_of rs))

-- a fraction that has to be in bounds
abbrev pub in_range : Result Ratio FracErr → Result Ratio OmErr
in_range (Ok r) = Ok r
in_range (Err e) = Err Range

-- a refusal is the one of the definition, but for want of memory
abbrev pub IsRefusal : {A : Type 0} → Result A OmErr → OmErr → Type 0
IsRefusal answer Memory = Unit {0}
IsRefusal answer Syntax = answer ≡ Err Syntax
IsRefusal answer BadType = answer ≡ Err BadType
IsRefusal answer RangeError = answer ≡ Err RangeError
IsRefusal answer Range = answer ≡ Err Range
