-- No match, a match that is out of range, or a match with its value. That a calculation can be out of range is this project's own: CSS
-- leaves the precision of numbers to the implementation (CSS Values and Units 4, "Numeric Data Types").
use Rattle.std.specs.Prelude.{List, [], ◌∷◌}
use Rattle.cv_numeric.specs.declared.matched.Matched.{Matched}
use Rattle.cv_numeric.specs.declared.matched.Matched.TheVariants.{No, Out, Fit}

-- with its value made into another
abbrev pub mapped : {A B : Type 0} → (A → B) → Matched A → Matched B
mapped f No = No
mapped f Out = Out
mapped f (Fit a) = Fit (f a)

-- it holds of the value, where there is one
abbrev pub IfFit : {A : Type 0} → (A → Type 0) → Matched A → Type 0
IfFit P No = Unit {0}
IfFit P Out = Unit {0}
IfFit P (Fit a) = P a

-- the second is the first with its value made into another by such a step
abbrev pub IsMapped : {A B : Type 0} → (A → B → Type 0) → Matched A → Matched B → Type 0
IsMapped R No No = Unit {0}
IsMapped R No Out = ⊥
IsMapped R No (Fit b) = ⊥
IsMapped R Out No = ⊥
IsMapped R Out Out = Unit {0}
IsMapped R Out (Fit b) = ⊥
IsMapped R (Fit a) No = ⊥
IsMapped R (Fit a) Out = ⊥
IsMapped R (Fit a) (Fit b) = R a b

-- both together: no match where one is none, else out of range where one is
abbrev pub both : {A B C : Type 0} → (A → B → C) → Matched A → Matched B → Matched C
both f No o = No
both f Out No = No
both f Out Out = Out
both f Out (Fit b) = Out
both f (Fit a) No = No
both f (Fit a) Out = Out
both f (Fit a) (Fit b) = Fit (f a b)

abbrev pub all_of : {A : Type 0} → List (Matched A) → Matched (List A)
all_of [] = Fit []
all_of (o ∷ os) = both (λ a rest. a ∷ rest) o (all_of os)

abbrev pub or_else : {A : Type 0} → Matched A → Matched A → Matched A
or_else No o = o
or_else Out o = Out
or_else (Fit a) o = Fit a

-- the first that isn't no match
abbrev pub first_of : {A : Type 0} → List (Matched A) → Matched A
first_of [] = No
first_of (o ∷ os) = or_else o (first_of os)

-- both are no match, or neither is
abbrev pub IsAlike : {A : Type 0} → Matched A → Matched A → Type 0
IsAlike No No = Unit {0}
IsAlike No Out = ⊥
IsAlike No (Fit b) = ⊥
IsAlike Out No = ⊥
IsAlike (Fit a) No = ⊥
IsAlike Out Out = Unit {0}
IsAlike Out (Fit b) = Unit {0}
IsAlike (Fit a) Out = Unit {0}
IsAlike (Fit a) (Fit b) = Unit {0}
