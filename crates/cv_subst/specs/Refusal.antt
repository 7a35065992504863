-- When substitution is refused.
use Rattle.std.specs.Prelude.{◌≡◌, ℕ, ◌<◌, List, length, Result, Ok, Err}
use Rattle.cv_spec_text.specs.declared.token.Token.{Token}
use Rattle.cv_subst.specs.declared.refusal.SubstErr.{SubstErr}
use Rattle.cv_subst.specs.declared.refusal.SubstErr.TheVariants.{Missing, OverLimit, Memory}

-- the cause of a refusal: the list has no value for this name, or it is longer than the limit; want of memory has none in
-- the list (a limit is asked for by Cascading Variables 1, "Safely Handling Overly-Long Variables")
abbrev pub IsCause : Result (List Token) (List ℕ) → ℕ → SubstErr → Type 0
IsCause outcome limit (Missing name) = outcome ≡ Err name
IsCause outcome limit (OverLimit count) = (tokens : List Token) × (outcome ≡ Ok tokens) × (length tokens ≡ count) × (limit < count)
IsCause outcome limit Memory = ⊥

-- the refusal is for a name that is missing, or for want of memory
abbrev pub IsMissing : Result (List Token) (List ℕ) → SubstErr → Type 0
IsMissing outcome (Missing name) = outcome ≡ Err name
IsMissing outcome (OverLimit count) = ⊥
IsMissing outcome Memory = Unit {0}
