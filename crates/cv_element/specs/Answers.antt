-- What substitution makes of a declaration.
use Rattle.std.specs.Prelude.{ℕ, ◌≡◌, ◌<◌, ◌≤◌, Bool, true, false, List, length, Result, Ok, Err}
use Rattle.cv_spec_text.specs.declared.token.Token.{Token}
use Rattle.cv_var.specs.References.{has_var}
use Rattle.cv_valuation.specs.declared.computed.Cause.{Cause}
use Rattle.cv_valuation.specs.declared.computed.Cause.TheVariants.{Cycle, Missing, Limit, Mismatch}
use Rattle.cv_valuation.specs.declared.key.Key.{Key}
use Rattle.cv_valuation.specs.declared.key.Key.TheVariants.{Custom, Table}

-- the limit is asked of the list: of a custom property, and of an ordinary one with references
abbrev pub is_counted : Key → List Token → Bool
is_counted (Custom name) list = true
is_counted (Table property) list = has_var list

-- the substituted list, or why there is none, of a property that is on a cycle or not
abbrev pub IsAnswer : Bool → Bool → Result (List Token) (List ℕ) → ℕ → Result (List Token) Cause → Type 0
IsAnswer counted cyclic outcome limit (Ok list) = (cyclic ≡ false) × (outcome ≡ Ok list) × (counted ≡ true → length list ≤ limit)
IsAnswer counted cyclic outcome limit (Err Cycle) = cyclic ≡ true
IsAnswer counted cyclic outcome limit (Err (Missing name)) = (cyclic ≡ false) × (outcome ≡ Err name)
IsAnswer counted cyclic outcome limit (Err (Limit count)) =
    (cyclic ≡ false) × ((list : List Token) × (outcome ≡ Ok list) × (length list ≡ count) × (limit < count) × (counted ≡ true))
IsAnswer counted cyclic outcome limit (Err Mismatch) = ⊥
