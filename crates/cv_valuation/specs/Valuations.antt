-- What the properties of an element stand for: tokens, a typed value (Properties and Values API 1, "Calculation of Computed Values"),
-- or the guaranteed-invalid value (Cascading Variables 1, "Guaranteed-Invalid Values").
use Rattle.std.specs.Prelude.{ℕ, ◌≡◌, true, false, List, [], ◌∷◌, ◌++◌, codes, All, Option, Some, None}
use Rattle.std.specs.FinMap as map
use Rattle.cv_spec_text.specs.Characters.{space}
use Rattle.cv_spec_text.specs.Printing.{bytes}
use Rattle.cv_spec_text.specs.Splits.{IsSpelt}
use Rattle.cv_spec_text.specs.declared.token.Token.{Token}
use Rattle.cv_component.specs.Parts.{trim}
use Rattle.cv_var.specs.References.{has_var}
use Rattle.cv_value.specs.Kept.{MayBeKept}
use Rattle.cv_value.specs.Text.{typed_text}
use Rattle.cv_value_laws.specs.Values.{is_keyword}
use Rattle.cv_valuation.specs.declared.key.Key.{Key}
use Rattle.cv_valuation.specs.declared.outcome.Outcome.{Outcome}
use Rattle.cv_valuation.specs.declared.outcome.Outcome.TheVariants.{Tokens, Value, Invalid}
use Rattle.cv_valuation.specs.Keys.{is_custom_key, is_key, key_cmp}
use Rattle.cv_valuation.specs.Kept.{Kept, tokens, typed}

-- what stands for the keys that aren't invalid
abbrev pub Values : Type 0
Values = map.FinMap key_cmp Kept

abbrev pub outcome_of : Option Kept → Outcome
outcome_of None = Invalid
outcome_of (Some (tokens list)) = Tokens list
outcome_of (Some (typed value)) = Value value

abbrev pub outcome_at : Values → Key → Outcome
outcome_at values key = outcome_of (map.get values key)

-- The tokens that a reference stands for: those of the list or of the typed value (Properties and Values API 1, "Substitution via
-- var()"). None for the guaranteed-invalid value.
abbrev pub outcome_tokens : Outcome → Option (List Token)
outcome_tokens (Tokens list) = Some list
outcome_tokens (Value value) = Some (typed_text value)
outcome_tokens Invalid = None

-- the values with this outcome for the key, and every other as it was
abbrev pub with_outcome : Values → Key → Outcome → Values
with_outcome values key (Tokens list) = map.insert values key (tokens list)
with_outcome values key (Value value) = map.insert values key (typed value)
with_outcome values key Invalid = map.remove values key

-- the values that a list of entries gives; of two for one key the first counts
abbrev pub valuation_of : List (Key × Outcome) → Values
valuation_of [] = map.empty
valuation_of ((key, outcome) ∷ entries) = with_outcome (valuation_of entries) key outcome

-- Tokens that may be kept for a key: those of a custom property, with no reference in them, that are no CSS-wide keyword.
pub record IsKept (key : Key) (list : List Token) : Type 0 where
  pub custom : is_custom_key key ≡ true
  pub spelt : All IsSpelt list
  pub without_var : has_var list ≡ false
  pub no_keyword : is_keyword (trim list) ≡ false

-- what may be kept for a key: such tokens; a typed value, for a custom property as for an ordinary one; or the guaranteed-invalid value
abbrev pub MayKeep : Key → Outcome → Type 0
MayKeep key (Tokens list) = IsKept key list
MayKeep key (Value value) = (is_key key ≡ true) × MayBeKept value
MayKeep key Invalid = Unit {0}

-- a text behind a space, and nothing where it is empty
abbrev pub spaced : List ℕ → List ℕ
spaced [] = []
spaced (byte ∷ text) = space ∷ byte ∷ text

-- the outcome as the report writes it: `invalid`, or `=` and the tokens
abbrev pub outcome_text : Outcome → List ℕ
outcome_text (Tokens list) = codes "=" ++ spaced (bytes list)
outcome_text (Value value) = codes "=" ++ spaced (bytes (typed_text value))
outcome_text Invalid = codes "invalid"
