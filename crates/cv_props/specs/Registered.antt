-- The registered custom properties (Properties and Values API 1, "The @property Rule").
use Rattle.std.specs.Prelude.{ℕ, ◌≡◌, true, false, All, List, bytes_eq, Option, Some}
use Rattle.std.specs.Map.{lookup}
use Rattle.cv_spec_text.specs.Keywords.{is_custom}
use Rattle.cv_spec_text.specs.Splits.{IsSpelt}
use Rattle.cv_spec_text.specs.declared.token.Token.{Token}
use Rattle.cv_component.specs.Parts.{trim}
use Rattle.cv_var.specs.References.{has_var}
use Rattle.cv_syntax.specs.declared.syntax.Syntax.{Syntax}
use Rattle.cv_syntax.specs.declared.syntax.Syntax.TheVariants.{Any, Of}
use Rattle.cv_syntax.specs.Told.{has_no_keyword}
use Rattle.cv_value.specs.Kept.{MayBeKept}
use Rattle.cv_value_laws.specs.Values.{is_keyword}
use Rattle.cv_valuation.specs.declared.outcome.Outcome.{Outcome}
use Rattle.cv_valuation.specs.declared.outcome.Outcome.TheVariants.{Tokens, Value, Invalid}
use Rattle.cv_valuation.specs.declared.key.Key.{Key}
use Rattle.cv_valuation.specs.Starts.{table_initial}
use Rattle.cv_valuation.specs.Valuations.{Values, outcome_at}
use Rattle.cv_props.specs.declared.entry.Entry.{Entry}

-- names and what is registered of them, in the order in which the names were first registered
abbrev pub Registered : Type 0
Registered = List (List ℕ × Entry)

-- what is registered of a name, if it is registered
abbrev pub entry_of : Registered → List ℕ → Option Entry
entry_of registered name = lookup (bytes_eq name) registered

-- Tokens that are an initial value: with no reference in them, and no CSS-wide keyword.
pub record IsUniversal (list : List Token) : Type 0 where
  pub spelt : All IsSpelt list
  pub without_var : has_var list ≡ false
  pub no_keyword : is_keyword (trim list) ≡ false

-- The initial value by the syntax: of the universal syntax tokens, or none, which is the guaranteed-invalid value; of any other a typed
-- value.
abbrev pub IsInitial : Syntax → Outcome → Type 0
IsInitial Any (Tokens list) = IsUniversal list
IsInitial Any (Value value) = ⊥
IsInitial Any Invalid = Unit {0}
IsInitial (Of components) (Tokens list) = ⊥
IsInitial (Of components) (Value value) = MayBeKept value
IsInitial (Of components) Invalid = ⊥

-- what is registered of a name
pub record IsEntry (name : List ℕ) (entry : Entry) : Type 0 where
  pub custom : is_custom name ≡ true
  pub no_keyword : has_no_keyword entry.syntax ≡ true
  pub initial : IsInitial entry.syntax entry.initial

abbrev pub IsRegistered : List ℕ × Entry → Type 0
IsRegistered (name, entry) = IsEntry name entry

-- each name has such an entry
abbrev pub AreEntries : Registered → Type 0
AreEntries registered = (name : List ℕ) (entry : Entry) → entry_of registered name ≡ Some entry → IsEntry name entry

-- the values are the initial ones of ordinary properties
abbrev pub IsTable : Values → Type 0
IsTable values = (key : Key) → outcome_at values key ≡ table_initial key
