-- What the registry and the table of ordinary properties say of a key (Properties and Values API 1, "The @property Rule";
-- Cascading Variables 1, "Defining Custom Properties").
use Rattle.std.specs.Prelude.{Bool, true, false, not, Option, Some, None}
use Rattle.cv_spec_text.specs.declared.token.Token.{Token}
use Rattle.cv_syntax.specs.declared.syntax.Syntax.{Syntax}
use Rattle.cv_syntax.specs.declared.syntax.Syntax.TheVariants.{Any, Of}
use Rattle.cv_value.specs.declared.typed.Typed.{Typed}
use Rattle.cv_syntax.specs.Told.{has_no_length}
use Rattle.cv_property.specs.Table as table
use Rattle.cv_spec_element.specs.Element.{Outcome, tokens, typed, invalid}
use Rattle.cv_valuation.specs.declared.key.Key.{Key}
use Rattle.cv_valuation.specs.declared.key.Key.TheVariants.{Custom, Table}
use Rattle.cv_valuation.specs.declared.outcome.Outcome.{Outcome as Kept}
use Rattle.cv_valuation.specs.declared.outcome.Outcome.TheVariants as kept
use Rattle.cv_props.specs.declared.entry.Entry.{Entry}
use Rattle.cv_props.specs.Registered.{Registered, entry_of}

-- the outcome as the equations read it
abbrev pub as_read : Kept → Outcome Token Typed
as_read (kept.Tokens list) = tokens list
as_read (kept.Value value) = typed value
as_read kept.Invalid = invalid

abbrev pub is_custom : Key → Bool
is_custom (Custom name) = true
is_custom (Table property) = false

abbrev pub is_any : Syntax → Bool
is_any Any = true
is_any (Of components) = false

-- what an entry says of a custom property, and what is so of one that isn't registered: it is loose, inherits, and its initial
-- value is the guaranteed-invalid one
abbrev pub is_loose_by : Option Entry → Bool
is_loose_by None = true
is_loose_by (Some entry) = is_any entry.syntax

abbrev pub inherits_by : Option Entry → Bool
inherits_by None = true
inherits_by (Some entry) = entry.inherits

abbrev pub has_lengths_by : Option Entry → Bool
has_lengths_by None = false
has_lengths_by (Some entry) = not (has_no_length entry.syntax)

abbrev pub initial_by : Option Entry → Kept
initial_by None = kept.Invalid
initial_by (Some entry) = entry.initial

module _ (registered : Registered) where
  -- unregistered, or registered with the syntax `*`
  abbrev pub is_loose : Key → Bool
  is_loose (Custom name) = is_loose_by (entry_of registered name)
  is_loose (Table property) = false

  abbrev pub inherits : Key → Bool
  inherits (Custom name) = inherits_by (entry_of registered name)
  inherits (Table property) = table.inherits property

  -- the syntax has `<length>` or `<length-percentage>` among its components
  abbrev pub has_lengths : Key → Bool
  has_lengths (Custom name) = has_lengths_by (entry_of registered name)
  has_lengths (Table property) = false

  -- the initial value (Cascade 4, "Initial Values")
  abbrev pub initial_at : Key → Kept
  initial_at (Custom name) = initial_by (entry_of registered name)
  initial_at (Table property) = kept.Value (table.initial_of property)
