-- What relative units stand for where a property of an element is read, and what a list is there (Values and Units 4,
-- "Relative Lengths").
use Rattle.std.specs.Prelude.{pos, List, Option, Some, None}
use Rattle.cv_spec_text.specs.declared.token.Token.{Token}
use Rattle.cv_spec_ratio.specs.Ratio.{Ratio, ratio}
use Rattle.cv_calc.specs.declared.context.Basis.TheVariants.{Plain}
use Rattle.cv_calc.specs.declared.context.Context.{Context}
use Rattle.cv_numeric.specs.declared.matched.Matched.{Matched as Answer}
use Rattle.cv_numeric.specs.declared.matched.Matched.TheVariants as answer
use Rattle.cv_numeric.specs.Matched.{mapped}
use Rattle.cv_value.specs.declared.typed.Item.TheVariants.{Length}
use Rattle.cv_value.specs.declared.typed.Typed.{Typed}
use Rattle.cv_value.specs.declared.typed.Typed.TheVariants.{One}
use Rattle.cv_value.specs.Matching.{matching}
use Rattle.cv_property.specs.declared.property.Property.{Property}
use Rattle.cv_property.specs.declared.property.Property.TheVariants.{FontSize}
use Rattle.cv_property.specs.Table.{initial_of}
use Rattle.cv_property.specs.Grammar.{matching_property}
use Rattle.cv_property.specs.Computed.{computed_of}
use Rattle.cv_spec_element.specs.Element.{Matched, no, out, fit}
use Rattle.cv_valuation.specs.declared.key.Key.{Key}
use Rattle.cv_valuation.specs.declared.key.Key.TheVariants.{Custom, Table}
use Rattle.cv_valuation.specs.declared.outcome.Outcome.{Outcome as Kept}
use Rattle.cv_valuation.specs.declared.outcome.Outcome.TheVariants as kept
use Rattle.cv_valuation.specs.Valuations.{Values, outcome_at}
use Rattle.cv_props.specs.declared.entry.Entry.{Entry}
use Rattle.cv_props.specs.Registered.{Registered, entry_of}
use Rattle.cv_spec_valuation.specs.declared.place.Place.{Place}

-- the px that are the initial font size, `medium` (that it is 16 of them is this project's own)
abbrev pub medium_size : Ratio
medium_size = ratio (pos 16) 1

-- the size that a value of `font-size` is; such a value is always a length
abbrev pub size_of : Kept → Ratio
size_of (kept.Value (One (Length size))) = size
size_of outcome = medium_size

-- the parent's font size; on the root the initial one
abbrev pub size_above : Option Values → Ratio
size_above None = medium_size
size_above (Some values) = size_of (outcome_at values (Table FontSize))

-- the typed value of the outcome, and the other where it is none
abbrev pub typed_or : Typed → Kept → Typed
typed_or other (kept.Value value) = value
typed_or other (kept.Tokens list) = other
typed_or other kept.Invalid = other

-- the value that an ordinary property inherits: the parent's, on the root the initial one (Cascade 4, "Inheritance")
abbrev pub inherited_from : Option Values → Property → Typed
inherited_from None property = initial_of property
inherited_from (Some values) property = typed_or (initial_of property) (outcome_at values (Table property))

-- `rem` is the root's font size; on the root it is what `em` is
abbrev pub rem_of : Option Ratio → Ratio → Ratio
rem_of None em = em
rem_of (Some size) em = size

-- the context in which `em` is this size; a grammar sets the basis of percentages itself
abbrev pub context_of : Place → Ratio → Context
context_of place em = record { em = em; rem = rem_of place.root em; width = place.width; height = place.height; basis = Plain }

abbrev pub told : Answer Typed → Matched Typed
told answer.No = no
told answer.Out = out
told (answer.Fit value) = fit value

-- A list against what is registered (Properties and Values API 1, "Calculation of Computed Values"). A name that isn't
-- registered has no syntax, and its lists aren't read.
abbrev pub reads_by : Option Entry → Context → List Token → Answer Typed
reads_by None x list = answer.No
reads_by (Some entry) x list = matching entry.syntax x list

module _ (registered : Registered) (parent : Option Values) (place : Place) where
  -- the trimmed list against the key's syntax or grammar where `em` is this size, with its computed value
  abbrev pub reads_at : Key → Ratio → List Token → Answer Typed
  reads_at (Custom name) em list = reads_by (entry_of registered name) (context_of place em) list
  reads_at (Table property) em list = mapped (computed_of property (inherited_from parent property)) (matching_property property (context_of place em) list)
