-- What a declaration comes to. The contracts of the private functions cite it.
use Rattle.std.specs.Prelude.{ℕ, ◌≡◌, Bool, true, false, if◌then◌else◌, List, Option, Some, None, Result, Ok, Err}
use Rattle.cv_spec_ratio.specs.Ratio.{Ratio}
use Rattle.cv_spec_text.specs.declared.token.Token.{Token}
use Rattle.cv_component.specs.Parts.{trim}
use Rattle.cv_numeric.specs.declared.matched.Matched.{Matched}
use Rattle.cv_numeric.specs.declared.matched.Matched.TheVariants.{No, Out, Fit}
use Rattle.cv_value.specs.declared.typed.Typed.{Typed}
use Rattle.cv_property.specs.declared.property.Property.TheVariants.{FontSize}
use Rattle.cv_spec_element.specs.Keywords.{Keyword, by_keyword}
use Rattle.cv_valuation.specs.declared.computed.Cause.{Cause}
use Rattle.cv_valuation.specs.declared.computed.Cause.TheVariants.{Mismatch}
use Rattle.cv_valuation.specs.declared.key.Key.{Key}
use Rattle.cv_valuation.specs.declared.key.Key.TheVariants.{Custom, Table}
use Rattle.cv_valuation.specs.declared.outcome.Outcome.TheVariants.{Tokens, Value}
use Rattle.cv_valuation.specs.Keys.{same_key}
use Rattle.cv_valuation.specs.Valuations.{Values, outcome_at}
use Rattle.cv_props.specs.Registered.{Registered}
use Rattle.cv_spec_valuation.specs.declared.place.Place.{Place}
use Rattle.cv_spec_valuation.specs.Registered.{is_loose, inherits, initial_at}
use Rattle.cv_spec_valuation.specs.Contexts.{size_of, size_above, reads_at}
use Rattle.cv_spec_valuation.specs.Computed.{MayStand}
use Rattle.cv_element.specs.declared.judging.Verdict.{Verdict}
use Rattle.cv_element.specs.declared.judging.Verdict.TheVariants.{Used, Refused, OutOfRange}
use Rattle.cv_element.specs.Keywords.{alone}
use Rattle.cv_element.specs.Values.{held_by}

-- the size that `em` is where the property is read
abbrev pub em_for : Option Values → Values → Key → Ratio
em_for parent values key = if same_key key (Table FontSize) then size_above parent else size_of (outcome_at values (Table FontSize))

abbrev pub verdict_of : Matched Typed → Verdict
verdict_of No = Refused Mismatch
verdict_of Out = OutOfRange
verdict_of (Fit value) = Used (Value value)

module _ (registered : Registered) (parent : Option Values) (place : Place) (values : Values) (key : Key) where
  abbrev pub plain_verdict : List Token → Bool → Verdict
  plain_verdict trimmed true = Used (Tokens trimmed)
  plain_verdict trimmed false = verdict_of (reads_at registered parent place key (em_for parent values key) trimmed)

  abbrev pub word_verdict : List Token → Option Keyword → Verdict
  word_verdict trimmed None = plain_verdict trimmed (is_loose registered key)
  word_verdict trimmed (Some w) = Used (by_keyword (initial_at registered key) (held_by parent key) (inherits registered key) w)

  -- what the list comes to
  abbrev pub verdict_on : List Token → Verdict
  verdict_on list = word_verdict (trim list) (alone (trim list))

  -- what substitution comes to
  abbrev pub verdict_after : Result (List Token) Cause → Verdict
  verdict_after (Ok list) = verdict_on list
  verdict_after (Err cause) = Refused cause

-- a value that is used may stand there
abbrev pub MayCome : Registered → Key → Verdict → Type 0
MayCome registered key (Used outcome) = MayStand registered key outcome
MayCome registered key (Refused cause) = Unit {0}
MayCome registered key OutOfRange = Unit {0}
