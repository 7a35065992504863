-- How the values of an element are settled, one property after another. The contracts of the private functions cite it.
use Rattle.std.specs.Prelude.{ℕ, ◌≡◌, ◌<◌, ◌≤◌, ◌↔◌, ◌⊎◌, Bool, false, if◌then◌else◌, List, [], ◌∷◌, ◌++◌, length, Option, Some, None, Result, Ok, Err, Contains, slice_get, slice_index}
use Rattle.cv_cycle.specs.Marks.{IsMarked, StandsIn}
use Rattle.cv_spec_text.specs.declared.token.Token.{Token}
use Rattle.cv_value.specs.declared.typed.Typed.{Typed}
use Rattle.cv_property.specs.declared.property.Property.TheVariants.{FontSize}
use Rattle.cv_spec_element.specs.Pieces.{RefersTo, sub}
use Rattle.cv_spec_element.specs.Element.{Outcome}
use Rattle.cv_spec_element.specs.Dependencies.{Reads, DependsOnItself}
use Rattle.cv_spec_element.specs.Valuation.{Cause, IsInvalid, IsOutOfRange, Gives}
use Rattle.cv_subst.specs.Values.{value_in}
use Rattle.cv_var.specs.Checked.{IsChecked}
use Rattle.cv_var.specs.References.{pieces_of}
use Rattle.cv_valuation.specs.declared.computed.Cause.{Cause as Reported}
use Rattle.cv_valuation.specs.declared.key.Key.{Key}
use Rattle.cv_valuation.specs.declared.key.Key.TheVariants.{Custom, Table}
use Rattle.cv_valuation.specs.declared.outcome.Outcome.{Outcome as Kept}
use Rattle.cv_valuation.specs.Valuations.{Values, outcome_at, outcome_tokens, with_outcome}
use Rattle.cv_props.specs.declared.decls.Decl.{Decl}
use Rattle.cv_props.specs.Registered.{Registered}
use Rattle.cv_props.specs.Winners.{Declarations}
use Rattle.cv_spec_valuation.specs.declared.place.Place.{Place}
use Rattle.cv_spec_valuation.specs.Element.{values_of}
use Rattle.cv_spec_valuation.specs.Computed.{Faults, IsOnce, IsReported}
use Rattle.cv_element.specs.declared.judging.Verdict.{Verdict}
use Rattle.cv_element.specs.declared.judging.Verdict.TheVariants.{Used, Refused, OutOfRange}
use Rattle.cv_element.specs.declared.settling.Settling.{Settling}
use Rattle.cv_element.specs.Answers.{IsAnswer, is_counted}
use Rattle.cv_element.specs.Judging.{verdict_after}
use Rattle.cv_element.specs.Values.{AnElement, start_at, invalid_at}

-- the key at this place of the declarations
abbrev pub key_in : Option (Key × Decl) → Key
key_in None = Table FontSize
key_in (Some entry) = entry.0

abbrev pub key_at : Declarations → ℕ → Key
key_at decls place = key_in (slice_get decls place)

abbrev pub Runs : Type 0
Runs = List (List ℕ × List Token)

-- the tokens that a reference to the name stands for
abbrev pub value_at : Values → List ℕ → Option (List Token)
value_at values name = outcome_tokens (outcome_at values (Custom name))

-- what is loaded stands among the values
abbrev pub IsLoaded : Runs → Values → Type 0
IsLoaded runs values = (name : List ℕ) (list : List Token) → value_in runs name ≡ Some list → value_at values name ≡ Some list

abbrev pub value_for : Registered → Option Values → Key → Verdict → Kept
value_for registered parent key (Used outcome) = outcome
value_for registered parent key (Refused cause) = invalid_at registered parent key
value_for registered parent key OutOfRange = start_at registered parent key

abbrev pub faults_after : Faults → Key → Verdict → Faults
faults_after faults key (Used outcome) = faults
faults_after faults key (Refused cause) = faults ++ (key, cause) ∷ []
faults_after faults key OutOfRange = faults

abbrev pub first_of : Option Key → Key → Option Key
first_of None key = Some key
first_of (Some first) key = Some first

abbrev pub range_after : Option Key → Key → Verdict → Option Key
range_after range key (Used outcome) = range
range_after range key (Refused cause) = range
range_after range key OutOfRange = first_of range key

-- one more property is settled
pub record Settles (registered : Registered) (parent : Option Values) (place : Place) (key : Key) (declared : List Token) (cyclic : Bool) (limit : ℕ) (s s' : Settling) : Type 0 where
  pub checked : IsChecked declared
  pub loaded : IsLoaded s'.runs s.values
  pub more : (other : List ℕ) → (value_in s'.runs other ≡ value_in s.runs other) ⊎ ((cyclic ≡ false) × RefersTo (pieces_of declared) other)
  pub answer : Result (List Token) Reported
  pub is_answer : IsAnswer (is_counted key declared) cyclic (sub (value_at s.values) (pieces_of declared)) limit answer
  pub values : s'.values ≡ with_outcome s.values key (value_for registered parent key (verdict_after registered parent place s.values key answer))
  pub faults : s'.faults ≡ faults_after s.faults key (verdict_after registered parent place s.values key answer)
  pub range : s'.range ≡ range_after s.range key (verdict_after registered parent place s.values key answer)

-- The places of the declarations in an order in which each comes behind those that its equation reads.
pub record IsPlan (e : AnElement) (decls : Declarations) (order : List ℕ) (flags : List Bool) : Type 0 where
  pub stands : (place : ℕ) → (place < length decls) ↔ StandsIn order 0 (length decls) place
  pub once : (i j : ℕ) → i < length decls → j < length decls → slice_index order i ≡ slice_index order j → i ≡ j
  pub cyclic : (place : ℕ) → place < length decls → IsMarked flags place ↔ DependsOnItself e (key_at decls place)
  pub earlier : (i to : ℕ) → i < length decls → to < length decls → Reads e (key_at decls (slice_index order i)) (key_at decls to) → StandsIn order 0 i to

-- the key that comes at this place of the order
abbrev pub key_of : Declarations → List ℕ → ℕ → Key
key_of decls order i = key_at decls (slice_index order i)

-- the key is one of the first so many of the order
abbrev pub IsSettledKey : Declarations → List ℕ → ℕ → Key → Type 0
IsSettledKey decls order count key = (i : ℕ) × (i < count) × (key_of decls order i ≡ key)

-- the key is one of the others of the order
abbrev pub IsOpenKey : Declarations → List ℕ → ℕ → Key → Type 0
IsOpenKey decls order count key = (i : ℕ) × (count ≤ i) × (i < length decls) × (key_of decls order i ≡ key)

-- The key has its value, its cause and its range by what the equations gave where they read the values of a moment, and what they
-- read stands unchanged.
pub record IsTold (e : AnElement) (values : Values) (faults : Faults) (range : Option Key) (key : Key) : Type 0 where
  pub earlier : Key → Outcome Token Typed
  pub kept : (q : Key) → Reads e key q → earlier q ≡ values_of values q
  pub given : Gives e earlier key (values_of values key)
  pub told : (cause : Cause Key) → IsReported faults key cause ↔ IsInvalid e earlier key cause
  pub named : range ≡ Some key → IsOutOfRange e earlier key
  pub in_range : range ≡ None → ¬ IsOutOfRange e earlier key

-- the first so many properties of the order are settled
pub record IsSettling (e : AnElement) (decls : Declarations) (order : List ℕ) (start : Key → Kept) (count : ℕ) (s : Settling) : Type 0 where
  pub loaded : IsLoaded s.runs s.values
  pub closed : (name : List ℕ) (list : List Token) → value_in s.runs name ≡ Some list → ¬ IsOpenKey decls order count (Custom name)
  pub untouched : (key : Key) → ¬ IsSettledKey decls order count key → outcome_at s.values key ≡ start key
  pub told : (i : ℕ) → i < count → IsTold e s.values s.faults s.range (key_of decls order i)
  pub faults : (key : Key) (cause : Reported) → Contains s.faults (key, cause) → IsSettledKey decls order count key
  pub range : (key : Key) → s.range ≡ Some key → IsSettledKey decls order count key
  pub once : IsOnce s.faults
