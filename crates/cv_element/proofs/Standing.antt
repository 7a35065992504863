-- Initial values, and what keywords give, may stand under the registry.
use Rattle.std.specs.Prelude.{IfOk}
use Rattle.std.proofs.Common.{Result, Ok, Err, ◌≡◌, Bool, true, false, cond, ℕ, List, Option, Some, None, ◌⊎◌, inl, inr, refl, sym, ◌∙◌, ap, subst}
use Rattle.cv_spec_text.specs.Keywords.{is_custom}
use Rattle.cv_syntax.specs.declared.syntax.Syntax.{Syntax}
use Rattle.cv_syntax.specs.declared.syntax.Syntax.TheVariants.{Any, Of}
use Rattle.cv_property_laws.specs.Keeping.{PropertiesMayBeKept}
use Rattle.cv_spec_element.specs.Keywords.{Keyword, initial, inherit, unset, revert, revert_layer, inherited, defaulted, by_keyword}
use Rattle.cv_valuation.specs.declared.key.Key.{Key}
use Rattle.cv_valuation.specs.declared.key.Key.TheVariants.{Custom, Table}
use Rattle.cv_valuation.specs.declared.outcome.Outcome.{Outcome}
use Rattle.cv_valuation.specs.declared.outcome.Outcome.TheVariants.{Tokens, Value, Invalid}
use Rattle.cv_value.specs.Kept.{MayBeKept}
use Rattle.cv_valuation.specs.Valuations.{Values, outcome_at, MayKeep}
use Rattle.cv_props.specs.declared.entry.Entry.{Entry}
use Rattle.cv_props.specs.Registered.{Registered, entry_of, IsEntry, IsInitial, AreEntries}
use Rattle.cv_spec_valuation.specs.Registered.{is_any, is_loose, inherits, initial_at, is_loose_by, initial_by}
use Rattle.cv_spec_valuation.specs.Computed.{IsOfKind, MayStand, StandUnder, ParentStandsUnder}
use Rattle.cv_element.specs.Values.{held_by, start_at, invalid_at}

-- what a property has where it is loose, and where it isn't
abbrev IsOfKindBy : Bool → Outcome → Type 0
IsOfKindBy loose (Tokens list) = loose ≡ true
IsOfKindBy loose (Value value) = loose ≡ false
IsOfKindBy loose Invalid = loose ≡ true

-- what is registered of a name stands there
entry_stands : (name : List ℕ) (entry : Option Entry) (s : Syntax) (o : Outcome) → is_custom name ≡ true → is_loose_by entry ≡ is_any s → IsInitial s o → MayKeep (Custom name) o × ((loose : Bool) → loose ≡ is_loose_by entry → IsOfKindBy loose o)
entry_stands name entry Any (Tokens list) custom loose i =
    (record { custom = custom; spelt = i.spelt; without_var = i.without_var; no_keyword = i.no_keyword }, λ b is. is ∙ loose)
entry_stands name entry Any (Value value) custom loose i = absurd i
entry_stands name entry Any Invalid custom loose i = (tt, λ b is. is ∙ loose)
entry_stands name entry (Of components) (Tokens list) custom loose i = absurd i
entry_stands name entry (Of components) (Value value) custom loose i = ((custom, i), λ b is. is ∙ loose)
entry_stands name entry (Of components) Invalid custom loose i = absurd i

of_kind : (registered : Registered) (key : Key) (o : Outcome) → IsOfKindBy (is_loose registered key) o → IsOfKind registered key o
of_kind registered key (Tokens list) is = is
of_kind registered key (Value value) is = is
of_kind registered key Invalid is = is

custom_stands : (registered : Registered) (name : List ℕ) (found : Option Entry) → entry_of registered name ≡ found → ((entry : Entry) → found ≡ Some entry → IsEntry name entry) → MayStand registered (Custom name) (initial_by found)
custom_stands registered name None is entries = (tt, ap is_loose_by is)
custom_stands registered name (Some entry) is entries =
    let may = entry_stands name (Some entry) entry.syntax entry.initial (entries entry refl).custom refl (entries entry refl).initial in
    (may.0, of_kind registered (Custom name) entry.initial (may.1 (is_loose registered (Custom name)) (ap is_loose_by is)))

pub initial_stands : PropertiesMayBeKept → (registered : Registered) → AreEntries registered → (key : Key) → MayStand registered key (initial_at registered key)
initial_stands laws registered entries (Table p) = ((refl, laws.initial p), refl)
initial_stands laws registered entries (Custom name) = custom_stands registered name (entry_of registered name) refl (λ entry is. entries name entry is)

-- the value is the initial one or the parent's
keyword_cases : {O : Type 0} (P : O → Type 0) (first : O) (parent : Option O) (inherits : Bool) (w : Keyword) → P first → ((value : O) → parent ≡ Some value → P value) → P (by_keyword first parent inherits w)
keyword_cases {O} P first parent inherits w here there = by_word w
  where
    of_inherited : (o : Option O) → parent ≡ o → P (inherited first o)
    of_inherited None is = here
    of_inherited (Some value) is = there value is

    of_defaulted : (b : Bool) → P (defaulted first parent b)
    of_defaulted true = of_inherited parent refl
    of_defaulted false = here

    by_word : (w : Keyword) → P (by_keyword first parent inherits w)
    by_word initial = here
    by_word inherit = of_inherited parent refl
    by_word unset = of_defaulted inherits
    by_word revert = of_defaulted inherits
    by_word revert_layer = of_defaulted inherits

parent_stands : (registered : Registered) (parent : Option Values) → ParentStandsUnder registered parent → (key : Key) (value : Outcome) → held_by parent key ≡ Some value → MayStand registered key value
parent_stands registered None stands key value is = let clash : None ≡ Some value = is in absurd cc
parent_stands registered (Some values) stands key value is =
    let same : outcome_at values key ≡ value = let both : Some (outcome_at values key) ≡ Some value = is in cc in
    subst (λ o. MayStand registered key o) same (stands key)

pub keyword_stands : PropertiesMayBeKept → (registered : Registered) → AreEntries registered → (parent : Option Values) → ParentStandsUnder registered parent → (key : Key) (w : Keyword) → MayStand registered key (by_keyword (initial_at registered key) (held_by parent key) (inherits registered key) w)
keyword_stands laws registered entries parent stands key w =
    keyword_cases (λ o. MayStand registered key o) (initial_at registered key) (held_by parent key) (inherits registered key) w (initial_stands laws registered entries key) (parent_stands registered parent stands key)

-- what a property has where it is invalid
pub invalid_stands : PropertiesMayBeKept → (registered : Registered) → AreEntries registered → (parent : Option Values) → ParentStandsUnder registered parent → (key : Key) → MayStand registered key (invalid_at registered parent key)
invalid_stands laws registered entries parent stands key = by (is_loose registered key) refl
  where
    by : (b : Bool) → is_loose registered key ≡ b → MayStand registered key (cond b Invalid (start_at registered parent key))
    by true loose = (tt, loose)
    by false firm = keyword_stands laws registered entries parent stands key unset

-- an answer that is known stands where what it is does
pub ok_stands : (registered : Registered) (key : Key) {E : Type 0} (r : Result Outcome E) (o : Outcome) → IfOk r (λ a. a ≡ o) → MayStand registered key o → IfOk r (MayStand registered key)
ok_stands registered key (Ok a) o is stands = subst (MayStand registered key) (sym is) stands
ok_stands registered key (Err error) o is stands = tt
