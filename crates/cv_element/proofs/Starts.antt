-- What an element's values begin with is what its properties have undeclared.
use Rattle.std.proofs.Common.{◌≡◌, ◌≢◌, ℕ, ◌+◌, ◌<◌, Bool, true, false, not, cond, List, [], length, Option, Some, None, ◌⊎◌, inl, inr, refl, sym, ◌∙◌, ap, subst, arith}
use Rattle.std.specs.Prelude.{slice_get, bytes_eq, is_none, if◌then◌else◌, ◌||◌}
use Rattle.std.specs.List.{IsDistinct}
use Rattle.std.specs.Map.{keys_of}
use Rattle.std.specs.Cmp.Lexicographic.{nat_list_eq_equiv}
use Rattle.std.proofs.lemmas.Bool.{cases_lt}
use Rattle.std.proofs.lemmas.Map.Entries.{place_from_lookup, lookup_from_place}
use Rattle.std.proofs.lemmas.Option.{slice_get_within}
use Rattle.std.proofs.lemmas.Slice.Eq.{bytes_eq-Decides}
use Rattle.cv_property.specs.Table as table
use Rattle.cv_property.specs.declared.property.Property.{Property}
use Rattle.cv_property_laws.specs.Keeping.{PropertiesMayBeKept}
use Rattle.cv_spec_element.specs.Keywords.{unset, by_keyword}
use Rattle.cv_valuation.specs.declared.key.Key.{Key}
use Rattle.cv_valuation.specs.declared.key.Key.TheVariants.{Custom, Table}
use Rattle.cv_valuation.specs.declared.outcome.Outcome.{Outcome}
use Rattle.cv_valuation.specs.declared.outcome.Outcome.TheVariants.{Value, Invalid}
use Rattle.cv_valuation.specs.TableLaws.{PropertiesAreFound}
use Rattle.cv_valuation.specs.Valuations.{Values, outcome_at, with_outcome}
use Rattle.cv_valuation.specs.ValuationLaws.{OutcomesAreByKey}
use Rattle.cv_props.specs.declared.entry.Entry.{Entry}
use Rattle.cv_props.specs.Registered.{Registered, AreEntries, entry_of}
use Rattle.cv_spec_valuation.specs.Registered.{initial_by, inherits_by}
use Rattle.cv_spec_valuation.specs.Computed.{MayStand, StandUnder, ParentStandsUnder}
use Rattle.cv_element.specs.Starting.{base_at, resets, AreReset}
use Rattle.cv_element.specs.Values.{start_at, held_by}
use Rattle.cv_element.proofs.Standing.{keyword_stands}

some_pair : (a b : List ℕ × Entry) → Some a ≡ Some b → a ≡ b
some_pair a b same = cc

custom_same : (a b : List ℕ) → Custom a ≡ Custom b → a ≡ b
custom_same a b same = cc

module _ (registered : Registered) (once : IsDistinct bytes_eq (keys_of registered)) (all : Bool) where
  entry_there : (i : ℕ) (name : List ℕ) (entry : Entry) → slice_get registered i ≡ Some (name, entry) → entry_of registered name ≡ Some entry
  entry_there i name entry is = lookup_from_place nat_list_eq_equiv registered i name entry once is

  -- the entry of a name
  one_entry : (i j : ℕ) (name : List ℕ) (one other : Entry) → slice_get registered i ≡ Some (name, one) → slice_get registered j ≡ Some (name, other) → one ≡ other
  one_entry i j name one other first second = let both : Some one ≡ Some other = sym (entry_there i name one first) ∙ entry_there j name other second in cc

  module _ (by_key : OutcomesAreByKey) (before after after' : Values) (count : ℕ) (name : List ℕ) (entry : Entry) (at : slice_get registered count ≡ Some (name, entry)) (now : AreReset registered all count before after) where
    pub reset_on : resets all entry ≡ true → after' ≡ with_outcome after (Custom name) entry.initial → AreReset registered all (count + 1) before after'
    reset_on does made = record { here = here; elsewhere = elsewhere }
      where
        at_key : (key : Key) → key ≢ Custom name → outcome_at after' key ≡ outcome_at after key
        at_key key apart = ap (λ v. outcome_at v key) made ∙ by_key.elsewhere after (Custom name) entry.initial key apart

        at_name : outcome_at after' (Custom name) ≡ entry.initial
        at_name = ap (λ v. outcome_at v (Custom name)) made ∙ by_key.here after (Custom name) entry.initial

        same_or_not : (n : List ℕ) → (n ≡ name) ⊎ (n ≢ name)
        same_or_not n = by (bytes_eq n name) refl
          where
            by : (b : Bool) → bytes_eq n name ≡ b → (n ≡ name) ⊎ (n ≢ name)
            by true is = inl ((bytes_eq-Decides n name).0 is)
            by false is = inr (λ same. let clash : true ≡ false = sym ((bytes_eq-Decides n name).1 same) ∙ is in cc)

        here : (i : ℕ) (n : List ℕ) (x : Entry) → i < count + 1 → slice_get registered i ≡ Some (n, x) → resets all x ≡ true → outcome_at after' (Custom n) ≡ x.initial
        here i n x less is does_x =
            elim (same_or_not n) [
              | inl same ↦
                  let own : x ≡ entry = one_entry i count name x entry (is ∙ ap (λ m. Some (m, x)) same) at in
                  ap (λ m. outcome_at after' (Custom m)) same ∙ at_name ∙ ap (λ (e : Entry). e.initial) (sym own)
              | inr apart ↦ elim (cases_lt i count) [
                | inl lower ↦ at_key (Custom n) (λ same. apart (custom_same n name same)) ∙ now.here i n x lower is does_x
                | inr upper ↦ absurd (
                    let last : i ≡ count = omega (arith, less, upper) in
                    let both : Some (n, x) ≡ Some (name, entry) = sym is ∙ ap (slice_get registered) last ∙ at in
                    apart (ap (λ (x : List ℕ × Entry). x.0) (some_pair (n, x) (name, entry) both)))
              ]
            ]

        elsewhere : (key : Key) → ((i : ℕ) (n : List ℕ) (x : Entry) → i < count + 1 → slice_get registered i ≡ Some (n, x) → resets all x ≡ true → key ≢ Custom n) → outcome_at after' key ≡ outcome_at before key
        elsewhere key none =
            at_key key (none count name entry (omega arith) at does) ∙ now.elsewhere key (λ i n x less is does_x. none i n x (omega (arith, less)) is does_x)

    pub reset_off : resets all entry ≡ false → after' ≡ after → AreReset registered all (count + 1) before after'
    reset_off leaves made = record {
      here = λ i n x less is does_x. elim (cases_lt i count) [
        | inl lower ↦ ap (λ v. outcome_at v (Custom n)) made ∙ now.here i n x lower is does_x
        | inr upper ↦ absurd (
            let last : i ≡ count = omega (arith, less, upper) in
            let both : Some (n, x) ≡ Some (name, entry) = sym is ∙ ap (slice_get registered) last ∙ at in
            let own : x ≡ entry = ap (λ (e : List ℕ × Entry). e.1) (some_pair (n, x) (name, entry) both) in
            let clash : true ≡ false = sym does_x ∙ ap (resets all) own ∙ leaves in
            cc)
      ];
      elsewhere = λ key none. ap (λ v. outcome_at v key) made ∙ now.elsewhere key (λ i n x less is does_x. none i n x (omega (arith, less)) is does_x);
    }

pub reset_none : (registered : Registered) (all : Bool) (values : Values) → AreReset registered all 0 values values
reset_none registered all values = record {
  here = λ i n x less is does. absurd (omega (arith, less));
  elsewhere = λ key none. refl;
}

module _ (registered : Registered) (once : IsDistinct bytes_eq (keys_of registered)) (parent : Option Values) (before after : Values) (base : (key : Key) → outcome_at before key ≡ base_at parent key) (reset : AreReset registered (is_none parent) (length registered) before after) where
  one_way : (b : Bool) (x : Outcome) → x ≡ by_keyword x None b unset
  one_way true x = refl
  one_way false x = refl

  two_ways : (b : Bool) (x y : Outcome) → (if b then x else y) ≡ by_keyword y (Some x) b unset
  two_ways true x y = refl
  two_ways false x y = refl

  ordinary : (given : Option Values) (p : Property) → base_at given (Table p) ≡ start_at registered given (Table p)
  ordinary None p = one_way (table.inherits p) (Value (table.initial_of p))
  ordinary (Some values) p = two_ways (table.inherits p) (outcome_at values (Table p)) (Value (table.initial_of p))

  -- what a custom property has by its entry
  abbrev start_by : Option Values → List ℕ → Option Entry → Outcome
  start_by given name o = by_keyword (initial_by o) (held_by given (Custom name)) (inherits_by o) unset

  unregistered : (given : Option Values) (name : List ℕ) → base_at given (Custom name) ≡ start_by given name None
  unregistered None name = refl
  unregistered (Some values) name = refl

  not_true : (b : Bool) → not b ≡ true → b ≡ false
  not_true true is = cc
  not_true false is = refl

  not_false : (b : Bool) → not b ≡ false → b ≡ true
  not_false true is = refl
  not_false false is = cc

  reset_start : (given : Option Values) (name : List ℕ) (entry : Entry) → resets (is_none given) entry ≡ true → entry.initial ≡ start_by given name (Some entry)
  reset_start None name entry does = one_way entry.inherits entry.initial
  reset_start (Some values) name entry does = ap (λ b. by_keyword entry.initial (held_by (Some values) (Custom name)) b unset) (sym (not_true entry.inherits does))

  kept_start : (given : Option Values) (name : List ℕ) (entry : Entry) → resets (is_none given) entry ≡ false → base_at given (Custom name) ≡ start_by given name (Some entry)
  kept_start None name entry leaves = let clash : true ≡ false = leaves in absurd cc
  kept_start (Some values) name entry leaves = ap (λ b. by_keyword entry.initial (held_by (Some values) (Custom name)) b unset) (sym (not_false entry.inherits leaves))

  custom : (name : List ℕ) (o : Option Entry) → entry_of registered name ≡ o → outcome_at after (Custom name) ≡ start_by parent name o
  custom name None is = reset.elsewhere (Custom name) none ∙ base (Custom name) ∙ unregistered parent name
    where
      none : (i : ℕ) (n : List ℕ) (x : Entry) → i < length registered → slice_get registered i ≡ Some (n, x) → resets (is_none parent) x ≡ true → Custom name ≢ Custom n
      none i n x less at does same =
          let clash : None ≡ Some x = sym is ∙ ap (entry_of registered) (custom_same name n same) ∙ entry_there registered once (is_none parent) i n x at in
          cc
  custom name (Some entry) is = by (resets (is_none parent) entry) refl
    where
      by : (b : Bool) → resets (is_none parent) entry ≡ b → outcome_at after (Custom name) ≡ start_by parent name (Some entry)
      by true does =
          let at = place_from_lookup (bytes_eq name) registered entry is in
          let own : name ≡ at.1 = (bytes_eq-Decides name at.1).0 at.3 in
          let there : slice_get registered at.0 ≡ Some (name, entry) = at.2 ∙ ap (λ n. Some (n, entry)) (sym own) in
          reset.here at.0 name entry (slice_get_within registered at.0 (name, entry) there) there does ∙ reset_start parent name entry does
      by false leaves = reset.elsewhere (Custom name) none ∙ base (Custom name) ∙ kept_start parent name entry leaves
        where
          none : (i : ℕ) (n : List ℕ) (x : Entry) → i < length registered → slice_get registered i ≡ Some (n, x) → resets (is_none parent) x ≡ true → Custom name ≢ Custom n
          none i n x less at does same =
              let both : Some entry ≡ Some x = sym is ∙ ap (entry_of registered) (custom_same name n same) ∙ entry_there registered once (is_none parent) i n x at in
              let own : entry ≡ x = cc in
              let clash : true ≡ false = sym does ∙ ap (resets (is_none parent)) (sym own) ∙ leaves in
              cc

  pub starts_are : (key : Key) → outcome_at after key ≡ start_at registered parent key
  starts_are (Custom name) = custom name (entry_of registered name) refl
  starts_are (Table p) = reset.elsewhere (Table p) (λ i n x less at does same. cc) ∙ base (Table p) ∙ ordinary parent p

  pub starts_stand : PropertiesMayBeKept → AreEntries registered → ParentStandsUnder registered parent → StandUnder registered after
  starts_stand tables entries stands key = subst (MayStand registered key) (sym (starts_are key)) (keyword_stands tables registered entries parent stands key unset)
