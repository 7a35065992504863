-- The values of a valuation stand under the registry.
use Rattle.std.proofs.Common.{◌≡◌, ℕ, Bool, true, false, cond, List, Option, Some, None, refl, sym, ◌∙◌, ap, subst}
use Rattle.std.specs.Prelude.{All, IsSome, Contains}
use Rattle.std.specs.Map.{keys_of}
use Rattle.std.proofs.lemmas.List.Elements.{recursion_from_All}
use Rattle.cv_spec_ratio.specs.Ratio.{Ratio}
use Rattle.cv_spec_text.specs.Splits.{IsSpelt}
use Rattle.cv_spec_text.specs.declared.token.Token.{Token}
use Rattle.cv_component.specs.Parts.{trim}
use Rattle.cv_numeric.specs.declared.matched.Matched.{Matched as Answer}
use Rattle.cv_numeric.specs.declared.matched.Matched.TheVariants as answer
use Rattle.cv_numeric.specs.Matched.{mapped}
use Rattle.cv_value.specs.declared.typed.Typed.{Typed}
use Rattle.cv_value.specs.Kept.{MayBeKept}
use Rattle.cv_value.specs.Matching.{matching}
use Rattle.cv_value_laws.specs.Functions.{ValuesAreTaken}
use Rattle.cv_value_laws.specs.Keeping.{ValuesMayBeKept}
use Rattle.cv_property.specs.declared.property.Property.{Property}
use Rattle.cv_property.specs.Table.{initial_of}
use Rattle.cv_property.specs.Computed.{computed_of}
use Rattle.cv_property.specs.Grammar.{matching_property}
use Rattle.cv_property_laws.specs.Keeping.{PropertiesMayBeKept}
use Rattle.cv_spec_element.specs.Keywords.{unset, by_keyword}
use Rattle.cv_spec_element.specs.Pieces.{RefersTo, sub}
use Rattle.cv_spec_element.specs.Words.{keyword_of}
use Rattle.cv_spec_element.specs.Words as words
use Rattle.cv_spec_element.specs.Element.{Outcome, no, fit, tokens}
use Rattle.cv_spec_element.specs.Dependencies.{tokens_of, undeclared_value}
use Rattle.cv_spec_element.specs.Valuation.{font_size_for, IsSubstituted, IsMatched, invalid_value, Gives, IsValuation}
use Rattle.cv_spec_element.specs.Valuation as gives
use Rattle.cv_var.specs.Checked.{IsChecked}
use Rattle.cv_var.specs.References.{pieces_of, HoldNoVar}
use Rattle.cv_valuation.specs.declared.key.Key.{Key}
use Rattle.cv_valuation.specs.declared.key.Key.TheVariants.{Custom, Table}
use Rattle.cv_valuation.specs.declared.outcome.Outcome.{Outcome as Kept}
use Rattle.cv_valuation.specs.declared.outcome.Outcome.TheVariants as kept
use Rattle.cv_valuation.specs.Keys.{is_key}
use Rattle.cv_valuation.specs.Valuations.{Values, outcome_at, outcome_tokens, MayKeep}
use Rattle.cv_props.specs.declared.entry.Entry.{Entry}
use Rattle.cv_props.specs.Registered.{Registered, AreEntries, entry_of}
use Rattle.cv_props.specs.Winners.{Declarations, declaration_of}
use Rattle.cv_spec_valuation.specs.declared.place.Place.{Place}
use Rattle.cv_spec_valuation.specs.Registered.{as_read, is_loose, inherits, initial_at}
use Rattle.cv_spec_valuation.specs.Contexts.{told, typed_or, inherited_from, context_of, reads_by, reads_at}
use Rattle.cv_spec_valuation.specs.Element.{keyed, words_at, values_of, the_element}
use Rattle.cv_spec_valuation.specs.Computed.{MayStand, StandUnder, ParentStandsUnder}
use Rattle.cv_element.specs.Keywords.{alone}
use Rattle.cv_element.specs.Values.{AnElement, held_by, start_at, invalid_at}
use Rattle.cv_element.proofs.Computing.{computed_kept}
use Rattle.cv_element.proofs.Judged.{lone_alone, keyword_value_read, start_read}
use Rattle.cv_element.proofs.Keeping.{tokens_stand}
use Rattle.cv_element.proofs.Standing.{keyword_stands, invalid_stands}
use Rattle.cv_element.proofs.Trimming.{trim_same, spelt-trim}
use Rattle.cv_element_laws.specs.Declared.{AreDeclared}
use Rattle.cv_element_laws.proofs.Along.{Follows, by_follows}
use Rattle.cv_element_laws.proofs.Pieces.{Each, each-pieces}
use Rattle.cv_element_laws.proofs.Reading.{as_read-injective, pieces_in-some}
use Rattle.cv_element_laws.proofs.Substituted.{IsPlain, plain_pieces, keyed_pieces, plain_outcome, plain_substituted, list_spelt, list_no_var}

-- what is proved of lists, values and tables
pub record Laws : Type 0 where
  pub tables : PropertiesMayBeKept
  pub taken : ValuesAreTaken
  pub keeping : ValuesMayBeKept
  pub no_var : (list : List Token) → IsChecked list → HoldNoVar (pieces_of list)

told_fit : (a : Answer Typed) (value : Typed) → told a ≡ fit value → a ≡ answer.Fit value
told_fit answer.No value is = cc
told_fit answer.Out value is = cc
told_fit (answer.Fit other) value is = let same : other ≡ value = cc in ap answer.Fit same

typed_kept : (key : Key) (other : Typed) (o : Kept) → MayBeKept other → MayKeep key o → MayBeKept (typed_or other o)
typed_kept key other (kept.Value value) may_other may = may.1
typed_kept key other (kept.Tokens list) may_other may = may_other
typed_kept key other kept.Invalid may_other may = may_other

-- what an ordinary property inherits may be kept
inherited_kept : PropertiesMayBeKept → (registered : Registered) (parent : Option Values) → ParentStandsUnder registered parent → (property : Property) → MayBeKept (inherited_from parent property)
inherited_kept tables registered None stands property = tables.initial property
inherited_kept tables registered (Some values) stands property =
    typed_kept (Table property) (initial_of property) (outcome_at values (Table property)) (tables.initial property) (stands (Table property)).0

-- what a list of tokens of texts is read as may be kept
read_kept : Laws → (registered : Registered) → AreEntries registered → (parent : Option Values) → ParentStandsUnder registered parent → (place : Place) (key : Key) (em : Ratio) (list : List Token) → All IsSpelt list → (value : Typed) → told (reads_at registered parent place key em list) ≡ fit value → MayBeKept value
read_kept laws registered entries parent stands place (Custom name) em list spelt value is = by (entry_of registered name) refl is
  where
    by : (o : Option Entry) → entry_of registered name ≡ o → told (reads_by o (context_of place em) list) ≡ fit value → MayBeKept value
    by None at is = absurd (let clash : no ≡ fit value = is in cc)
    by (Some entry) at is =
        laws.keeping.matched entry.syntax (entries name entry at).no_keyword (context_of place em) list value spelt (told_fit (matching entry.syntax (context_of place em) list) value is)
read_kept laws registered entries parent stands place (Table property) em list spelt value is =
    computed_kept laws.tables property (context_of place em) list (inherited_from parent property) (inherited_kept laws.tables registered parent stands property) value
    (told_fit (mapped (computed_of property (inherited_from parent property)) (matching_property property (context_of place em) list)) value is)

module _ (laws : Laws) (registered : Registered) (entries : AreEntries registered) (decls : Declarations) (declared : AreDeclared decls) (parent : Option Values) (stands : ParentStandsUnder registered parent) (place : Place) (most : ℕ) (listed : (p : Key) → IsSome ((the_element registered decls parent place most).declarations.pieces p) → Contains (keys_of decls) p) where
  abbrev e : AnElement
  e = the_element registered decls parent place most

  module _ (values : Values) where
    abbrev v : Key → Outcome Token Typed
    v = values_of values

    abbrev Stands : Key → Type 0
    Stands p = MayStand registered p (outcome_at values p)

    read_tokens : (o : Kept) (list : List Token) → tokens_of e (as_read o) ≡ Some list → outcome_tokens o ≡ Some list
    read_tokens (kept.Tokens first) list is = is
    read_tokens (kept.Value value) list is = is
    read_tokens kept.Invalid list is = is

    module _ (p : Key) (before : (q : Key) → Follows e p q → Stands q) where
      plain : (list : List Token) → IsSubstituted e v p list → Each IsPlain list
      plain list substituted =
          let pieces = substituted.sub_is.0 in
          let from = pieces_in-some (declaration_of decls p) pieces substituted.sub_is.1 in
          let is = declared p from.0 from.1 in
          let each = keyed_pieces (pieces_of from.0.value) (plain_pieces (pieces_of from.0.value) (each-pieces IsSpelt from.0.value (recursion_from_All IsSpelt from.0.value is.spelt)) (laws.no_var from.0.value is.checked)) in
          plain_substituted (λ q. tokens_of e (v q)) (keyed (pieces_of from.0.value)) each
          (λ q refers value has. plain_outcome laws.taken laws.keeping q (outcome_at values q) (before q (substituted.loopless, (pieces, substituted.sub_is.1, subst (λ x. RefersTo x q) from.2 refers))).0 value (read_tokens (outcome_at values q) value has))
          list (ap (sub (λ q. tokens_of e (v q))) from.2 ∙ substituted.sub_is.2)

      key_declared : (list : List Token) → IsSubstituted e v p list → is_key p ≡ true
      key_declared list substituted =
          let from = pieces_in-some (declaration_of decls p) substituted.sub_is.0 substituted.sub_is.1 in
          (declared p from.0 from.1).key_is

      no_word : (list : List Token) → keyword_of e.words list ≡ None → alone (trim list) ≡ None
      no_word list none = ap alone (sym (trim_same place list)) ∙ sym (lone_alone place (words.trim (words_at place) list)) ∙ none

      list_stands : (list : List Token) → IsSubstituted e v p list → keyword_of e.words list ≡ None → is_loose registered p ≡ true → MayStand registered p (kept.Tokens (trim list))
      list_stands list substituted none loose =
          let each = plain list substituted in
          tokens_stand registered p list (trim list) refl (key_declared list substituted) loose (spelt-trim list (list_spelt list each)) (list_no_var list each) (no_word list none)

      value_stands : (list : List Token) (value : Typed) → IsMatched e v p list (fit value) → MayStand registered p (kept.Value value)
      value_stands list value m =
          let each = plain list m.substituted in
          let read : told (reads_at registered parent place p (font_size_for e v p) (trim list)) ≡ fit value =
          ap (λ l. told (reads_at registered parent place p (font_size_for e v p) l)) (sym (trim_same place list)) ∙ m.matched_is in
          ((key_declared list m.substituted, read_kept laws registered entries parent stands place p (font_size_for e v p) (trim list) (spelt-trim list (list_spelt list each)) value read), m.is_typed)

      invalid_read : as_read (invalid_at registered parent p) ≡ invalid_value e p
      invalid_read = by (is_loose registered p)
        where
          by : (b : Bool) → as_read (cond b kept.Invalid (start_at registered parent p)) ≡ cond b (as_read kept.Invalid) (undeclared_value e p)
          by true = refl
          by false = start_read registered decls parent place most p

      -- an outcome stands where the one that is read alike does
      read_stands : (o known : Kept) → MayStand registered p known → as_read o ≡ as_read known → MayStand registered p o
      read_stands o known stands_there same = subst (MayStand registered p) (sym (as_read-injective o known same)) stands_there

      undeclared_stands : (o : Kept) → as_read o ≡ undeclared_value e p → MayStand registered p o
      undeclared_stands o is =
          read_stands o (start_at registered parent p) (keyword_stands laws.tables registered entries parent stands p unset) (is ∙ sym (start_read registered decls parent place most p))

      given_stands : (o : Kept) → Gives e v p (as_read o) → MayStand registered p o
      given_stands o (gives.undeclared none is) = undeclared_stands o is
      given_stands o (gives.refused cause is_invalid is) =
          read_stands o (invalid_at registered parent p) (invalid_stands laws.tables registered entries parent stands p) (is ∙ sym invalid_read)
      given_stands o (gives.by_keyword list w substituted word is) =
          read_stands o (by_keyword (initial_at registered p) (held_by parent p) (inherits registered p) w) (keyword_stands laws.tables registered entries parent stands p w) (is ∙ sym (keyword_value_read registered decls parent place most p w))
      given_stands o (gives.trimmed list substituted none loose is) =
          read_stands o (kept.Tokens (trim list)) (list_stands list substituted none loose) (is ∙ ap tokens (trim_same place list))
      given_stands o (gives.out_of_range list matched is) = undeclared_stands o is
      given_stands o (gives.computed list value matched is) = read_stands o (kept.Value value) (value_stands list value matched) is

    pub valuation_stands : IsValuation e v → StandUnder registered values
    valuation_stands solves p =
        by_follows e listed Stands (λ q before. given_stands q before (outcome_at values q) (solves q)) p
