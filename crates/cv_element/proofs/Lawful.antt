-- Each element meets the premises of the equations.
use Rattle.std.proofs.Common.{◌≡◌, ℕ, Bool, true, false, not, List, [], ◌∷◌, Option, Some, None, is_some, ◌⊎◌, inl, inr, refl, sym, ◌∙◌, ap, subst}
use Rattle.std.specs.Prelude.{IsSome, is_none}
use Rattle.std.proofs.lemmas.Map.Views.{Contains-keys_from_lookup}
use Rattle.cv_spec_ratio.specs.Ratio.{Ratio}
use Rattle.cv_spec_text.specs.declared.token.Token.{Token}
use Rattle.cv_component.specs.Parts.{trim}
use Rattle.cv_calc.specs.declared.context.Context.{Context}
use Rattle.cv_calc.specs.declared.unit.Unit.{Unit as Measure}
use Rattle.cv_calc_laws.specs.Units.{HoldsUnit, token_unit}
use Rattle.cv_calc_laws.specs.Fonts.{is_font_unit, holds_no_font_unit, FontUnitsAreTold, DifferInFonts}
use Rattle.cv_numeric.specs.declared.matched.Matched.{Matched as Answer}
use Rattle.cv_numeric.specs.declared.matched.Matched.TheVariants as answer
use Rattle.cv_syntax.specs.Told.{has_no_length}
use Rattle.cv_value.specs.declared.typed.Typed.{Typed}
use Rattle.cv_value.specs.Kept.{OfItems, IsCanonical, NoKeyword}
use Rattle.cv_value.specs.Matching.{matching}
use Rattle.cv_value.specs.Text.{typed_text}
use Rattle.cv_value_laws.specs.Contexts.{MatchesAlike, MatchesIgnoreContexts}
use Rattle.cv_value_laws.specs.Lists.{TextsAreSplit}
use Rattle.cv_value_laws.specs.Values.{is_keyword, ItemsAreFree}
use Rattle.cv_property_laws.specs.Keeping.{PropertiesMayBeKept}
use Rattle.cv_spec_element.specs.Keywords.{Keyword}
use Rattle.cv_spec_element.specs.Pieces.{RefersTo}
use Rattle.cv_spec_element.specs.Words.{lone_keyword, keyword_of, HasUnit}
use Rattle.cv_spec_element.specs.Words as words
use Rattle.cv_spec_element.specs.Element.{Outcome, Matched, no, out, fit}
use Rattle.cv_spec_element.specs.Dependencies.{Refers}
use Rattle.cv_spec_element.specs.Premises.{IsNamed, IsPlainValue, IsKept, IsInherited, IsMatching, IsLawful}
use Rattle.cv_var.specs.References.{pieces_of}
use Rattle.cv_valuation.specs.declared.key.Key.{Key}
use Rattle.cv_valuation.specs.declared.key.Key.TheVariants.{Custom, Table}
use Rattle.cv_valuation.specs.declared.outcome.Outcome.{Outcome as Kept}
use Rattle.cv_valuation.specs.declared.outcome.Outcome.TheVariants as kept
use Rattle.cv_valuation.specs.TableLaws.{PropertiesAreFound}
use Rattle.cv_valuation.specs.Valuations.{Values, outcome_at}
use Rattle.cv_props.specs.declared.entry.Entry.{Entry}
use Rattle.cv_props.specs.declared.decls.Decl.{Decl}
use Rattle.cv_props.specs.Registered.{Registered, entry_of, IsEntry, AreEntries}
use Rattle.cv_props.specs.Winners.{Declarations, declaration_of}
use Rattle.cv_spec_valuation.specs.declared.place.Place.{Place}
use Rattle.cv_spec_valuation.specs.Registered.{as_read, is_custom, is_loose, has_lengths, has_lengths_by, initial_at}
use Rattle.cv_spec_valuation.specs.Contexts.{told, rem_of, context_of, reads_by, reads_at}
use Rattle.cv_spec_valuation.specs.Element.{keyed, pieces_in, words_at, values_of, parent_in, the_element}
use Rattle.cv_spec_valuation.specs.Computed.{MayStand, StandUnder, ParentStandsUnder}
use Rattle.cv_element.specs.Keywords.{alone}
use Rattle.cv_element.specs.Values.{AnElement}
use Rattle.cv_element.proofs.Ending.{some_declared}
use Rattle.cv_element.proofs.Judged.{lone_alone}
use Rattle.cv_element.proofs.Keeping.{alone_none}
use Rattle.cv_element.proofs.Keying.{RefersTo-keyed}
use Rattle.cv_element.proofs.SameKeys.{keys_same, same_key_same}
use Rattle.cv_element.proofs.Standing.{initial_stands}
use Rattle.cv_element.proofs.Trimming.{trim_same}

-- what is proved of lists, matches and tables
pub record Laws : Type 0 where
  pub found : PropertiesAreFound
  pub tables : PropertiesMayBeKept
  pub items : ItemsAreFree
  pub alike : MatchesAlike
  pub ignore : MatchesIgnoreContexts
  pub split : TextsAreSplit
  pub fonts : FontUnitsAreTold

pub holds_unit : (place : Place) (list : List Token) (u : Measure) → HasUnit (words_at place) list u → HoldsUnit list u
holds_unit place [] u has = has
holds_unit place (t ∷ rest) u (inl here) = inl here
holds_unit place (t ∷ rest) u (inr later) = inr (holds_unit place rest u later)

pub has_unit : (place : Place) (list : List Token) (u : Measure) → HoldsUnit list u → HasUnit (words_at place) list u
has_unit place [] u holds = holds
has_unit place (t ∷ rest) u (inl here) = inl here
has_unit place (t ∷ rest) u (inr later) = inr (has_unit place rest u later)

no_keyword : (place : Place) (list : List Token) → is_keyword (trim list) ≡ false → keyword_of (words_at place) list ≡ None
no_keyword place list none =
    lone_alone place (words.trim (words_at place) list) ∙ ap alone (trim_same place list) ∙ alone_none (trim list) none

not_false : (b : Bool) → not b ≡ false → b ≡ true
not_false true is = refl
not_false false is = cc

told_fit : (a : Answer Typed) (value : Typed) → told a ≡ fit value → a ≡ answer.Fit value
told_fit answer.No value is = cc
told_fit answer.Out value is = cc
told_fit (answer.Fit other) value is = let same : other ≡ value = cc in ap answer.Fit same

module _ (laws : Laws) (registered : Registered) (entries : AreEntries registered) (decls : Declarations) (parent : Option Values) (stands : ParentStandsUnder registered parent) (place : Place) (most : ℕ) where
  abbrev e : AnElement
  e = the_element registered decls parent place most

  refers_custom : (p q : Key) → Refers e p q → is_custom q ≡ true
  refers_custom p q refers = by (declaration_of decls p) refers.1
    where
      by : (o : Option Decl) → pieces_in o ≡ Some refers.0 → is_custom q ≡ true
      by None is = let clash : None ≡ Some refers.0 = is in absurd cc
      by (Some d) is =
          let same : keyed (pieces_of d.value) ≡ refers.0 = let both : Some (keyed (pieces_of d.value)) ≡ Some refers.0 = is in cc in
          let named = RefersTo-keyed (pieces_of d.value) q (subst (λ x. RefersTo x q) (sym same) refers.2) in
          ap is_custom (sym named.1)

  named : IsNamed e
  named = record {
    same = λ p q. (keys_same laws.found p q, same_key_same p q);
    listed = λ p some. Contains-keys_from_lookup (keys_same laws.found) p decls (some_declared (declaration_of decls p) some);
    refers_custom = refers_custom;
  }

  plain : (value : Typed) → OfItems IsCanonical value → OfItems NoKeyword value → IsPlainValue e value
  plain value canonical none = record {
    no_keyword = no_keyword place (typed_text value) (ap is_keyword (laws.split.trimmed value) ∙ laws.items.no_keyword value none);
    no_font_unit = λ u font has. laws.fonts.none (is_none place.root) (typed_text value) (laws.items.no_font_unit (is_none place.root) value canonical) u font (holds_unit place (typed_text value) u has);
  }

  kept_read : (key : Key) (o : Kept) → MayStand registered key o → IsKept e key (as_read o)
  kept_read key (kept.Tokens list) may = (may.1, no_keyword place list may.0.no_keyword)
  kept_read key (kept.Value value) may = (may.1, λ custom. plain value may.0.1.canonical may.0.1.no_keyword)
  kept_read key kept.Invalid may = may.1

  parent_kept : (p : Key) (value : Outcome Token Typed) (given : Option Values) → ParentStandsUnder registered given → parent_in given p ≡ Some value → IsKept e p value
  parent_kept p value None under is = let clash : None ≡ Some value = is in absurd cc
  parent_kept p value (Some values) under is =
      let same : values_of values p ≡ value = let both : Some (values_of values p) ≡ Some value = is in cc in
      subst (λ o. IsKept e p o) same (kept_read p (outcome_at values p) (under p))

  plain_value : (p : Key) (m : Ratio) (list : List Token) (value : Typed) → is_custom p ≡ true → told (reads_at registered parent place p m list) ≡ fit value → IsPlainValue e value
  plain_value (Table property) m list value custom is = absurd (let clash : false ≡ true = custom in cc)
  plain_value (Custom name) m list value custom is = by (entry_of registered name) refl is
    where
      by : (o : Option Entry) → entry_of registered name ≡ o → told (reads_by o (context_of place m) list) ≡ fit value → IsPlainValue e value
      by None at is = let clash : no ≡ fit value = is in absurd cc
      by (Some entry) at is =
          let match = told_fit (matching entry.syntax (context_of place m) list) value is in
          plain value (laws.items.are_canonical entry.syntax (context_of place m) list value match) (laws.items.are_no_keyword entry.syntax (entries name entry at).no_keyword (context_of place m) list value match)

  differ_rem : (root : Option Ratio) (m n : Ratio) → is_none root ≡ false → rem_of root m ≡ rem_of root n
  differ_rem None m n is = absurd (let clash : true ≡ false = is in cc)
  differ_rem (Some size) m n is = refl

  differ : (m n : Ratio) → DifferInFonts (is_none place.root) (context_of place m) (context_of place n)
  differ m n = record { rem = differ_rem place.root m n; width = refl; height = refl; basis = refl }

  reads_alike : (p : Key) (m n : Ratio) (list : List Token) → is_custom p ≡ true → ((u : Measure) → is_font_unit (is_none place.root) u ≡ true → ¬ HasUnit (words_at place) list u) → told (reads_at registered parent place p m list) ≡ told (reads_at registered parent place p n list)
  reads_alike (Table property) m n list custom none = absurd (let clash : false ≡ true = custom in cc)
  reads_alike (Custom name) m n list custom none = ap told (by (entry_of registered name))
    where
      free : holds_no_font_unit (is_none place.root) list ≡ true
      free = laws.fonts.absent (is_none place.root) list (λ u font holds. none u font (has_unit place list u holds))

      by : (o : Option Entry) → reads_by o (context_of place m) list ≡ reads_by o (context_of place n) list
      by None = refl
      by (Some entry) = laws.alike.matching_is entry.syntax (is_none place.root) (context_of place m) (context_of place n) (differ m n) list free

  reads_plain : (p : Key) (m n : Ratio) (list : List Token) → is_custom p ≡ true → has_lengths registered p ≡ false → told (reads_at registered parent place p m list) ≡ told (reads_at registered parent place p n list)
  reads_plain (Table property) m n list custom short = absurd (let clash : false ≡ true = custom in cc)
  reads_plain (Custom name) m n list custom short = ap told (by (entry_of registered name) short)
    where
      by : (o : Option Entry) → has_lengths_by o ≡ false → reads_by o (context_of place m) list ≡ reads_by o (context_of place n) list
      by None is = refl
      by (Some entry) is = laws.ignore.matching_is entry.syntax (not_false (has_no_length entry.syntax) is) (context_of place m) (context_of place n) list

  pub lawful : IsLawful e
  lawful = record {
    named = named;
    inherited = record {
      initial_kept = λ p. kept_read p (initial_at registered p) (initial_stands laws.tables registered entries p);
      parent_kept = λ p value is. parent_kept p value parent stands is;
    };
    matching = record {
      plain_value = λ p m list value firm custom is. plain_value p m list value custom is;
      reads_alike = λ p m n list firm custom none. reads_alike p m n list custom none;
      reads_plain = λ p m n list firm custom short. reads_plain p m n list custom short;
    };
  }
