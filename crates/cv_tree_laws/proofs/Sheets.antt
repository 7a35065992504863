-- The rules of a sheet register entries, each of which may stand.
use Rattle.std.proofs.Common.{◌≡◌, ℕ, Bool, true, false, ◌||◌, ◌&&◌, not, List, [], ◌∷◌, fold, Option, Some, None, Result, Ok, Err, refl, sym, ◌∙◌, ap, subst}
use Rattle.std.specs.Prelude.{All, codes, if◌then◌else◌}
use Rattle.std.proofs.lemmas.List.Elements.{All-nil, All-head, All-tail}
use Rattle.cv_spec_text.specs.Keywords.{is_custom, is_word}
use Rattle.cv_spec_text.specs.Splits.{IsSpelt}
use Rattle.cv_spec_text.specs.declared.token.Token.{Token}
use Rattle.cv_spec_text.specs.declared.token.Token.TheVariants.{Ident, Str}
use Rattle.cv_component.specs.Items.{items}
use Rattle.cv_component.specs.Parts.{trim}
use Rattle.cv_component.specs.Rules.{rules}
use Rattle.cv_component.specs.declared.items.Piece.{Piece}
use Rattle.cv_component.specs.declared.items.Piece.TheVariants as pieces
use Rattle.cv_component.specs.declared.sheet.Rule.{Rule}
use Rattle.cv_component.specs.declared.sheet.Rule.TheVariants as rule_kinds
use Rattle.cv_var.specs.References.{has_var}
use Rattle.cv_var.specs.Values.{is_value}
use Rattle.cv_calc.specs.declared.context.Context.{Context}
use Rattle.cv_calc_laws.specs.Fonts.{holds_no_font_unit}
use Rattle.cv_numeric.specs.declared.matched.Matched.{Matched}
use Rattle.cv_numeric.specs.declared.matched.Matched.TheVariants.{No, Out, Fit}
use Rattle.cv_syntax.specs.declared.syntax.Syntax.{Syntax}
use Rattle.cv_syntax.specs.declared.syntax.Syntax.TheVariants.{Any, Of}
use Rattle.cv_syntax.specs.declared.syntax.SyntaxErr.{SyntaxErr}
use Rattle.cv_syntax.specs.Strings.{syntax}
use Rattle.cv_syntax.specs.Told.{has_no_keyword, SyntaxesHaveNoKeyword}
use Rattle.cv_value.specs.declared.typed.Typed.{Typed}
use Rattle.cv_value.specs.Matching.{matching}
use Rattle.cv_value_laws.specs.Values.{is_keyword}
use Rattle.cv_value_laws.specs.Keeping.{ValuesMayBeKept}
use Rattle.cv_valuation.specs.declared.outcome.Outcome.{Outcome}
use Rattle.cv_valuation.specs.declared.outcome.Outcome.TheVariants.{Tokens, Value, Invalid}
use Rattle.cv_props.specs.declared.entry.Entry.{Entry}
use Rattle.cv_props.specs.declared.note.Why.{Why}
use Rattle.cv_props.specs.declared.note.Why.TheVariants.{Skipped}
use Rattle.cv_props.specs.Reading.{IsSpeltRule}
use Rattle.cv_props.specs.Registered.{AreEntries, IsInitial, IsRegistered, IsUniversal, Registered}
use Rattle.cv_props.specs.Registration.{and_then, by_block, by_descriptors, by_inherits, by_initial, by_name, by_syntax, custom_name, descriptor, first_or, fitting, inherits_in, initial_in, initial_value, is_universal_value, last_said, prelude_name, registration, right, said_syntax, syntax_in, typed_initial, universal_initial}
use Rattle.cv_props.specs.Sheets.{registry_of, with_registration}
use Rattle.cv_element_laws.proofs.Items.{IsSpeltPiece, spelt_items}
use Rattle.cv_tree_laws.proofs.Entries.{all_with_entry, of_found}
use Rattle.cv_tree_laws.proofs.Rules.{spelt_rules}

-- a value, if there is one, is made of tokens of texts
abbrev AreSpelt : Option (List Token) → Type 0
AreSpelt None = Unit {0}
AreSpelt (Some list) = All IsSpelt list

-- what is registered, if something is, may be so
abbrev MayStand : Result (List ℕ × Entry) Why → Type 0
MayStand (Ok entry) = IsRegistered entry
MayStand (Err why) = Unit {0}

-- ---- the written initial value

spelt_descriptor : (word : List ℕ) (piece : Piece) → IsSpeltPiece piece → AreSpelt (descriptor word piece)
spelt_descriptor word (pieces.Decl name value false) spelt = by (is_word word name)
  where
    by : (b : Bool) → AreSpelt (if b then Some value else None)
    by true = spelt
    by false = tt
spelt_descriptor word (pieces.Decl name value true) spelt = tt
spelt_descriptor word pieces.At spelt = tt
spelt_descriptor word pieces.Other spelt = tt

spelt_first : (first second : Option (List Token)) → AreSpelt first → AreSpelt second → AreSpelt (first_or first second)
spelt_first None second spelt other = other
spelt_first (Some list) second spelt other = spelt

spelt_initial : (block : List Piece) → All IsSpeltPiece block → AreSpelt (last_said initial_in block)
spelt_initial [] spelt = tt
spelt_initial (piece ∷ block) spelt =
    spelt_first (last_said initial_in block) (initial_in piece) (spelt_initial block (All-tail IsSpeltPiece piece block spelt))
    (spelt_descriptor (codes "initial-value") piece (All-head IsSpeltPiece piece block spelt))

-- ---- the universal syntax

no_var : (a b c : Bool) → (a && not b && not c) ≡ true → b ≡ false
no_var true false c is = refl
no_var true true c is = cc
no_var false b c is = cc

no_keyword : (a b c : Bool) → (a && not b && not c) ≡ true → c ≡ false
no_keyword true false false is = refl
no_keyword true false true is = cc
no_keyword true true c is = cc
no_keyword false b c is = cc

universal : (list : List Token) → All IsSpelt list → is_universal_value list ≡ true → IsUniversal list
universal list spelt is = record {
  spelt = spelt;
  without_var = no_var (is_value list) (has_var list) (is_keyword (trim list)) is;
  no_keyword = no_keyword (is_value list) (has_var list) (is_keyword (trim list)) is;
}

-- ---- the syntax

-- what holds of all that is said holds of what is said last
of_last : {A B : Type 0} (P : B → Type 0) (f : A → Option B) → ((x : A) (y : B) → f x ≡ Some y → P y) → (xs : List A) (y : B) → last_said f xs ≡ Some y → P y
of_last P f each [] y is = cc
of_last P f each (x ∷ xs) y is = by (last_said f xs) is (of_last P f each xs y)
  where
    by : (o : Option _) → first_or o (f x) ≡ Some y → (o ≡ Some y → P y) → P y
    by None is rest = each x y is
    by (Some z) is rest = rest is

module _ (law : SyntaxesHaveNoKeyword) where
  of_list : (value : List Token) (s : Syntax) → said_syntax value ≡ Some s → has_no_keyword s ≡ true
  of_list (Str text ∷ []) s is = by (syntax text) refl is
    where
      by : (r : Result Syntax SyntaxErr) → syntax text ≡ r → right r ≡ Some s → has_no_keyword s ≡ true
      by (Ok found) ok is = let same : found ≡ s = cc in law text s (ok ∙ ap Ok same)
      by (Err e) err is = cc
  of_list [] s is = cc
  of_list (_ ∷ rest) s is = cc

  of_piece : (piece : Piece) (s : Syntax) → syntax_in piece ≡ Some s → has_no_keyword s ≡ true
  of_piece piece s is = by (descriptor (codes "syntax") piece) is
    where
      by : (o : Option (List Token)) → and_then said_syntax o ≡ Some s → has_no_keyword s ≡ true
      by None is = cc
      by (Some value) is = of_list value s is

  -- no literal of the syntax that a block says is a CSS-wide keyword
  of_block : (block : List Piece) (s : Syntax) → last_said syntax_in block ≡ Some s → has_no_keyword s ≡ true
  of_block block s is = of_last (λ s. has_no_keyword s ≡ true) syntax_in of_piece block s is

-- ---- the entry

module _ (law : SyntaxesHaveNoKeyword) (kept : ValuesMayBeKept) (x : Context) where
  of_universal : (value : List Token) (initial : Outcome) → All IsSpelt value → universal_initial value ≡ Some initial → IsInitial Any initial
  of_universal value initial spelt is = by (is_universal_value value) refl is
    where
      by : (b : Bool) → is_universal_value value ≡ b → (if b then Some (Tokens value) else None) ≡ Some initial → IsInitial Any initial
      by true universal_is same = let there : Tokens value ≡ initial = cc in subst (IsInitial Any) there (universal value spelt universal_is)
      by false other none = absurd (let clash : None ≡ Some initial = none in cc)

  of_fitting : (s : Syntax) (value : List Token) (initial : Outcome) → has_no_keyword s ≡ true → All IsSpelt value → (m : Matched Typed) → matching s x value ≡ m → fitting m ≡ Some initial → (typed : Typed) × (initial ≡ Value typed) × (matching s x value ≡ Fit typed)
  of_fitting s value initial free spelt (Fit typed) matches same = (typed, (let there : Value typed ≡ initial = cc in sym there), matches)
  of_fitting s value initial free spelt Out matches none = absurd (let clash : None ≡ Some initial = none in cc)
  of_fitting s value initial free spelt No matches none = absurd (let clash : None ≡ Some initial = none in cc)

  of_typed : (components : List _) (value : List Token) (initial : Outcome) → has_no_keyword (Of components) ≡ true → All IsSpelt value → typed_initial x (Of components) value ≡ Some initial → IsInitial (Of components) initial
  of_typed components value initial free spelt is = by (has_var value || not (holds_no_font_unit true value)) is
    where
      by : (b : Bool) → (if b then None else fitting (matching (Of components) x value)) ≡ Some initial → IsInitial (Of components) initial
      by true none = absurd (let clash : None ≡ Some initial = none in cc)
      by false fits =
          let found = of_fitting (Of components) value initial free spelt (matching (Of components) x value) refl fits in
          subst (IsInitial (Of components)) (sym found.1) (kept.matched (Of components) free x value found.0 spelt found.2)

  of_initial : (s : Syntax) (written : Option (List Token)) (initial : Outcome) → has_no_keyword s ≡ true → AreSpelt written → initial_value x s written ≡ Some initial → IsInitial s initial
  of_initial Any None initial free spelt is = let there : Invalid ≡ initial = cc in subst (IsInitial Any) there tt
  of_initial Any (Some value) initial free spelt is = of_universal value initial spelt is
  of_initial (Of components) None initial free spelt is = absurd (let clash : None ≡ Some initial = is in cc)
  of_initial (Of components) (Some value) initial free spelt is = of_typed components value initial free spelt is

  -- ---- the rule

  may_by_initial : (name : List ℕ) (s : Syntax) (inherits : Bool) (written : Option (List Token)) → is_custom name ≡ true → has_no_keyword s ≡ true → AreSpelt written → MayStand (by_initial name s inherits (initial_value x s written))
  may_by_initial name s inherits written custom free spelt = by (initial_value x s written) refl
    where
      by : (o : Option Outcome) → initial_value x s written ≡ o → MayStand (by_initial name s inherits o)
      by None is = tt
      by (Some initial) is = record { custom = custom; no_keyword = free; initial = of_initial s written initial free spelt is }

  may_by_inherits : (name : List ℕ) (s : Syntax) (inherits : Option Bool) (written : Option (List Token)) → is_custom name ≡ true → has_no_keyword s ≡ true → AreSpelt written → MayStand (by_inherits x name s inherits written)
  may_by_inherits name s None written custom free spelt = tt
  may_by_inherits name s (Some inherits) written custom free spelt = may_by_initial name s inherits written custom free spelt

  may_by_descriptors : (name : List ℕ) (block : List Piece) → is_custom name ≡ true → All IsSpeltPiece block → MayStand (by_descriptors x name block)
  may_by_descriptors name block custom spelt = by (last_said syntax_in block) refl
    where
      by : (o : Option Syntax) → last_said syntax_in block ≡ o → MayStand (by_syntax x name o (last_said inherits_in block) (last_said initial_in block))
      by None is = tt
      by (Some s) is = may_by_inherits name s (last_said inherits_in block) (last_said initial_in block) custom (of_block law block s is) (spelt_initial block spelt)

  may_by_block : (name : List ℕ) (block : Option (List Token)) → is_custom name ≡ true → AreSpelt block → MayStand (by_block x name block)
  may_by_block name None custom spelt = tt
  may_by_block name (Some block) custom spelt = may_by_descriptors name (items block) custom (spelt_items block spelt)

  custom_prelude : (prelude : List Token) (name : List ℕ) → custom_name prelude ≡ Some name → is_custom name ≡ true
  custom_prelude (Ident text ∷ []) name is = by (is_custom text) refl is
    where
      by : (b : Bool) → is_custom text ≡ b → (if b then Some text else None) ≡ Some name → is_custom name ≡ true
      by true custom same = let there : text ≡ name = cc in subst (λ n. is_custom n ≡ true) there custom
      by false plain none = absurd (let clash : None ≡ Some name = none in cc)
  custom_prelude [] name is = cc
  custom_prelude (_ ∷ rest) name is = cc

  may_by_name : (prelude : List Token) (block : Option (List Token)) → AreSpelt block → MayStand (by_name x (prelude_name prelude) block)
  may_by_name prelude block spelt = by (prelude_name prelude) refl
    where
      by : (o : Option (List ℕ)) → prelude_name prelude ≡ o → MayStand (by_name x o block)
      by None is = tt
      by (Some name) is = may_by_block name block (custom_prelude (trim prelude) name is) spelt

  spelt_block : (name : List ℕ) (prelude : List Token) (block : Option (List Token)) → IsSpeltRule (rule_kinds.At name prelude block) → AreSpelt block
  spelt_block name prelude None spelt = tt
  spelt_block name prelude (Some list) spelt = spelt

  may_stand : (rule : Rule) → IsSpeltRule rule → MayStand (registration x rule)
  may_stand (rule_kinds.At name prelude block) spelt = by (is_word (codes "property") name)
    where
      by : (b : Bool) → MayStand (if b then by_name x (prelude_name prelude) block else Err Skipped)
      by true = may_by_name prelude block (spelt_block name prelude block spelt)
      by false = tt
  may_stand rule_kinds.Other spelt = tt

  -- ---- the sheet

  with_one : (all : Registered) (r : Result (List ℕ × Entry) Why) → All IsRegistered all → MayStand r → All IsRegistered (with_registration all r)
  with_one all (Ok (name, entry)) registered stands = all_with_entry IsRegistered all name entry registered stands
  with_one all (Err why) registered stands = registered

  with_rules : (some : Registered) (all : List Rule) → All IsRegistered some → All IsSpeltRule all → All IsRegistered (fold (λ some rule. with_registration some (registration x rule)) some all)
  with_rules some [] registered spelt = registered
  with_rules some (rule ∷ all) registered spelt =
      with_rules (with_registration some (registration x rule)) all
      (with_one some (registration x rule) registered (may_stand rule (All-head IsSpeltRule rule all spelt)))
      (All-tail IsSpeltRule rule all spelt)

  -- what the rules of a list of tokens of texts register
  pub sheet_entries : (sheet : List Token) → All IsSpelt sheet → AreEntries (registry_of x (rules sheet))
  sheet_entries sheet spelt name entry found =
      of_found IsRegistered (registry_of x (rules sheet)) name entry (with_rules [] (rules sheet) (All-nil IsRegistered) (spelt_rules sheet spelt)) found
