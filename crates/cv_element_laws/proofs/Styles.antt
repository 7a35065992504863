-- The winning declarations of a style are declarations as an element has them.
use Rattle.std.proofs.Common.{◌≡◌, ℕ, Bool, true, false, List, [], ◌∷◌, Option, Some, None, Ok, Err, is_some, refl, sym, ◌∙◌, subst}
use Rattle.std.specs.Prelude.{All, ◌&&◌, if◌then◌else◌, nat_lt, option_map}
use Rattle.std.proofs.lemmas.Bool.{ltb-false}
use Rattle.std.proofs.lemmas.List.Elements.{All-nil, All-cons, All-head, All-tail, All-append}
use Rattle.cv_spec_text.specs.Keywords.{is_custom}
use Rattle.cv_spec_text.specs.Splits.{IsSpelt}
use Rattle.cv_spec_text.specs.declared.token.Token.{Token}
use Rattle.cv_component.specs.Items.{items}
use Rattle.cv_component.specs.Nesting.{depth}
use Rattle.cv_component.specs.declared.items.Piece.{Piece}
use Rattle.cv_component.specs.declared.items.Piece.TheVariants as pieces
use Rattle.cv_var.specs.Checked.{IsChecked}
use Rattle.cv_var.specs.References.{bad_var}
use Rattle.cv_var.specs.Values.{bad_place}
use Rattle.cv_property.specs.declared.property.Property.{Property}
use Rattle.cv_property.specs.Table.{property_named}
use Rattle.cv_valuation.specs.declared.key.Key.{Key}
use Rattle.cv_valuation.specs.declared.key.Key.TheVariants.{Custom, Table}
use Rattle.cv_valuation.specs.Keys.{is_key, key_named, same_key}
use Rattle.cv_valuation.specs.TableLaws.{PropertiesAreFound}
use Rattle.cv_props.specs.declared.decls.Decl.{Decl}
use Rattle.cv_props.specs.declared.note.Why.{Why}
use Rattle.cv_props.specs.declared.note.Why.TheVariants.{TooDeep, BadValue, BadVar}
use Rattle.cv_props.specs.Kept.{value_fault, may_be_value, declared_by, kept, kept_declarations}
use Rattle.cv_props.specs.WinnerLaws.{WinnersAreByKey}
use Rattle.cv_props.specs.Winners.{Declarations, is_of, is_important_of, first_or, last_such, winner, winners}
use Rattle.cv_element.proofs.SameKeys.{keys_same}
use Rattle.cv_element_laws.specs.Declared.{IsDeclared, AreDeclared}
use Rattle.cv_element_laws.proofs.Items.{IsSpeltPiece, spelt_items}

abbrev IsDeclaredEntry : Key × Decl → Type 0
IsDeclaredEntry entry = IsDeclared entry.0 entry.1

-- ---- kept declarations

named_is_key : (name : List ℕ) (key : Key) → key_named name ≡ Some key → is_key key ≡ true
unfolding key_named
named_is_key name key is = by (is_custom name) refl is
  where
    of_table : (o : Option Property) → option_map Table o ≡ Some key → is_key key ≡ true
    of_table None none = absurd (let clash : None ≡ Some key = none in cc)
    of_table (Some property) same = let there : Table property ≡ key = cc in subst (λ k. is_key k ≡ true) there refl

    by : (b : Bool) → is_custom name ≡ b → (if b then Some (Custom name) else option_map Table (property_named name)) ≡ Some key → is_key key ≡ true
    by true custom same = let there : Custom name ≡ key = cc in subst (λ k. is_key k ≡ true) there custom
    by false plain same = of_table (property_named name) same

checked_value : (value : List Token) → value_fault value ≡ None → IsChecked value
unfolding value_fault
checked_value value none = by (nat_lt 128 (depth value)) refl (bad_place value) refl (bad_var value) refl none
  where
    by : (deep : Bool) → nat_lt 128 (depth value) ≡ deep → (place : Option ℕ) → bad_place value ≡ place → (var : Option ℕ) → bad_var value ≡ var → (if deep then Some TooDeep else (if is_some place then Some BadValue else (if is_some var then Some BadVar else None))) ≡ None → IsChecked value
    by true deep place at var has fault = absurd (let clash : Some TooDeep ≡ None = fault in cc)
    by false shallow (Some n) at var has fault = absurd (let clash : Some BadValue ≡ None = fault in cc)
    by false shallow None at (Some n) has fault = absurd (let clash : Some BadVar ≡ None = fault in cc)
    by false shallow None at None has fault = record { depth_is = ltb-false 128 (depth value) shallow; value = at; references = has }

-- what an item declares
kept_by : (name : List ℕ) (value : List Token) (important : Bool) → All IsSpelt value → (key : Option Key) → key_named name ≡ key → (fault : Option Why) → value_fault value ≡ fault → All IsDeclaredEntry (elim (declared_by key fault value important) [ Ok declaration ↦ declaration ∷ [] | Err why ↦ [] ])
kept_by name value important spelt None named fault is = All-nil IsDeclaredEntry
kept_by name value important spelt (Some key) named (Some why) is = All-nil IsDeclaredEntry
kept_by name value important spelt (Some key) named None is = by (may_be_value key value)
  where
    by : (b : Bool) → All IsDeclaredEntry (elim (if b then Ok (key, record { value = value; important = important }) else Err BadValue) [ Ok declaration ↦ declaration ∷ [] | Err why ↦ [] ])
    by true = All-cons IsDeclaredEntry (key, record { value = value; important = important }) [] (record { key_is = named_is_key name key named; checked = checked_value value is; spelt = spelt }) (All-nil IsDeclaredEntry)
    by false = All-nil IsDeclaredEntry

kept_one : (piece : Piece) → IsSpeltPiece piece → All IsDeclaredEntry (kept piece)
kept_one pieces.At spelt = All-nil IsDeclaredEntry
kept_one pieces.Other spelt = All-nil IsDeclaredEntry
kept_one (pieces.Decl name value important) spelt = kept_by name value important spelt (key_named name) refl (value_fault value) refl

kept_all : (all : List Piece) → All IsSpeltPiece all → All IsDeclaredEntry (kept_declarations all)
kept_all [] spelt = All-nil IsDeclaredEntry
kept_all (piece ∷ all) spelt =
    All-append IsDeclaredEntry (kept piece) (kept_declarations all) (kept_one piece (All-head IsSpeltPiece piece all spelt)) (kept_all all (All-tail IsSpeltPiece piece all spelt))

-- ---- winning declarations

-- the declaration is one of such a key
abbrev IsWinning : (Key × Decl → Bool) → Decl → Type 0
IsWinning test d = (other : Key) × IsDeclared other d × (test (other, d) ≡ true)

last_is : (test : Key × Decl → Bool) (es : Declarations) → All IsDeclaredEntry es → (d : Decl) → last_such test es ≡ Some d → IsWinning test d
last_is test [] all d is = absurd (let clash : None ≡ Some d = is in cc)
last_is test ((other, first) ∷ es) all d is =
    by (λ last. last_is test es (All-tail IsDeclaredEntry (other, first) es all) d last) (last_such test es) refl (test (other, first)) refl is
  where
    by : (last_such test es ≡ Some d → IsWinning test d) → (found : Option Decl) → last_such test es ≡ found → (b : Bool) → test (other, first) ≡ b → first_or found (if b then Some first else None) ≡ Some d → IsWinning test d
    by rest (Some last) there b passes same = rest (there ∙ same)
    by rest None there true passes same =
        let there_is : first ≡ d = cc in
        subst (IsWinning test) there_is (other, All-head IsDeclaredEntry (other, first) es all, passes)
    by rest None there false fails same = absurd (let clash : None ≡ Some d = same in cc)

and_first : (a b : Bool) → (a && b) ≡ true → a ≡ true
and_first true b is = refl
and_first false b is = is

winner_is : PropertiesAreFound → (es : Declarations) → All IsDeclaredEntry es → (key : Key) (d : Decl) → winner es key ≡ Some d → IsDeclared key d
unfolding winner
winner_is found es all key d is = by (last_such (is_important_of key) es) refl is
  where
    of_key : (other : Key) → same_key key other ≡ true → IsDeclared other d → IsDeclared key d
    of_key other same declared = subst (λ k. IsDeclared k d) (sym (keys_same found key other same)) declared

    by : (first : Option Decl) → last_such (is_important_of key) es ≡ first → first_or first (last_such (is_of key) es) ≡ Some d → IsDeclared key d
    by (Some first) there same =
        let last = last_is (is_important_of key) es all d (there ∙ same) in
        of_key last.0 (and_first (same_key key last.0) d.important last.2) last.1
    by None there same =
        let last = last_is (is_of key) es all d same in
        of_key last.0 last.2 last.1

pub style_declared : PropertiesAreFound → WinnersAreByKey → (tokens : List Token) → All IsSpelt tokens → AreDeclared (winners (kept_declarations (items tokens)))
style_declared found laws tokens spelt key d is =
    winner_is found (kept_declarations (items tokens)) (kept_all (items tokens) (spelt_items tokens spelt)) key d (sym (laws.declaration (kept_declarations (items tokens)) key) ∙ is)
