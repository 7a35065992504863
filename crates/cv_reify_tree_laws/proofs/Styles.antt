-- The winning declarations of a style may be declared, and their values are trimmed.
use Rattle.std.proofs.Common.{◌≡◌, ℕ, Bool, true, false, List, [], ◌∷◌, Option, Some, None, Ok, Err, is_some, refl, sym, ◌∙◌, subst}
use Rattle.std.specs.Prelude.{All, ◌&&◌, if◌then◌else◌, nat_lt, option_map}
use Rattle.std.proofs.lemmas.List.Elements.{All-nil, All-cons, All-head, All-tail, All-append}
use Rattle.cv_spec_text.specs.Keywords.{is_custom}
use Rattle.cv_spec_text.specs.declared.token.Token.{Token}
use Rattle.cv_component.specs.Items.{items}
use Rattle.cv_component.specs.Nesting.{depth}
use Rattle.cv_component.specs.declared.items.Piece.{Piece}
use Rattle.cv_component.specs.declared.items.Piece.TheVariants as pieces
use Rattle.cv_var.specs.References.{bad_var}
use Rattle.cv_var.specs.Values.{bad_place}
use Rattle.cv_property.specs.declared.property.Property.{Property}
use Rattle.cv_property.specs.Table.{property_named}
use Rattle.cv_valuation.specs.declared.key.Key.{Key}
use Rattle.cv_valuation.specs.declared.key.Key.TheVariants.{Custom, Table}
use Rattle.cv_valuation.specs.Keys.{is_key, key_named, same_key}
use Rattle.cv_valuation.specs.TableLaws.{PropertiesAreFound}
use Rattle.cv_props.specs.Declaring.{MayDeclare}
use Rattle.cv_props.specs.declared.decls.Decl.{Decl}
use Rattle.cv_props.specs.declared.note.Why.{Why}
use Rattle.cv_props.specs.declared.note.Why.TheVariants.{TooDeep, BadValue, BadVar}
use Rattle.cv_props.specs.Kept.{value_fault, may_be_value, declared_by, kept, kept_declarations}
use Rattle.cv_props.specs.WinnerLaws.{WinnersAreByKey}
use Rattle.cv_props.specs.Winners.{Declarations, declaration_of, is_of, is_important_of, first_or, last_such, winner, winners}
use Rattle.cv_element.proofs.SameKeys.{keys_same}
use Rattle.cv_reify_tree_laws.proofs.Trimmed.{IsTrimmed, IsTrimmedPiece, items_trimmed}

-- the declaration may be kept for the key, its references are whole, and its value is trimmed
pub record IsStyled (key : Key) (declaration : Decl) : Type 0 where
  pub may : MayDeclare key declaration
  pub references : bad_var declaration.value ≡ None
  pub trimmed : IsTrimmed declaration.value

abbrev IsStyledEntry : Key × Decl → Type 0
IsStyledEntry entry = IsStyled entry.0 entry.1

-- ---- kept declarations

named_is_key : (name : List ℕ) (key : Key) → key_named name ≡ Some key → is_key key ≡ true
unfolding key_named
named_is_key name key is = by (is_custom name) refl is
  where
    of_table : (o : Option Property) → option_map Table o ≡ Some key → is_key key ≡ true
    of_table None none = absurd (let clash : None ≡ Some key = none in cc)
    of_table (Some property) same = let there : Table property ≡ key = cc in subst (λ k. is_key k ≡ true) there refl

    by : (b : Bool) → is_custom name ≡ b → (if b then Some (Custom name) else option_map Table (property_named name)) ≡ Some key → is_key key ≡ true
    by true custom same = let there : Custom name ≡ key = cc in subst (λ k. is_key k ≡ true) there custom
    by false plain same = of_table (property_named name) same

whole_references : (value : List Token) → value_fault value ≡ None → bad_var value ≡ None
unfolding value_fault
whole_references value none = by (nat_lt 128 (depth value)) (bad_place value) (bad_var value) none
  where
    by : (deep : Bool) (place var : Option ℕ) → (if deep then Some TooDeep else (if is_some place then Some BadValue else (if is_some var then Some BadVar else None))) ≡ None → var ≡ None
    by true place var fault = absurd (let clash : Some TooDeep ≡ None = fault in cc)
    by false (Some n) var fault = absurd (let clash : Some BadValue ≡ None = fault in cc)
    by false None (Some n) fault = absurd (let clash : Some BadVar ≡ None = fault in cc)
    by false None None fault = refl

-- what an item declares
kept_by : (name : List ℕ) (value : List Token) (important : Bool) → IsTrimmed value → (key : Option Key) → key_named name ≡ key → (fault : Option Why) → value_fault value ≡ fault → All IsStyledEntry (elim (declared_by key fault value important) [ Ok declaration ↦ declaration ∷ [] | Err why ↦ [] ])
kept_by name value important trimmed None named fault is = All-nil IsStyledEntry
kept_by name value important trimmed (Some key) named (Some why) is = All-nil IsStyledEntry
kept_by name value important trimmed (Some key) named None is = by (may_be_value key value) refl
  where
    by : (b : Bool) → may_be_value key value ≡ b → All IsStyledEntry (elim (if b then Ok (key, record { value = value; important = important }) else Err BadValue) [ Ok declaration ↦ declaration ∷ [] | Err why ↦ [] ])
    by true may = All-cons IsStyledEntry (key, record { value = value; important = important }) [] (record { may = (named_is_key name key named, may); references = whole_references value is; trimmed = trimmed }) (All-nil IsStyledEntry)
    by false may = All-nil IsStyledEntry

kept_one : (piece : Piece) → IsTrimmedPiece piece → All IsStyledEntry (kept piece)
kept_one pieces.At trimmed = All-nil IsStyledEntry
kept_one pieces.Other trimmed = All-nil IsStyledEntry
kept_one (pieces.Decl name value important) trimmed = kept_by name value important trimmed (key_named name) refl (value_fault value) refl

kept_all : (all : List Piece) → All IsTrimmedPiece all → All IsStyledEntry (kept_declarations all)
kept_all [] trimmed = All-nil IsStyledEntry
kept_all (piece ∷ all) trimmed =
    All-append IsStyledEntry (kept piece) (kept_declarations all) (kept_one piece (All-head IsTrimmedPiece piece all trimmed)) (kept_all all (All-tail IsTrimmedPiece piece all trimmed))

-- ---- winning declarations

-- the declaration is one of such a key
abbrev IsWinning : (Key × Decl → Bool) → Decl → Type 0
IsWinning test d = (other : Key) × IsStyled other d × (test (other, d) ≡ true)

last_is : (test : Key × Decl → Bool) (es : Declarations) → All IsStyledEntry es → (d : Decl) → last_such test es ≡ Some d → IsWinning test d
last_is test [] all d is = absurd (let clash : None ≡ Some d = is in cc)
last_is test ((other, first) ∷ es) all d is =
    by (λ last. last_is test es (All-tail IsStyledEntry (other, first) es all) d last) (last_such test es) refl (test (other, first)) refl is
  where
    by : (last_such test es ≡ Some d → IsWinning test d) → (found : Option Decl) → last_such test es ≡ found → (b : Bool) → test (other, first) ≡ b → first_or found (if b then Some first else None) ≡ Some d → IsWinning test d
    by rest (Some last) there b passes same = rest (there ∙ same)
    by rest None there true passes same =
        let there_is : first ≡ d = cc in
        subst (IsWinning test) there_is (other, All-head IsStyledEntry (other, first) es all, passes)
    by rest None there false fails same = absurd (let clash : None ≡ Some d = same in cc)

and_first : (a b : Bool) → (a && b) ≡ true → a ≡ true
and_first true b is = refl
and_first false b is = is

winner_is : PropertiesAreFound → (es : Declarations) → All IsStyledEntry es → (key : Key) (d : Decl) → winner es key ≡ Some d → IsStyled key d
unfolding winner
winner_is found es all key d is = by (last_such (is_important_of key) es) refl is
  where
    of_key : (other : Key) → same_key key other ≡ true → IsStyled other d → IsStyled key d
    of_key other same styled = subst (λ k. IsStyled k d) (sym (keys_same found key other same)) styled

    by : (first : Option Decl) → last_such (is_important_of key) es ≡ first → first_or first (last_such (is_of key) es) ≡ Some d → IsStyled key d
    by (Some first) there same =
        let last = last_is (is_important_of key) es all d (there ∙ same) in
        of_key last.0 (and_first (same_key key last.0) d.important last.2) last.1
    by None there same =
        let last = last_is (is_of key) es all d same in
        of_key last.0 last.2 last.1

pub style_styled : PropertiesAreFound → WinnersAreByKey → (tokens : List Token) (key : Key) (d : Decl) → declaration_of (winners (kept_declarations (items tokens))) key ≡ Some d → IsStyled key d
style_styled found laws tokens key d is =
    winner_is found (kept_declarations (items tokens)) (kept_all (items tokens) (items_trimmed tokens)) key d (sym (laws.declaration (kept_declarations (items tokens)) key) ∙ is)
