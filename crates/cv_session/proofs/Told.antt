-- Each property that a document declares is one whose changes are told.
use Rattle.std.proofs.Common.{◌≡◌, ℕ, Bool, true, false, ◌||◌, ◌&&◌, List, [], ◌∷◌, ◌++◌, Option, Some, None, Result, Ok, Err, map, ◌⊎◌, inl, inr, refl, sym, ◌∙◌, ap, subst}
use Rattle.std.specs.Prelude.{All, IfSome, option_map, filter, not, bytes_eq, if◌then◌else◌}
use Rattle.std.specs.Cmp.{IsEquivalence}
use Rattle.std.specs.Cmp.Lexicographic.{nat_list_eq_equiv}
use Rattle.std.specs.List.{filter_map, flat_map, list_any}
use Rattle.std.specs.Map.{keys_of}
use Rattle.std.specs.Set.{is_member}
use Rattle.std.proofs.lemmas.List.Elements.{All-cons, All-nil}
use Rattle.std.proofs.lemmas.List.Folds.{list_any-append}
use Rattle.std.proofs.lemmas.List.Sorted.{list_any-IsPermutation}
use Rattle.std.proofs.lemmas.Map.Views.{any-filter_same}
use Rattle.std.proofs.lemmas.Slice.Eq.{bytes_eq-Decides}
use Rattle.cv_spec_text.specs.Keywords.{is_custom}
use Rattle.cv_spec_text.specs.declared.token.Token.{Token}
use Rattle.cv_component.specs.declared.items.Piece.{Piece}
use Rattle.cv_component.specs.declared.items.Piece.TheVariants as pieces
use Rattle.cv_doc.specs.declared.elements.Elem.{Elem}
use Rattle.cv_doc.specs.declared.command.Command.{Command}
use Rattle.cv_doc.specs.declared.command.Command.TheVariants as command
use Rattle.cv_doc.specs.Reading.{Shape}
use Rattle.cv_property.specs.declared.property.Property.{Property}
use Rattle.cv_property.specs.declared.property.Property.TheVariants.{FontSize, Color, LineHeight, LetterSpacing, TextIndent, Visibility, Orphans, Display, Width, Height, MinWidth, MinHeight, MaxWidth, MaxHeight, MarginTop, MarginRight, MarginBottom, MarginLeft, PaddingTop, PaddingRight, PaddingBottom, PaddingLeft, Top, Right, Bottom, Left, RowGap, ColumnGap, Opacity, ZIndex, Order, FlexGrow, FlexShrink, BackgroundColor, OutlineOffset}
use Rattle.cv_property.specs.Table.{number_of, properties, property_named}
use Rattle.cv_valuation.specs.declared.key.Key.{Key}
use Rattle.cv_valuation.specs.declared.key.Key.TheVariants.{Custom, Table}
use Rattle.cv_valuation.specs.Keys.{is_key, key_named, same_key}
use Rattle.cv_valuation.specs.KeyLaws.{same_code, same_key_equiv}
use Rattle.cv_props.specs.declared.decls.Decl.{Decl}
use Rattle.cv_props.specs.declared.note.Why.{Why}
use Rattle.cv_props.specs.declared.note.Why.TheVariants as why
use Rattle.cv_props.specs.Kept.{declared_by, kept, kept_declarations, may_be_value, value_fault}
use Rattle.cv_props.specs.WinnerLaws.{WinnersAreByKey}
use Rattle.cv_props.specs.Winners.{Declarations, keys_kept, winners}
use Rattle.cv_tree.specs.Names.{counted_names, keys_in, name_of_command, name_of_key, names_in, names_shown}
use Rattle.cv_tree.specs.Styles.{declarations_of, items_in}
use Rattle.cv_tree.specs.Tree.{tree_of}
use Rattle.cv_update.specs.Names.{AreTold, told_keys}
use Rattle.cv_session.specs.Scenes.{AreAmong, IsAmong, IsOfThese}
use Rattle.cv_session.proofs.Among.{found_all, or_cases, or_left, or_right}

-- ---- members

-- what a filter leaves was there
member_filtered : {X : Type 0} (test p : X → Bool) (xs : List X) → list_any test (filter p xs) ≡ true → list_any test xs ≡ true
member_filtered test p [] is = is
member_filtered test p (x ∷ xs) is = by (member_filtered test p xs) (p x) is
  where
    by : (list_any test (filter p xs) ≡ true → list_any test xs ≡ true) → (b : Bool) → list_any test (if b then x ∷ filter p xs else filter p xs) ≡ true → list_any test (x ∷ xs) ≡ true
    by rest false there = or_right (test x) (list_any test xs) (rest there)
    by rest true there = at (or_cases (test x) (list_any test (filter p xs)) there)
      where
        at : (test x ≡ true) ⊎ (list_any test (filter p xs) ≡ true) → list_any test (x ∷ xs) ≡ true
        at (inl here) = or_left (test x) (list_any test xs) here
        at (inr more) = or_right (test x) (list_any test xs) (rest more)

keys_joined : {K X : Type 0} (test : K → Bool) (es fs : List (K × X)) → list_any test (keys_of (es ++ fs)) ≡ (list_any test (keys_of es) || list_any test (keys_of fs))
keys_joined test [] fs = refl
keys_joined test ((k, v) ∷ es) fs = by (test k) (keys_joined test es fs)
  where
    by : (b : Bool) → list_any test (keys_of (es ++ fs)) ≡ (list_any test (keys_of es) || list_any test (keys_of fs))
        → (b || list_any test (keys_of (es ++ fs))) ≡ ((b || list_any test (keys_of es)) || list_any test (keys_of fs))
    by true same = refl
    by false same = same

-- ---- declared keys are keys

-- the key of a name is one
is_key-named : (name : List ℕ) (key : Key) → key_named name ≡ Some key → is_key key ≡ true
unfolding key_named
is_key-named name key named = by (is_custom name) refl (property_named name) named
  where
    by : (b : Bool) → is_custom name ≡ b → (o : Option Property) → (if b then Some (Custom name) else option_map Table o) ≡ Some key → is_key key ≡ true
    by true is o named = let same : Custom name ≡ key = cc in ap is_key (sym same) ∙ is
    by false is (Some property) named = let same : Table property ≡ key = cc in ap is_key (sym same)
    by false is None named = cc

same_is_key : (q key : Key) → same_key q key ≡ true → is_key key ≡ true → is_key q ≡ true
same_is_key (Table p) key same is = refl
same_is_key (Custom n) (Custom m) same is = let names : m ≡ n = let codes : 0 ∷ n ≡ 0 ∷ m = same_code (Custom n) (Custom m) same in cc in subst (λ name. is_custom name ≡ true) names is
same_is_key (Custom n) (Table p) same is = let codes = same_code (Custom n) (Table p) same in cc

-- what an item with this key and this declaration is, where it is told whether its value may be one
abbrev declared_if : Key → Decl → Bool → Result (Key × Decl) Why
declared_if key declaration b = if b then Ok (key, declaration) else Err why.BadValue

item_key : (name : Option Key) (fault : Option Why) (value : List Token) (important : Bool) → ((key : Key) → name ≡ Some key → is_key key ≡ true) → (q : Key)
    → is_member same_key (keys_of (elim (declared_by name fault value important) [ Ok declaration ↦ declaration ∷ [] | Err fault ↦ [] ])) q ≡ true → is_key q ≡ true
item_key None fault value important named q is = cc
item_key (Some key) (Some why) value important named q is = cc
item_key (Some key) None value important named q is = by (may_be_value key value) is
  where
    at : (same_key q key ≡ true) ⊎ (false ≡ true) → is_key q ≡ true
    at (inl same) = same_is_key q key same (named key refl)
    at (inr never) = cc

    by : (b : Bool) → is_member same_key (keys_of (elim (declared_if key (record { value = value; important = important }) b) [ Ok declaration ↦ declaration ∷ [] | Err fault ↦ [] ])) q ≡ true → is_key q ≡ true
    by true there = at (or_cases (same_key q key) false there)
    by false there = cc

piece_key : (piece : Piece) (q : Key) → is_member same_key (keys_of (kept piece)) q ≡ true → is_key q ≡ true
piece_key pieces.At q is = cc
piece_key pieces.Other q is = cc
piece_key (pieces.Decl name value important) q is = item_key (key_named name) (value_fault value) value important (is_key-named name) q is

kept_key : (ps : List Piece) (q : Key) → is_member same_key (keys_of (kept_declarations ps)) q ≡ true → is_key q ≡ true
kept_key [] q is = cc
kept_key (p ∷ ps) q is =
    by (kept_key ps q) (or_cases (list_any (same_key q) (keys_of (kept p))) (list_any (same_key q) (keys_of (kept_declarations ps))) (sym (keys_joined (same_key q) (kept p) (kept_declarations ps)) ∙ is))
  where
    by : (is_member same_key (keys_of (kept_declarations ps)) q ≡ true → is_key q ≡ true) → (list_any (same_key q) (keys_of (kept p)) ≡ true) ⊎ (list_any (same_key q) (keys_of (kept_declarations ps)) ≡ true) → is_key q ≡ true
    by rest (inl here) = piece_key p q here
    by rest (inr more) = rest more

first_kept : (ds : Declarations) (q : Key) → is_member same_key (keys_kept ds) q ≡ true → is_member same_key (keys_of ds) q ≡ true
first_kept [] q is = is
first_kept ((key, declaration) ∷ ds) q is = by (first_kept ds q) (or_cases (same_key q key) (list_any (same_key q) (filter (λ other. not (same_key key other)) (keys_kept ds))) is)
  where
    by : (is_member same_key (keys_kept ds) q ≡ true → is_member same_key (keys_of ds) q ≡ true)
        → (same_key q key ≡ true) ⊎ (list_any (same_key q) (filter (λ other. not (same_key key other)) (keys_kept ds)) ≡ true) → is_member same_key (key ∷ keys_of ds) q ≡ true
    by rest (inl here) = or_left (same_key q key) (list_any (same_key q) (keys_of ds)) here
    by rest (inr more) = or_right (same_key q key) (list_any (same_key q) (keys_of ds)) (rest (member_filtered (same_key q) (λ other. not (same_key key other)) (keys_kept ds) more))

declared_key : WinnersAreByKey → (element : Elem) (q : Key) → is_member same_key (keys_of (declarations_of element)) q ≡ true → is_key q ≡ true
declared_key by_key element q is =
    let ds = kept_declarations (items_in element.style) in
    kept_key (items_in element.style) q (first_kept ds q (sym (ap (λ ks. is_member same_key ks q) (by_key.order ds)) ∙ is))

-- ---- custom names are counted

same_name : (n m : List ℕ) → bytes_eq n m ≡ true → same_key (Custom n) (Custom m) ≡ true
same_name n m same = subst (λ name. same_key (Custom n) (Custom name) ≡ true) ((bytes_eq-Decides n m).0 same) (same_key_equiv.refl (Custom n))

name_of_same : (n m : List ℕ) → same_key (Custom n) (Custom m) ≡ true → bytes_eq n m ≡ true
name_of_same n m same = let codes : 0 ∷ n ≡ 0 ∷ m = same_code (Custom n) (Custom m) same in let names : n ≡ m = cc in subst (λ name. bytes_eq n name ≡ true) names (nat_list_eq_equiv.refl n)

custom_told : (names : List (List ℕ)) (n : List ℕ) → list_any (bytes_eq n) names ≡ true → list_any (same_key (Custom n)) (map Custom names) ≡ true
custom_told [] n is = is
custom_told (m ∷ ms) n is = by (custom_told ms n) (or_cases (bytes_eq n m) (list_any (bytes_eq n) ms) is)
  where
    by : (list_any (bytes_eq n) ms ≡ true → list_any (same_key (Custom n)) (map Custom ms) ≡ true) → (bytes_eq n m ≡ true) ⊎ (list_any (bytes_eq n) ms ≡ true)
        → (same_key (Custom n) (Custom m) || list_any (same_key (Custom n)) (map Custom ms)) ≡ true
    by rest (inl same) = or_left (same_key (Custom n) (Custom m)) (list_any (same_key (Custom n)) (map Custom ms)) (same_name n m same)
    by rest (inr more) = or_right (same_key (Custom n) (Custom m)) (list_any (same_key (Custom n)) (map Custom ms)) (rest more)

names_found : (ks : List Key) (n : List ℕ) → list_any (same_key (Custom n)) ks ≡ true → list_any (bytes_eq n) (filter_map name_of_key ks) ≡ true
names_found [] n is = is
names_found (Custom m ∷ ks) n is = by (names_found ks n) (or_cases (same_key (Custom n) (Custom m)) (list_any (same_key (Custom n)) ks) is)
  where
    by : (list_any (same_key (Custom n)) ks ≡ true → list_any (bytes_eq n) (filter_map name_of_key ks) ≡ true)
        → (same_key (Custom n) (Custom m) ≡ true) ⊎ (list_any (same_key (Custom n)) ks ≡ true) → (bytes_eq n m || list_any (bytes_eq n) (filter_map name_of_key ks)) ≡ true
    by rest (inl same) = or_left (bytes_eq n m) (list_any (bytes_eq n) (filter_map name_of_key ks)) (name_of_same n m same)
    by rest (inr more) = or_right (bytes_eq n m) (list_any (bytes_eq n) (filter_map name_of_key ks)) (rest more)
names_found (Table p ∷ ks) n is = by (names_found ks n) (or_cases (same_key (Custom n) (Table p)) (list_any (same_key (Custom n)) ks) is)
  where
    by : (list_any (same_key (Custom n)) ks ≡ true → list_any (bytes_eq n) (filter_map name_of_key ks) ≡ true)
        → (same_key (Custom n) (Table p) ≡ true) ⊎ (list_any (same_key (Custom n)) ks ≡ true) → list_any (bytes_eq n) (filter_map name_of_key ks) ≡ true
    by rest (inl same) = let codes = same_code (Custom n) (Table p) same in cc
    by rest (inr more) = rest more

-- the keys of all elements
abbrev declared_in : Shape → List Key
declared_in document = keys_in (map declarations_of document.elements)

-- the names that are counted, where they are custom ones
abbrev names_of : Shape → List (List ℕ)
names_of document = names_in (tree_of document).registered (map declarations_of document.elements) document.show document.commands

in_front : {X : Type 0} (test : X → Bool) (xs ys : List X) → list_any test xs ≡ true → list_any test (xs ++ ys) ≡ true
in_front test xs ys is = list_any-append test xs ys ∙ or_left (list_any test xs) (list_any test ys) is

in_back : {X : Type 0} (test : X → Bool) (xs ys : List X) → list_any test ys ≡ true → list_any test (xs ++ ys) ≡ true
in_back test xs ys is = list_any-append test xs ys ∙ or_right (list_any test xs) (list_any test ys) is

custom_counted : (document : Shape) (n : List ℕ) → is_custom n ≡ true → list_any (bytes_eq n) (names_of document) ≡ true → list_any (bytes_eq n) (counted_names document) ≡ true
custom_counted document n custom there =
    let left : list_any (bytes_eq n) (filter is_custom (names_of document)) ≡ true =
    any-filter_same (bytes_eq n) is_custom true (λ m same. subst (λ name. is_custom name ≡ true) ((bytes_eq-Decides n m).0 same) custom) (names_of document) ∙ there in
    found_all nat_list_eq_equiv (filter is_custom (names_of document)) [] n (inr left)

name_counted : (document : Shape) (n : List ℕ) → is_custom n ≡ true → list_any (bytes_eq n) (filter_map name_of_key (declared_in document)) ≡ true
    → list_any (bytes_eq n) (counted_names document) ≡ true
name_counted document n custom there =
    let rules = keys_of (tree_of document).registered in
    let declared = filter_map name_of_key (declared_in document) in
    let shown = names_shown document.show in
    let asked = filter_map name_of_command document.commands in
    custom_counted document n custom
    (in_front (bytes_eq n) ((rules ++ declared) ++ shown) asked (in_front (bytes_eq n) (rules ++ declared) shown (in_back (bytes_eq n) rules declared there)))

name_asked : (document : Shape) (n : List ℕ) → is_custom n ≡ true → list_any (bytes_eq n) (filter_map name_of_command document.commands) ≡ true
    → list_any (bytes_eq n) (counted_names document) ≡ true
name_asked document n custom there =
    let rules = keys_of (tree_of document).registered in
    let declared = filter_map name_of_key (declared_in document) in
    custom_counted document n custom (in_back (bytes_eq n) ((rules ++ declared) ++ names_shown document.show) (filter_map name_of_command document.commands) there)

listed : (p : Property) → list_any (same_key (Table p)) (map Table properties) ≡ true
unfolding number_of
listed p =
    elim p as (λ p. list_any (same_key (Table p)) (map Table properties) ≡ true) [ FontSize ↦ refl | Color ↦ refl | LineHeight ↦ refl | LetterSpacing ↦ refl | TextIndent ↦ refl | Visibility ↦ refl | Orphans ↦ refl | Display ↦ refl | Width ↦ refl | Height ↦ refl | MinWidth ↦ refl | MinHeight ↦ refl | MaxWidth ↦ refl | MaxHeight ↦ refl | MarginTop ↦ refl | MarginRight ↦ refl | MarginBottom ↦ refl | MarginLeft ↦ refl | PaddingTop ↦ refl | PaddingRight ↦ refl | PaddingBottom ↦ refl | PaddingLeft ↦ refl | Top ↦ refl | Right ↦ refl | Bottom ↦ refl | Left ↦ refl | RowGap ↦ refl | ColumnGap ↦ refl | Opacity ↦ refl | ZIndex ↦ refl | Order ↦ refl | FlexGrow ↦ refl | FlexShrink ↦ refl | BackgroundColor ↦ refl | OutlineOffset ↦ refl ]

-- ---- the law

module _ (by_key : WinnersAreByKey) (document : Shape) (keys : List Key) (told : AreTold (counted_names document) keys) where
  among_told : (q : Key) → list_any (same_key q) (told_keys (counted_names document)) ≡ true → IsAmong keys q
  among_told q is = sym (list_any-IsPermutation (same_key q) (told_keys (counted_names document)) keys told.all) ∙ is

  custom_among : (n : List ℕ) → list_any (bytes_eq n) (counted_names document) ≡ true → IsAmong keys (Custom n)
  custom_among n there =
      among_told (Custom n) (
      list_any-append (same_key (Custom n)) (map Custom (counted_names document)) (map Table properties)
      ∙ or_left (list_any (same_key (Custom n)) (map Custom (counted_names document))) (list_any (same_key (Custom n)) (map Table properties)) (custom_told (counted_names document) n there))

  table_among : (p : Property) → IsAmong keys (Table p)
  table_among p =
      among_told (Table p) (
      list_any-append (same_key (Table p)) (map Custom (counted_names document)) (map Table properties)
      ∙ or_right (list_any (same_key (Table p)) (map Custom (counted_names document))) (list_any (same_key (Table p)) (map Table properties)) (listed p))

  key_told : (q : Key) → is_key q ≡ true → list_any (same_key q) (declared_in document) ≡ true → IsAmong keys q
  key_told (Custom n) is there = custom_among n (name_counted document n is (names_found (declared_in document) n there))
  key_told (Table p) is there = table_among p

  all_among : (elements : List Elem) → ((q : Key) → list_any (same_key q) (keys_in (map declarations_of elements)) ≡ true → list_any (same_key q) (declared_in document) ≡ true)
      → All (AreAmong keys) (map declarations_of elements)
  all_among [] whole = All-nil (AreAmong keys)
  all_among (e ∷ es) whole =
      All-cons (AreAmong keys) (declarations_of e) (map declarations_of es)
      (λ q is. key_told q (declared_key by_key e q is) (whole q (list_any-append (same_key q) (keys_of (declarations_of e)) (keys_in (map declarations_of es))
      ∙ or_left (list_any (same_key q) (keys_of (declarations_of e))) (list_any (same_key q) (keys_in (map declarations_of es))) is)))
      (all_among es (λ q is. whole q (list_any-append (same_key q) (keys_of (declarations_of e)) (keys_in (map declarations_of es))
      ∙ or_right (list_any (same_key q) (keys_of (declarations_of e))) (list_any (same_key q) (keys_in (map declarations_of es))) is)))

  pub declared_among : All (AreAmong keys) (map declarations_of document.elements)
  declared_among = all_among document.elements (λ q is. is)

  -- ---- commands

  named : (name : List ℕ) → list_any (bytes_eq name) (filter_map name_of_command document.commands) ≡ true → IfSome (key_named name) (IsAmong keys)
  unfolding key_named
  named name there = by (is_custom name) refl (property_named name)
    where
      by : (b : Bool) → is_custom name ≡ b → (o : Option Property) → IfSome (if b then Some (Custom name) else option_map Table o) (IsAmong keys)
      by true is o = custom_among name (name_asked document name is there)
      by false is (Some p) = table_among p
      by false is None = tt

  -- every name that these commands speak of is one that the document's commands do
  abbrev AreAsked : List Command → Type 0
  AreAsked cs = (n : List ℕ) → list_any (bytes_eq n) (filter_map name_of_command cs) ≡ true → list_any (bytes_eq n) (filter_map name_of_command document.commands) ≡ true

  first_named : (name : List ℕ) (rest : List (List ℕ)) → ((n : List ℕ) → list_any (bytes_eq n) (name ∷ rest) ≡ true → list_any (bytes_eq n) (filter_map name_of_command document.commands) ≡ true)
      → IfSome (key_named name) (IsAmong keys)
  first_named name rest whole = named name (whole name (or_left (bytes_eq name name) (list_any (bytes_eq name) rest) (nat_list_eq_equiv.refl name)))

  rest_named : (name : List ℕ) (rest : List (List ℕ)) → ((n : List ℕ) → list_any (bytes_eq n) (name ∷ rest) ≡ true → list_any (bytes_eq n) (filter_map name_of_command document.commands) ≡ true)
      → (n : List ℕ) → list_any (bytes_eq n) rest ≡ true → list_any (bytes_eq n) (filter_map name_of_command document.commands) ≡ true
  rest_named name rest whole n is = whole n (or_right (bytes_eq n name) (list_any (bytes_eq n) rest) is)

  all_of_these : (cs : List Command) → AreAsked cs → All (IsOfThese keys) cs
  all_of_these [] whole = All-nil (IsOfThese keys)
  all_of_these (command.Get element name ∷ cs) whole = All-cons (IsOfThese keys) (command.Get element name) cs (first_named name (filter_map name_of_command cs) whole) (all_of_these cs (rest_named name (filter_map name_of_command cs) whole))
  all_of_these (command.GetAll element name ∷ cs) whole = All-cons (IsOfThese keys) (command.GetAll element name) cs (first_named name (filter_map name_of_command cs) whole) (all_of_these cs (rest_named name (filter_map name_of_command cs) whole))
  all_of_these (command.Has element name ∷ cs) whole = All-cons (IsOfThese keys) (command.Has element name) cs (first_named name (filter_map name_of_command cs) whole) (all_of_these cs (rest_named name (filter_map name_of_command cs) whole))
  all_of_these (command.Set element name value ∷ cs) whole = All-cons (IsOfThese keys) (command.Set element name value) cs (first_named name (filter_map name_of_command cs) whole) (all_of_these cs (rest_named name (filter_map name_of_command cs) whole))
  all_of_these (command.Append element name value ∷ cs) whole = All-cons (IsOfThese keys) (command.Append element name value) cs (first_named name (filter_map name_of_command cs) whole) (all_of_these cs (rest_named name (filter_map name_of_command cs) whole))
  all_of_these (command.Delete element name ∷ cs) whole = All-cons (IsOfThese keys) (command.Delete element name) cs (first_named name (filter_map name_of_command cs) whole) (all_of_these cs (rest_named name (filter_map name_of_command cs) whole))
  all_of_these (command.Clear element ∷ cs) whole = All-cons (IsOfThese keys) (command.Clear element) cs tt (all_of_these cs whole)
  all_of_these (command.Size element ∷ cs) whole = All-cons (IsOfThese keys) (command.Size element) cs tt (all_of_these cs whole)
  all_of_these (command.Entries element ∷ cs) whole = All-cons (IsOfThese keys) (command.Entries element) cs tt (all_of_these cs whole)
  all_of_these (command.Computed element name ∷ cs) whole = All-cons (IsOfThese keys) (command.Computed element name) cs (first_named name (filter_map name_of_command cs) whole) (all_of_these cs (rest_named name (filter_map name_of_command cs) whole))
  all_of_these (command.Reify element name ∷ cs) whole = All-cons (IsOfThese keys) (command.Reify element name) cs (first_named name (filter_map name_of_command cs) whole) (all_of_these cs (rest_named name (filter_map name_of_command cs) whole))
  all_of_these (command.Unwatch watcher ∷ cs) whole = All-cons (IsOfThese keys) (command.Unwatch watcher) cs tt (all_of_these cs whole)

  pub commands_among : All (IsOfThese keys) document.commands
  commands_among = all_of_these document.commands (λ n is. is)
