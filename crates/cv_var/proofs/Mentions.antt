-- The names of the references of a list in which each `var()` is right are those that stand behind a `var(`.
use Rattle.std.proofs.Common.{◌≡◌, ℕ, suc, zero, ◌+◌, ◌-◌, ◌≤◌, List, [], ◌∷◌, ◌++◌, length, take, drop, Option, Some, None, refl, sym, ◌∙◌, ap, ap₂, subst, append_assoc, append-nil, length-append, arith, inl, inr}
use Rattle.std.specs.Prelude.{Bool, true, false, if◌then◌else◌, option_map, reverse, Contains}
use Rattle.std.proofs.lemmas.List.{take-append-drop, length-take-le, reverse-append, reverse-reverse, drop_all}
use Rattle.std.proofs.Math.Seq.{take-append_seam}
use Rattle.std.proofs.lemmas.List.Elements.{Contains-append_left, Contains-append_right, Contains-append_cases, Contains-push_cases}
use Rattle.cv_spec_text.specs.Keywords.{is_custom}
use Rattle.cv_spec_text.specs.declared.token.Bracket.{Bracket}
use Rattle.cv_spec_text.specs.declared.token.Token.{Token}
use Rattle.cv_spec_text.specs.declared.token.Token.TheVariants.{Ident, Function, At, Hash, Str, BadStr, Url, BadUrl, Delim, Number, Percentage, Dimension, White, Cdo, Cdc, Colon, Semicolon, Comma, Open, Close}
use Rattle.cv_component.specs.Nesting.{opened}
use Rattle.cv_component.specs.Balance.{IsBlock, BlocksAreBalanced}
use Rattle.cv_component.specs.Balance as balance
use Rattle.cv_component.specs.Blocks.{closing, closing_of, matching}
use Rattle.cv_component.specs.TopLevel.{trim_front, trim_end}
use Rattle.cv_spec_element.specs.Pieces.{Pieces}
use Rattle.cv_var.specs.Checked.{IsChecked}
use Rattle.cv_var.specs.Mentions.{name_behind, names_behind, StandsInVar, ReferencesAreFound}
use Rattle.cv_var.specs.Names.{names_of}
use Rattle.cv_var.specs.Values.{is_value}
use Rattle.cv_var.specs.References.{Reference, is_var, name_in, fallback_in, named_fallback_in, reference_in, inner_to, size_to, function_size, reference_at, first_piece, pieces_within, pieces_of}
use Rattle.cv_var.proofs.GoodLists.{IsGood, split, good_drop}
use Rattle.cv_var.proofs.Naming.{refers, is_named}
use Rattle.cv_var.proofs.NoVar.{FallbackIsGood, no_var, reference_at-good}
use Rattle.cv_var.proofs.Unfolding.{FallbackWithin, reference_at-within, length-behind}

-- a closing bracket parts what stands in front of it from what stands behind it
name-close : (front : List Token) (closer : Bracket) (more : List Token) → name_behind (front ++ Close closer ∷ more) ≡ name_behind front
name-close [] closer more = refl
name-close (Ident text ∷ rest) closer more = refl
name-close (Function text ∷ rest) closer more = refl
name-close (At text ∷ rest) closer more = refl
name-close (Hash text id ∷ rest) closer more = refl
name-close (Str text ∷ rest) closer more = refl
name-close (BadStr ∷ rest) closer more = refl
name-close (Url text ∷ rest) closer more = refl
name-close (BadUrl ∷ rest) closer more = refl
name-close (Delim c ∷ rest) closer more = refl
name-close (Number text ∷ rest) closer more = refl
name-close (Percentage text ∷ rest) closer more = refl
name-close (Dimension number text ∷ rest) closer more = refl
name-close (White ∷ rest) closer more = name-close rest closer more
name-close (Cdo ∷ rest) closer more = refl
name-close (Cdc ∷ rest) closer more = refl
name-close (Colon ∷ rest) closer more = refl
name-close (Semicolon ∷ rest) closer more = refl
name-close (Comma ∷ rest) closer more = refl
name-close (Open bracket ∷ rest) closer more = refl
name-close (Close bracket ∷ rest) closer more = refl

names_by : (var : Bool) (name names more : List (List ℕ)) → (if var then name ++ (names ++ more) else names ++ more) ≡ (if var then name ++ names else names) ++ more
names_by true name names more = sym (append_assoc name names more)
names_by false name names more = refl

names-close : (front : List Token) (closer : Bracket) (more : List Token) → names_behind (front ++ Close closer ∷ more) ≡ names_behind front ++ names_behind more
names-close [] closer more = refl
names-close (t ∷ front) closer more =
    ap₂ (λ (name names : List (List ℕ)). if is_var t then name ++ names else names) (name-close front closer more) (names-close front closer more)
    ∙ names_by (is_var t) (name_behind front) (names_behind front) (names_behind more)

-- whitespace at the ends counts nothing
name-white : (tokens : List Token) → name_behind (tokens ++ White ∷ []) ≡ name_behind tokens
name-white [] = refl
name-white (Ident text ∷ rest) = refl
name-white (Function text ∷ rest) = refl
name-white (At text ∷ rest) = refl
name-white (Hash text id ∷ rest) = refl
name-white (Str text ∷ rest) = refl
name-white (BadStr ∷ rest) = refl
name-white (Url text ∷ rest) = refl
name-white (BadUrl ∷ rest) = refl
name-white (Delim c ∷ rest) = refl
name-white (Number text ∷ rest) = refl
name-white (Percentage text ∷ rest) = refl
name-white (Dimension number text ∷ rest) = refl
name-white (White ∷ rest) = name-white rest
name-white (Cdo ∷ rest) = refl
name-white (Cdc ∷ rest) = refl
name-white (Colon ∷ rest) = refl
name-white (Semicolon ∷ rest) = refl
name-white (Comma ∷ rest) = refl
name-white (Open bracket ∷ rest) = refl
name-white (Close bracket ∷ rest) = refl

names-white : (tokens : List Token) → names_behind (tokens ++ White ∷ []) ≡ names_behind tokens
names-white [] = refl
names-white (t ∷ rest) = ap₂ (λ (name names : List (List ℕ)). if is_var t then name ++ names else names) (name-white rest) (names-white rest)

name-front : (tokens : List Token) → name_behind (trim_front tokens) ≡ name_behind tokens
name-front [] = refl
name-front (Ident text ∷ rest) = refl
name-front (Function text ∷ rest) = refl
name-front (At text ∷ rest) = refl
name-front (Hash text id ∷ rest) = refl
name-front (Str text ∷ rest) = refl
name-front (BadStr ∷ rest) = refl
name-front (Url text ∷ rest) = refl
name-front (BadUrl ∷ rest) = refl
name-front (Delim c ∷ rest) = refl
name-front (Number text ∷ rest) = refl
name-front (Percentage text ∷ rest) = refl
name-front (Dimension number text ∷ rest) = refl
name-front (White ∷ rest) = name-front rest
name-front (Cdo ∷ rest) = refl
name-front (Cdc ∷ rest) = refl
name-front (Colon ∷ rest) = refl
name-front (Semicolon ∷ rest) = refl
name-front (Comma ∷ rest) = refl
name-front (Open bracket ∷ rest) = refl
name-front (Close bracket ∷ rest) = refl

names-front : (tokens : List Token) → names_behind (trim_front tokens) ≡ names_behind tokens
names-front [] = refl
names-front (Ident text ∷ rest) = refl
names-front (Function text ∷ rest) = refl
names-front (At text ∷ rest) = refl
names-front (Hash text id ∷ rest) = refl
names-front (Str text ∷ rest) = refl
names-front (BadStr ∷ rest) = refl
names-front (Url text ∷ rest) = refl
names-front (BadUrl ∷ rest) = refl
names-front (Delim c ∷ rest) = refl
names-front (Number text ∷ rest) = refl
names-front (Percentage text ∷ rest) = refl
names-front (Dimension number text ∷ rest) = refl
names-front (White ∷ rest) = names-front rest
names-front (Cdo ∷ rest) = refl
names-front (Cdc ∷ rest) = refl
names-front (Colon ∷ rest) = refl
names-front (Semicolon ∷ rest) = refl
names-front (Comma ∷ rest) = refl
names-front (Open bracket ∷ rest) = refl
names-front (Close bracket ∷ rest) = refl

turned : (tokens : List Token) → names_behind (reverse (trim_front tokens)) ≡ names_behind (reverse tokens)
turned [] = refl
turned (Ident text ∷ rest) = refl
turned (Function text ∷ rest) = refl
turned (At text ∷ rest) = refl
turned (Hash text id ∷ rest) = refl
turned (Str text ∷ rest) = refl
turned (BadStr ∷ rest) = refl
turned (Url text ∷ rest) = refl
turned (BadUrl ∷ rest) = refl
turned (Delim c ∷ rest) = refl
turned (Number text ∷ rest) = refl
turned (Percentage text ∷ rest) = refl
turned (Dimension number text ∷ rest) = refl
turned (White ∷ rest) = turned rest ∙ sym (names-white (reverse rest)) ∙ ap names_behind (sym (reverse-append (White ∷ []) rest))
turned (Cdo ∷ rest) = refl
turned (Cdc ∷ rest) = refl
turned (Colon ∷ rest) = refl
turned (Semicolon ∷ rest) = refl
turned (Comma ∷ rest) = refl
turned (Open bracket ∷ rest) = refl
turned (Close bracket ∷ rest) = refl

names-end : (tokens : List Token) → names_behind (trim_end tokens) ≡ names_behind tokens
names-end tokens = turned (reverse tokens) ∙ ap names_behind (reverse-reverse tokens)

-- what is between the brackets of a reference
abbrev fallback_names : Option (List Token) → List (List ℕ)
fallback_names None = []
fallback_names (Some fallback) = names_behind fallback

record Reads (tokens : List Token) (name : List ℕ) (fallback : Option (List Token)) : Type 0 where
  pub name_is : name_behind tokens ≡ name ∷ []
  pub names : names_behind tokens ≡ fallback_names fallback

abbrev ReadsFallback : List ℕ → List Token → List ℕ → Option (List Token) → Type 0
ReadsFallback text tokens name fallback = (text ≡ name) × (names_behind tokens ≡ fallback_names fallback)

comma_read : (text : List ℕ) (value : List Token) (name : List ℕ) (fallback : Option (List Token)) (right : Bool) → if◌then◌else◌ {A = Option Reference} right (Some (text, Some (trim_end (trim_front value)))) None ≡ Some (name, fallback) → ReadsFallback text value name fallback
comma_read text value name fallback true is =
    let pair : ◌≡◌ {A = Reference} (text, Some (trim_end (trim_front value))) (name, fallback) = cc in
    let found : Some (trim_end (trim_front value)) ≡ fallback = ap (λ (p : Reference). p.1) pair in
    (ap (λ (p : Reference). p.0) pair, sym (names-front value) ∙ sym (names-end (trim_front value)) ∙ ap fallback_names found)
comma_read text value name fallback false is = absurd cc

fallback_read : (text : List ℕ) (tokens : List Token) (name : List ℕ) (fallback : Option (List Token)) → fallback_in text tokens ≡ Some (name, fallback) → ReadsFallback text tokens name fallback
fallback_read word [] name fallback is =
    let pair : ◌≡◌ {A = Reference} (word, None) (name, fallback) = cc in
    let none : None ≡ fallback = ap (λ (p : Reference). p.1) pair in
    (ap (λ (p : Reference). p.0) pair, ap fallback_names none)
fallback_read word (Ident text ∷ rest) name fallback is = absurd cc
fallback_read word (Function text ∷ rest) name fallback is = absurd cc
fallback_read word (At text ∷ rest) name fallback is = absurd cc
fallback_read word (Hash text id ∷ rest) name fallback is = absurd cc
fallback_read word (Str text ∷ rest) name fallback is = absurd cc
fallback_read word (BadStr ∷ rest) name fallback is = absurd cc
fallback_read word (Url text ∷ rest) name fallback is = absurd cc
fallback_read word (BadUrl ∷ rest) name fallback is = absurd cc
fallback_read word (Delim c ∷ rest) name fallback is = absurd cc
fallback_read word (Number text ∷ rest) name fallback is = absurd cc
fallback_read word (Percentage text ∷ rest) name fallback is = absurd cc
fallback_read word (Dimension number text ∷ rest) name fallback is = absurd cc
fallback_read word (White ∷ rest) name fallback is = absurd cc
fallback_read word (Cdo ∷ rest) name fallback is = absurd cc
fallback_read word (Cdc ∷ rest) name fallback is = absurd cc
fallback_read word (Colon ∷ rest) name fallback is = absurd cc
fallback_read word (Semicolon ∷ rest) name fallback is = absurd cc
fallback_read word (Comma ∷ rest) name fallback is = comma_read word rest name fallback (is_value rest) is
fallback_read word (Open bracket ∷ rest) name fallback is = absurd cc
fallback_read word (Close bracket ∷ rest) name fallback is = absurd cc

named_read : (text : List ℕ) (rest : List Token) (name : List ℕ) (fallback : Option (List Token)) (custom : Bool) → named_fallback_in (if custom then Some (text, trim_front rest) else None) ≡ Some (name, fallback) → Reads (Ident text ∷ rest) name fallback
named_read text rest name fallback true is =
    let (same, names) = fallback_read text (trim_front rest) name fallback is in
    record { name_is = ap (λ n. n ∷ []) same; names = sym (names-front rest) ∙ names }
named_read text rest name fallback false is = absurd cc

front_read : (tokens : List Token) (name : List ℕ) (fallback : Option (List Token)) → named_fallback_in (name_in tokens) ≡ Some (name, fallback) → Reads tokens name fallback
front_read [] name fallback is = absurd cc
front_read (Ident text ∷ rest) name fallback is = named_read text rest name fallback (is_custom text) is
front_read (Function text ∷ rest) name fallback is = absurd cc
front_read (At text ∷ rest) name fallback is = absurd cc
front_read (Hash text id ∷ rest) name fallback is = absurd cc
front_read (Str text ∷ rest) name fallback is = absurd cc
front_read (BadStr ∷ rest) name fallback is = absurd cc
front_read (Url text ∷ rest) name fallback is = absurd cc
front_read (BadUrl ∷ rest) name fallback is = absurd cc
front_read (Delim c ∷ rest) name fallback is = absurd cc
front_read (Number text ∷ rest) name fallback is = absurd cc
front_read (Percentage text ∷ rest) name fallback is = absurd cc
front_read (Dimension number text ∷ rest) name fallback is = absurd cc
front_read (White ∷ rest) name fallback is = absurd cc
front_read (Cdo ∷ rest) name fallback is = absurd cc
front_read (Cdc ∷ rest) name fallback is = absurd cc
front_read (Colon ∷ rest) name fallback is = absurd cc
front_read (Semicolon ∷ rest) name fallback is = absurd cc
front_read (Comma ∷ rest) name fallback is = absurd cc
front_read (Open bracket ∷ rest) name fallback is = absurd cc
front_read (Close bracket ∷ rest) name fallback is = absurd cc

inner_read : (inner : List Token) (name : List ℕ) (fallback : Option (List Token)) → reference_in inner ≡ Some (name, fallback) → Reads inner name fallback
unfolding reference_in
inner_read inner name fallback is =
    let read = front_read (trim_front inner) name fallback is in
    record { name_is = sym (name-front inner) ∙ read.name_is; names = sym (names-front inner) ∙ read.names }

-- what stands between the brackets of a function, and behind it
record Parts (rest inner behind : List Token) : Type 0 where
  pub name : name_behind rest ≡ name_behind inner
  pub names : names_behind rest ≡ names_behind inner ++ names_behind behind

block_end : (bracket : Bracket) (tokens : List Token) → IsBlock bracket tokens → (front : List Token) × (tokens ≡ front ++ Close bracket ∷ [])
block_end _ _ (balance.ends bracket) = ([], refl)
block_end _ _ (balance.plain bracket token rest none other is) = let (front, same) = block_end bracket rest is in (token ∷ front, ap (λ ts. token ∷ ts) same)
block_end _ _ (balance.block bracket kind token inner rest is inner_is rest_is) =
    let (front, same) = block_end bracket rest rest_is in
    (token ∷ inner ++ front, ap (λ ts. token ∷ inner ++ ts) same ∙ ap (λ ts. token ∷ ts) (sym (append_assoc inner front (Close bracket ∷ []))))

parts_at : (t : Token) (bracket : Bracket) (rest front : List Token) (n : ℕ) → n ≤ length rest → take n rest ≡ front ++ Close bracket ∷ [] → Parts rest (take ((0 + n) - 1) rest) (drop ((0 + n) + 1) (t ∷ rest))
parts_at t bracket rest front n le same =
    let whole : rest ≡ front ++ Close bracket ∷ drop n rest = sym (take-append-drop n rest) ∙ ap (λ ts. ts ++ drop n rest) same ∙ append_assoc front (Close bracket ∷ []) (drop n rest) in
    let size : n ≡ length front + 1 = sym (length-take-le n rest le) ∙ ap length same ∙ length-append front (Close bracket ∷ []) in
    let last : (0 + n) - 1 ≡ length front = omega arith in
    let past : (0 + n) + 1 ≡ suc n = omega arith in
    let inner : take ((0 + n) - 1) rest ≡ front = ap (λ k. take k rest) last ∙ ap (take (length front)) whole ∙ take-append_seam front (Close bracket ∷ drop n rest) in
    let behind : drop ((0 + n) + 1) (t ∷ rest) ≡ drop n rest = ap (λ k. drop k (t ∷ rest)) past in
    record {
      name = ap name_behind whole ∙ name-close front bracket (drop n rest) ∙ ap name_behind (sym inner);
      names = ap names_behind whole ∙ names-close front bracket (drop n rest) ∙ ap₂ (λ (a b : List Token). names_behind a ++ names_behind b) (sym inner) (sym behind);
    }

module _ (balanced : BlocksAreBalanced) where
  parts_by : (t : Token) (bracket : Bracket) (rest : List Token) (end : Option ℕ) → closing (bracket ∷ []) rest ≡ end → Parts rest (inner_to (t ∷ rest) (option_map (λ n. 0 + n) end)) (drop (size_to (t ∷ rest) (option_map (λ n. 0 + n) end)) (t ∷ rest))
  parts_by t bracket rest None is = record {
    name = refl;
    names = sym (append-nil (names_behind rest)) ∙ ap (λ ts. names_behind rest ++ names_behind ts) (sym (drop_all (length rest) rest (omega arith)));
  }
  parts_by t bracket rest (Some n) is =
      let (le, block_is) = balanced.is_block bracket rest n is in
      let (front, same) = block_end bracket (take n rest) block_is in
      parts_at t bracket rest front n le same

  parts_opened : (t : Token) (rest : List Token) (bracket : Bracket) → opened t ≡ Some bracket → Parts rest (inner_to (t ∷ rest) (matching (t ∷ rest) 0)) (drop (function_size (t ∷ rest)) (t ∷ rest))
  parts_opened t rest bracket is =
      subst (λ o. Parts rest (inner_to (t ∷ rest) (closing_of 0 o rest)) (drop (size_to (t ∷ rest) (closing_of 0 o rest)) (t ∷ rest))) (sym is) (parts_by t bracket rest (closing (bracket ∷ []) rest) refl)

  var_opens : (t : Token) → is_var t ≡ true → (bracket : Bracket) × (opened t ≡ Some bracket)
  var_opens (Function text) var = (_, refl)
  var_opens (Ident text) var = absurd cc
  var_opens (At text) var = absurd cc
  var_opens (Hash text id) var = absurd cc
  var_opens (Str text) var = absurd cc
  var_opens BadStr var = absurd cc
  var_opens (Url text) var = absurd cc
  var_opens BadUrl var = absurd cc
  var_opens (Delim c) var = absurd cc
  var_opens (Number text) var = absurd cc
  var_opens (Percentage text) var = absurd cc
  var_opens (Dimension number text) var = absurd cc
  var_opens White var = absurd cc
  var_opens Cdo var = absurd cc
  var_opens Cdc var = absurd cc
  var_opens Colon var = absurd cc
  var_opens Semicolon var = absurd cc
  var_opens Comma var = absurd cc
  var_opens (Open bracket) var = absurd cc
  var_opens (Close bracket) var = absurd cc

  found_at : (t : Token) (rest : List Token) (var : Bool) (found : Reference) → (if var then reference_in (inner_to (t ∷ rest) (matching (t ∷ rest) 0)) else None) ≡ Some found → (var ≡ true) × (reference_in (inner_to (t ∷ rest) (matching (t ∷ rest) 0)) ≡ Some found)
  found_at t rest true found is = (refl, is)
  found_at t rest false found is = absurd cc

  -- the first piece and what comes behind it
  first_names : (found : Option Reference) (t : Token) (pieces : List Token → Pieces (List ℕ) Token) (rest : List Token) → reference_at (t ∷ rest) ≡ found → IsGood (t ∷ rest) → FallbackIsGood found → FallbackWithin (length rest) found
      → ((tokens : List Token) → length tokens ≤ length rest → IsGood tokens → names_of (pieces tokens) ≡ names_behind tokens)
      → names_of (first_piece found t pieces rest (drop (function_size (t ∷ rest)) (t ∷ rest))) ≡ names_behind (t ∷ rest)
  first_names None t pieces rest is good fallback_good within later =
      let both = split t rest good in
      later rest (omega arith) both.1 ∙ ap (λ (var : Bool). if var then name_behind rest ++ names_behind rest else names_behind rest) (sym (no_var (is_var t) (reference_at (t ∷ rest)) both.0 is))
  first_names (Some (name, None)) t pieces rest is good fallback_good within later =
      let (var, inside) = found_at t rest (is_var t) (name, None) is in
      let read = inner_read (inner_to (t ∷ rest) (matching (t ∷ rest) 0)) name None inside in
      let opens = var_opens t var in
      let parts = parts_opened t rest opens.0 opens.1 in
      let behind = drop (function_size (t ∷ rest)) (t ∷ rest) in
      ap (λ names. name ∷ names) (later behind (length-behind t rest) (good_drop (function_size (t ∷ rest)) (t ∷ rest) good))
      ∙ ap₂ (λ (first names : List (List ℕ)). first ++ (names ++ names_behind behind)) (sym (parts.name ∙ read.name_is)) (sym read.names)
      ∙ ap (λ names. name_behind rest ++ names) (sym parts.names)
      ∙ ap (λ (v : Bool). if v then name_behind rest ++ names_behind rest else names_behind rest) (sym var)
  first_names (Some (name, Some fallback)) t pieces rest is good fallback_good within later =
      let (var, inside) = found_at t rest (is_var t) (name, Some fallback) is in
      let read = inner_read (inner_to (t ∷ rest) (matching (t ∷ rest) 0)) name (Some fallback) inside in
      let opens = var_opens t var in
      let parts = parts_opened t rest opens.0 opens.1 in
      let behind = drop (function_size (t ∷ rest)) (t ∷ rest) in
      ap₂ (λ (inner names : List (List ℕ)). name ∷ inner ++ names) (later fallback within fallback_good) (later behind (length-behind t rest) (good_drop (function_size (t ∷ rest)) (t ∷ rest) good))
      ∙ ap₂ (λ (first names : List (List ℕ)). first ++ (names ++ names_behind behind)) (sym (parts.name ∙ read.name_is)) (sym read.names)
      ∙ ap (λ names. name_behind rest ++ names) (sym parts.names)
      ∙ ap (λ (v : Bool). if v then name_behind rest ++ names_behind rest else names_behind rest) (sym var)

  names_within : (most : ℕ) (tokens : List Token) → length tokens ≤ most → IsGood tokens → names_of (pieces_within most tokens) ≡ names_behind tokens
  names_within zero [] fits good = refl
  names_within zero (t ∷ rest) fits good = absurd (omega arith)
  names_within (suc most) [] fits good = refl
  names_within (suc most) (t ∷ rest) fits good =
      let both = split t rest good in
      first_names (reference_at (t ∷ rest)) t (pieces_within most) rest refl good (reference_at-good balanced t rest both.1) (reference_at-within t rest) (λ more short more_good. names_within most more (omega arith) more_good)

  names_found : (tokens : List Token) → IsChecked tokens → names_of (pieces_of tokens) ≡ names_behind tokens
  unfolding pieces_of
  names_found tokens checked = names_within (length tokens) tokens (omega arith) checked.references

-- a name is among those behind a `var(` exactly where it stands behind one

not_in_none : {X : Type 0} (x : X) → Contains [] x → ⊥
not_in_none x (k, within, is) = omega arith

only_name : (tokens : List Token) (name : List ℕ) → Contains (name_behind tokens) name → name_behind tokens ≡ name ∷ []
only_name [] name h = absurd (not_in_none name h)
only_name (White ∷ rest) name h = only_name rest name h
only_name (Ident text ∷ rest) name h = elim (Contains-push_cases [] text name h) [ inl none ↦ absurd (not_in_none name none) | inr same ↦ ap (λ n. n ∷ []) same ]
only_name (Function text ∷ rest) name h = absurd (not_in_none name h)
only_name (At text ∷ rest) name h = absurd (not_in_none name h)
only_name (Hash text id ∷ rest) name h = absurd (not_in_none name h)
only_name (Str text ∷ rest) name h = absurd (not_in_none name h)
only_name (BadStr ∷ rest) name h = absurd (not_in_none name h)
only_name (Url text ∷ rest) name h = absurd (not_in_none name h)
only_name (BadUrl ∷ rest) name h = absurd (not_in_none name h)
only_name (Delim c ∷ rest) name h = absurd (not_in_none name h)
only_name (Number text ∷ rest) name h = absurd (not_in_none name h)
only_name (Percentage text ∷ rest) name h = absurd (not_in_none name h)
only_name (Dimension number text ∷ rest) name h = absurd (not_in_none name h)
only_name (Cdo ∷ rest) name h = absurd (not_in_none name h)
only_name (Cdc ∷ rest) name h = absurd (not_in_none name h)
only_name (Colon ∷ rest) name h = absurd (not_in_none name h)
only_name (Semicolon ∷ rest) name h = absurd (not_in_none name h)
only_name (Comma ∷ rest) name h = absurd (not_in_none name h)
only_name (Open bracket ∷ rest) name h = absurd (not_in_none name h)
only_name (Close bracket ∷ rest) name h = absurd (not_in_none name h)

later_stands : (t : Token) (rest : List Token) (name : List ℕ) → StandsInVar rest name → StandsInVar (t ∷ rest) name
later_stands t rest name stands = record { front = t ∷ stands.front; token = stands.token; rest = stands.rest; at = ap (λ ts. t ∷ ts) stands.at; var = stands.var; named = stands.named }

first_stands : (t : Token) (rest : List Token) (name : List ℕ) → is_var t ≡ true → Contains (name_behind rest) name → StandsInVar (t ∷ rest) name
first_stands t rest name var h = record { front = []; token = t; rest = rest; at = refl; var = var; named = only_name rest name h }

stands_by : (t : Token) (rest : List Token) (name : List ℕ) (var : Bool) → is_var t ≡ var → (Contains (names_behind rest) name → StandsInVar rest name) → Contains (if var then name_behind rest ++ names_behind rest else names_behind rest) name → StandsInVar (t ∷ rest) name
stands_by t rest name true var later h =
    elim (Contains-append_cases (name_behind rest) (names_behind rest) name h) [ inl first ↦ first_stands t rest name var first | inr more ↦ later_stands t rest name (later more) ]
stands_by t rest name false var later h = later_stands t rest name (later h)

stands_where : (tokens : List Token) (name : List ℕ) → Contains (names_behind tokens) name → StandsInVar tokens name
stands_where [] name h = absurd (not_in_none name h)
stands_where (t ∷ rest) name h = stands_by t rest name (is_var t) refl (λ more. stands_where rest name more) h

contains_later : (var : Bool) (first names : List (List ℕ)) (name : List ℕ) → Contains names name → Contains (if var then first ++ names else names) name
contains_later true first names name h = Contains-append_right first names name h
contains_later false first names name h = h

contained_at : (front : List Token) (token : Token) (rest : List Token) (name : List ℕ) → is_var token ≡ true → name_behind rest ≡ name ∷ [] → Contains (names_behind (front ++ token ∷ rest)) name
contained_at [] token rest name var named =
    let one : Contains (name_behind rest) name = subst (λ names. Contains names name) (sym named) (0, omega arith, refl) in
    subst (λ (v : Bool). Contains (if v then name_behind rest ++ names_behind rest else names_behind rest) name) (sym var) (Contains-append_left (name_behind rest) (names_behind rest) name one)
contained_at (t ∷ front) token rest name var named =
    contains_later (is_var t) (name_behind (front ++ token ∷ rest)) (names_behind (front ++ token ∷ rest)) name (contained_at front token rest name var named)

pub references_found : BlocksAreBalanced → (tokens : List Token) → IsChecked tokens → ReferencesAreFound tokens
references_found balanced tokens checked =
    let names = names_found balanced tokens checked in
    record {
      refers = λ name. (
        λ h. stands_where tokens name (subst (λ all. Contains all name) names (is_named (pieces_of tokens) name h)),
        λ stands. refers (pieces_of tokens) name (subst (λ all. Contains all name) (sym names) (subst (λ ts. Contains (names_behind ts) name) (sym stands.at) (contained_at stands.front stands.token stands.rest name stands.var stands.named))),
      );
      names = names;
    }
