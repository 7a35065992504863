-- What the winning declarations are once one more is kept.
use Rattle.std.proofs.Common.{◌≡◌, Bool, true, false, cond, not, ◌&&◌, ◌||◌, List, [], ◌∷◌, ◌++◌, filter, filter_map, Option, Some, None, is_some, refl, sym, ap, ◌∙◌, subst, append-nil, true≢false}
use Rattle.std.specs.Prelude.{option_map, if◌then◌else◌}
use Rattle.std.specs.List.{list_any, cons_option}
use Rattle.std.specs.Map.{keys_of, lookup}
use Rattle.std.proofs.lemmas.List.Elements.{filter-append, filter_map-append}
use Rattle.indexmap.specs.IndexMap.{insert_entry}
use Rattle.cv_props.specs.declared.decls.Decl.{Decl}
use Rattle.cv_valuation.specs.declared.key.Key.{Key}
use Rattle.cv_valuation.specs.Keys.{same_key}
use Rattle.cv_valuation.specs.KeyLaws.{same_key_equiv}
use Rattle.cv_props.specs.Winners.{Declarations, declaration_of, is_of, is_important_of, first_or, last_such, winner, keys_kept, winners}
use Rattle.cv_props.specs.WinnerLaws.{WinnersAreByKey}
use Rattle.cv_props.specs.Declaring.{is_important, with_declaration}
use Rattle.cv_valuation.proofs.KeyOrder.{equal_keys}

same_itself : (key : Key) → same_key key key ≡ true
same_itself key = same_key_equiv.refl key

turned : (a b : Key) → same_key a b ≡ same_key b a
turned a b = same_key_equiv.symm a b

first_or-None : (found : Option Decl) → first_or found None ≡ found
first_or-None None = refl
first_or-None (Some found) = refl

last_such-push : (test : Key × Decl → Bool) (es : Declarations) (e : Key × Decl) → last_such test (es ++ e ∷ []) ≡ (if test e then Some e.1 else last_such test es)
last_such-push test [] e = refl
last_such-push test (x ∷ es) e = by (last_such-push test es e) (test e) refl
  where
    by : last_such test (es ++ e ∷ []) ≡ (if test e then Some e.1 else last_such test es) → (b : Bool) → test e ≡ b → first_or (last_such test (es ++ e ∷ [])) (if test x then Some x.1 else None) ≡ (if b then Some e.1 else last_such test (x ∷ es))
    by rest b is =
        ap (λ found. first_or found (if test x then Some x.1 else None)) (rest ∙ ap (λ t. if t then Some e.1 else last_such test es) is)
        ∙ cases b
      where
        cases : (b : Bool) → first_or (if b then Some e.1 else last_such test es) (if test x then Some x.1 else None) ≡ (if b then Some e.1 else last_such test (x ∷ es))
        cases true = refl
        cases false = refl

module _ (es : Declarations) (key : Key) (d : Decl) where
  -- another key keeps its winner
  pub winner-other : (other : Key) → same_key other key ≡ false → winner (es ++ (key, d) ∷ []) other ≡ winner es other
  unfolding winner
  winner-other other apart =
      let important = last_such-push (is_important_of other) es (key, d) ∙ ap (λ b. if b && d.important then Some d else last_such (is_important_of other) es) apart in
      let any = last_such-push (is_of other) es (key, d) ∙ ap (λ b. if b then Some d else last_such (is_of other) es) apart in
      ap (λ found. first_or found (last_such (is_of other) (es ++ (key, d) ∷ []))) important ∙ ap (first_or (last_such (is_important_of other) es)) any

-- the last important declaration is important
is_important-last : (key : Key) (es : Declarations) (x : Decl) → last_such (is_important_of key) es ≡ Some x → x.important ≡ true
is_important-last key [] x found = cc
is_important-last key (e ∷ es) x found = by (last_such (is_important_of key) es) refl (is_important_of key e) refl (is_important-last key es x) found
  where
    by : (rest : Option Decl) → last_such (is_important_of key) es ≡ rest → (b : Bool) → is_important_of key e ≡ b → (last_such (is_important_of key) es ≡ Some x → x.important ≡ true) → first_or rest (if b then Some e.1 else None) ≡ Some x → x.important ≡ true
    by (Some y) is b test more found = more (is ∙ found)
    by None is true test more found = let same : e.1 ≡ x = cc in subst (λ y. y.important ≡ true) same (second (same_key key e.0) e.1.important test)
      where
        second : (a b : Bool) → (a && b) ≡ true → b ≡ true
        second true b holds = holds
        second false b holds = cc
    by None is false test more found = cc

-- where no important declaration stands, the last isn't important
no_important-last : (key : Key) (es : Declarations) → last_such (is_important_of key) es ≡ None → is_important (last_such (is_of key) es) ≡ false
no_important-last key [] none = refl
no_important-last key (e ∷ es) none = by (last_such (is_important_of key) es) refl (same_key key e.0) refl e.1.important refl none (no_important-last key es)
  where
    by : (rest : Option Decl) → last_such (is_important_of key) es ≡ rest → (b : Bool) → same_key key e.0 ≡ b → (i : Bool) → e.1.important ≡ i → first_or rest (if b && i then Some e.1 else None) ≡ None → (last_such (is_important_of key) es ≡ None → is_important (last_such (is_of key) es) ≡ false)
        → is_important (first_or (last_such (is_of key) es) (if b then Some e.1 else None)) ≡ false
    by (Some y) is b test i imp none more = cc
    by None is false test i imp none more = ap is_important (first_or-None (last_such (is_of key) es)) ∙ more is
    by None is true test true imp none more = cc
    by None is true test false imp none more = here (last_such (is_of key) es) (more is)
      where
        here : (found : Option Decl) → is_important found ≡ false → is_important (first_or found (Some e.1)) ≡ false
        here None isnt = imp
        here (Some y) isnt = isnt

module _ (es : Declarations) (key : Key) (d : Decl) where
  -- the winner of the key of the new declaration
  pub winner-same : winner (es ++ (key, d) ∷ []) key ≡ (if not d.important && is_important (winner es key) then winner es key else Some d)
  unfolding winner
  winner-same =
      let important = last_such-push (is_important_of key) es (key, d) ∙ ap (λ b. if b && d.important then Some d else last_such (is_important_of key) es) (same_itself key) in
      let any = last_such-push (is_of key) es (key, d) ∙ ap (λ b. if b then Some d else last_such (is_of key) es) (same_itself key) in
      ap (λ found. first_or found (last_such (is_of key) (es ++ (key, d) ∷ []))) important
      ∙ ap (first_or (if d.important then Some d else last_such (is_important_of key) es)) any
      ∙ by d.important (last_such (is_important_of key) es) refl
    where
      by : (i : Bool) (found : Option Decl) → last_such (is_important_of key) es ≡ found
          → first_or (if i then Some d else found) (Some d) ≡ (if not i && is_important (first_or found (last_such (is_of key) es)) then first_or found (last_such (is_of key) es) else Some d)
      by true found is = refl
      by false (Some x) is = sym (ap (λ b. if b then Some x else Some d) (is_important-last key es x is))
      by false None is = sym (ap (λ b. if b then last_such (is_of key) es else Some d) (no_important-last key es is))

-- the key stands among the keys
abbrev stands : Key → List Key → Bool
stands key keys = list_any (same_key key) keys

abbrev others : Key → List Key → List Key
others key keys = filter (λ other. not (same_key key other)) keys

-- a key stays among the others of another one
stands-others : (key from : Key) (keys : List Key) → same_key key from ≡ false → stands key (others from keys) ≡ stands key keys
stands-others key from [] apart = refl
stands-others key from (k ∷ ks) apart = by (stands-others key from ks apart) (same_key from k) refl
  where
    by : stands key (others from ks) ≡ stands key ks → (b : Bool) → same_key from k ≡ b → stands key (cond (not b) (k ∷ others from ks) (others from ks)) ≡ (same_key key k || stands key ks)
    by rest false is = ap (λ t. same_key key k || t) rest
    by rest true is = rest ∙ ap (λ t. t || stands key ks) (sym (ap (λ k. same_key key k) (sym (equal_keys from k is)) ∙ apart))

-- and a key doesn't stand among its own others
none_of_others : (key : Key) (keys : List Key) → stands key (others key keys) ≡ false
none_of_others key [] = refl
none_of_others key (k ∷ ks) = by (none_of_others key ks) (same_key key k) refl
  where
    by : stands key (others key ks) ≡ false → (b : Bool) → same_key key k ≡ b → stands key (cond (not b) (k ∷ others key ks) (others key ks)) ≡ false
    by rest true is = rest
    by rest false is = ap (λ t. t || stands key (others key ks)) is ∙ rest

-- the keys that are kept once one more declaration is
keys_kept-push : (es : Declarations) (key : Key) (d : Decl) → keys_kept (es ++ (key, d) ∷ []) ≡ (if stands key (keys_kept es) then keys_kept es else keys_kept es ++ key ∷ [])
keys_kept-push [] key d = refl
keys_kept-push (e ∷ es) key d = by (keys_kept-push es key d) (same_key key e.0) refl
  where
    keys : List Key
    keys = keys_kept es

    by : keys_kept (es ++ (key, d) ∷ []) ≡ (if stands key (keys_kept es) then keys_kept es else keys_kept es ++ key ∷ []) → (b : Bool) → same_key key e.0 ≡ b
        → e.0 ∷ others e.0 (keys_kept (es ++ (key, d) ∷ [])) ≡ (if b || stands key (others e.0 (keys_kept es)) then e.0 ∷ others e.0 (keys_kept es) else (e.0 ∷ others e.0 (keys_kept es)) ++ key ∷ [])
    by rest true is = ap (λ ks. e.0 ∷ others e.0 ks) rest ∙ here (stands key (keys_kept es))
      where
        here : (t : Bool) → e.0 ∷ others e.0 (if t then keys_kept es else keys_kept es ++ key ∷ []) ≡ e.0 ∷ others e.0 (keys_kept es)
        here true = refl
        here false =
            ap (λ ks. e.0 ∷ ks) (filter-append (λ other. not (same_key e.0 other)) (keys_kept es) (key ∷ [])
            ∙ ap (λ t. others e.0 (keys_kept es) ++ cond (not t) (key ∷ []) []) (turned e.0 key ∙ is)
            ∙ append-nil (others e.0 (keys_kept es)))
    by rest false is =
        ap (λ ks. e.0 ∷ others e.0 ks) rest
        ∙ here (stands key (keys_kept es))
        ∙ ap (λ t. if t then e.0 ∷ others e.0 (keys_kept es) else (e.0 ∷ others e.0 (keys_kept es)) ++ key ∷ []) (sym (stands-others key e.0 (keys_kept es) is))
      where
        here : (t : Bool) → e.0 ∷ others e.0 (if t then keys_kept es else keys_kept es ++ key ∷ []) ≡ (if t then e.0 ∷ others e.0 (keys_kept es) else (e.0 ∷ others e.0 (keys_kept es)) ++ key ∷ [])
        here true = refl
        here false =
            ap (λ ks. e.0 ∷ ks) (filter-append (λ other. not (same_key e.0 other)) (keys_kept es) (key ∷ [])
            ∙ ap (λ t. others e.0 (keys_kept es) ++ cond (not t) (key ∷ []) []) (turned e.0 key ∙ is))

-- a key has a declaration exactly where it stands among the keys
stands-last : (key : Key) (es : Declarations) → stands key (keys_kept es) ≡ is_some (last_such (is_of key) es)
stands-last key [] = refl
stands-last key (e ∷ es) = by (stands-last key es) (same_key key e.0) refl
  where
    by : stands key (keys_kept es) ≡ is_some (last_such (is_of key) es) → (b : Bool) → same_key key e.0 ≡ b → (b || stands key (others e.0 (keys_kept es))) ≡ is_some (first_or (last_such (is_of key) es) (if b then Some e.1 else None))
    by rest true is = here (last_such (is_of key) es)
      where
        here : (found : Option Decl) → true ≡ is_some (first_or found (Some e.1))
        here None = refl
        here (Some found) = refl
    by rest false is = stands-others key e.0 (keys_kept es) is ∙ rest ∙ ap is_some (sym (first_or-None (last_such (is_of key) es)))

-- an important declaration of a key is one of that key
some_last : (key : Key) (es : Declarations) → is_some (last_such (is_important_of key) es) ≡ true → is_some (last_such (is_of key) es) ≡ true
some_last key [] found = found
some_last key (e ∷ es) found = by (last_such (is_important_of key) es) (last_such (is_of key) es) (same_key key e.0) (some_last key es) found
  where
    by : (a b : Option Decl) (t : Bool) → (is_some a ≡ true → is_some b ≡ true) → is_some (first_or a (if t && e.1.important then Some e.1 else None)) ≡ true → is_some (first_or b (if t then Some e.1 else None)) ≡ true
    by (Some x) (Some y) t more found = refl
    by (Some x) None t more found = absurd (true≢false (sym (more refl)))
    by None (Some y) t more found = refl
    by None None true more found = refl
    by None None false more found = found

-- a key has a winner exactly where it stands among the keys
pub stands-winner : (es : Declarations) (key : Key) → stands key (keys_kept es) ≡ is_some (winner es key)
unfolding winner
stands-winner es key =
    stands-last key es
    ∙ by (last_such (is_important_of key) es) (some_last key es)
  where
    by : (found : Option Decl) → (is_some found ≡ true → is_some (last_such (is_of key) es) ≡ true) → is_some (last_such (is_of key) es) ≡ is_some (first_or found (last_such (is_of key) es))
    by None more = refl
    by (Some found) more = more refl

-- keys of which no two are the same
abbrev AreApart : List Key → Type 0
AreApart [] = Unit {0}
AreApart (k ∷ ks) = (stands k ks ≡ false) × AreApart ks

-- a key that doesn't stand among some doesn't stand among fewer
stands_fewer : (key from : Key) (keys : List Key) → stands key keys ≡ false → stands key (others from keys) ≡ false
stands_fewer key from [] none = refl
stands_fewer key from (k ∷ ks) none = by (same_key from k) (same_key key k) refl none (stands_fewer key from ks)
  where
    by : (b t : Bool) → same_key key k ≡ t → (t || stands key ks) ≡ false → (stands key ks ≡ false → stands key (others from ks) ≡ false) → stands key (cond (not b) (k ∷ others from ks) (others from ks)) ≡ false
    by b true is none more = cc
    by true false is none more = more none
    by false false is none more = ap (λ t. t || stands key (others from ks)) is ∙ more none

apart-others : (from : Key) (keys : List Key) → AreApart keys → AreApart (others from keys)
apart-others from [] apart = tt
apart-others from (k ∷ ks) apart = by (apart-others from ks apart.1) (same_key from k)
  where
    by : AreApart (others from ks) → (b : Bool) → AreApart (cond (not b) (k ∷ others from ks) (others from ks))
    by rest true = rest
    by rest false = (stands_fewer k from ks apart.0, rest)

apart-keys_kept : (es : Declarations) → AreApart (keys_kept es)
apart-keys_kept [] = tt
apart-keys_kept (e ∷ es) = (none_of_others e.0 (keys_kept es), apart-others e.0 (keys_kept es) (apart-keys_kept es))

-- the keys that have a declaration, each with it
abbrev declared_keys : (Key → Option Decl) → List Key → Declarations
declared_keys f keys = filter_map (λ key. option_map (λ d. (key, d)) (f key)) keys

-- where the keys have the same declarations, so does the list
same_keys : (f h : Key → Option Decl) (keys : List Key) (apart : Key) → ((q : Key) → same_key q apart ≡ false → h q ≡ f q) → stands apart keys ≡ false → declared_keys h keys ≡ declared_keys f keys
same_keys f h [] apart alike none = refl
same_keys f h (k ∷ ks) apart alike none = by (same_keys f h ks apart alike) (same_key apart k) refl none
  where
    by : (stands apart ks ≡ false → declared_keys h ks ≡ declared_keys f ks) → (t : Bool) → same_key apart k ≡ t → (t || stands apart ks) ≡ false → declared_keys h (k ∷ ks) ≡ declared_keys f (k ∷ ks)
    by more true is none = cc
    by more false is none =
        ap (λ o. cons_option (option_map (λ d. (k, d)) o) (declared_keys h ks)) (alike k (turned k apart ∙ is))
        ∙ ap (cons_option (option_map (λ d. (k, d)) (f k))) (more none)

same_at : (f h : Key → Option Decl) (keys : List Key) → ((q : Key) → h q ≡ f q) → declared_keys h keys ≡ declared_keys f keys
same_at f h [] alike = refl
same_at f h (k ∷ ks) alike =
    ap (λ o. cons_option (option_map (λ d. (k, d)) o) (declared_keys h ks)) (alike k) ∙ ap (cons_option (option_map (λ d. (k, d)) (f k))) (same_at f h ks alike)

module _ (f : Key → Option Decl) (key : Key) where
  -- what stands in the list at a key
  found_among : (keys : List Key) → lookup (same_key key) (declared_keys f keys) ≡ (if stands key keys then f key else None)
  found_among [] = refl
  found_among (k ∷ ks) = by (same_key key k) refl (f k) refl (found_among ks)
    where
      by : (t : Bool) → same_key key k ≡ t → (o : Option Decl) → f k ≡ o → lookup (same_key key) (declared_keys f ks) ≡ (if stands key ks then f key else None)
          → lookup (same_key key) (cons_option (option_map (λ d. (k, d)) o) (declared_keys f ks)) ≡ (if t || stands key ks then f key else None)
      by true is None at rest =
          rest ∙ none (stands key ks)
        where
          same : f key ≡ None
          same = ap f (equal_keys key k is) ∙ at

          none : (b : Bool) → (if b then f key else None) ≡ f key
          none true = refl
          none false = sym same
      by true is (Some d) at rest = ap (λ t. cond t (Some d) (lookup (same_key key) (declared_keys f ks))) is ∙ sym (ap f (equal_keys key k is) ∙ at)
      by false is None at rest = rest
      by false is (Some d) at rest = ap (λ t. cond t (Some d) (lookup (same_key key) (declared_keys f ks))) is ∙ rest

  -- a new key goes last
  put_last : (d : Decl) (keys : List Key) → stands key keys ≡ false → insert_entry same_key (declared_keys f keys) key d ≡ declared_keys f keys ++ (key, d) ∷ []
  put_last d [] none = refl
  put_last d (k ∷ ks) none = by (same_key key k) refl none (f k) (put_last d ks)
    where
      by : (t : Bool) → same_key key k ≡ t → (t || stands key ks) ≡ false → (o : Option Decl) → (stands key ks ≡ false → insert_entry same_key (declared_keys f ks) key d ≡ declared_keys f ks ++ (key, d) ∷ [])
          → insert_entry same_key (cons_option (option_map (λ d. (k, d)) o) (declared_keys f ks)) key d ≡ cons_option (option_map (λ d. (k, d)) o) (declared_keys f ks) ++ (key, d) ∷ []
      by true is none o more = cc
      by false is none None more = more none
      by false is none (Some w) more = ap (λ t. cond t ((k, d) ∷ declared_keys f ks) ((k, w) ∷ insert_entry same_key (declared_keys f ks) key d)) is ∙ ap (λ l. (k, w) ∷ l) (more none)

  -- a key that stands in the list takes the declaration in its place
  put_there : (h : Key → Option Decl) (d : Decl) → ((q : Key) → same_key q key ≡ false → h q ≡ f q) → h key ≡ Some d → is_some (f key) ≡ true
      → (keys : List Key) → AreApart keys → stands key keys ≡ true → declared_keys h keys ≡ insert_entry same_key (declared_keys f keys) key d
  put_there h d alike new there [] apart stands_so = absurd (true≢false (sym stands_so))
  put_there h d alike new there (k ∷ ks) apart stands_so = by (same_key key k) refl stands_so (put_there h d alike new there ks apart.1)
    where
      by : (t : Bool) → same_key key k ≡ t → (t || stands key ks) ≡ true → (stands key ks ≡ true → declared_keys h ks ≡ insert_entry same_key (declared_keys f ks) key d)
          → declared_keys h (k ∷ ks) ≡ insert_entry same_key (declared_keys f (k ∷ ks)) key d
      by true is holds more = here (f k) refl
        where
          same : key ≡ k
          same = equal_keys key k is

          rest : declared_keys h ks ≡ declared_keys f ks
          rest = same_keys f h ks key alike (subst (λ q. stands q ks ≡ false) (sym same) apart.0)

          here : (o : Option Decl) → f k ≡ o → declared_keys h (k ∷ ks) ≡ insert_entry same_key (cons_option (option_map (λ d. (k, d)) o) (declared_keys f ks)) key d
          here None at = absurd (true≢false (sym there ∙ ap is_some (ap f same ∙ at)))
          here (Some w) at =
              ap (λ o. cons_option (option_map (λ d. (k, d)) o) (declared_keys h ks)) (ap h (sym same) ∙ new)
              ∙ ap (λ l. (k, d) ∷ l) rest
              ∙ sym (ap (λ t. cond t ((k, d) ∷ declared_keys f ks) ((k, w) ∷ insert_entry same_key (declared_keys f ks) key d)) is)
      by false is holds more =
          ap (λ o. cons_option (option_map (λ d. (k, d)) o) (declared_keys h ks)) (alike k (turned k key ∙ is))
          ∙ ap (cons_option (option_map (λ d. (k, d)) (f k))) (more holds)
          ∙ here (f k)
        where
          here : (o : Option Decl) → cons_option (option_map (λ d. (k, d)) o) (insert_entry same_key (declared_keys f ks) key d) ≡ insert_entry same_key (cons_option (option_map (λ d. (k, d)) o) (declared_keys f ks)) key d
          here None = refl
          here (Some w) = sym (ap (λ t. cond t ((k, d) ∷ declared_keys f ks) ((k, w) ∷ insert_entry same_key (declared_keys f ks) key d)) is)

-- To keep one more declaration is to put it, unless an important one stands there and it isn't important.
pub winners-push : (es : Declarations) (key : Key) (d : Decl) → winners (es ++ (key, d) ∷ []) ≡ with_declaration (winners es) key d
unfolding winners
winners-push es key d =
    ap (declared_keys h) (keys_kept-push es key d)
    ∙ by (stands key keys) refl
    ∙ ap (λ o. if not d.important && is_important o then declared_keys f keys else insert_entry same_key (declared_keys f keys) key d) (sym (found_among f key keys))
  where
    keys : List Key
    keys = keys_kept es

    f : Key → Option Decl
    f = winner es

    h : Key → Option Decl
    h = winner (es ++ (key, d) ∷ [])

    by : (t : Bool) → stands key (keys_kept es) ≡ t
        → declared_keys (winner (es ++ (key, d) ∷ [])) (if t then keys_kept es else keys_kept es ++ key ∷ [])
        ≡ (if not d.important && is_important (if t then winner es key else None) then declared_keys (winner es) (keys_kept es) else insert_entry same_key (declared_keys (winner es) (keys_kept es)) key d)
    by true is = kept (not d.important && is_important (winner es key)) (winner-same es key d)
      where
        kept : (c : Bool) → winner (es ++ (key, d) ∷ []) key ≡ (if c then winner es key else Some d)
            → declared_keys (winner (es ++ (key, d) ∷ [])) (keys_kept es) ≡ (if c then declared_keys (winner es) (keys_kept es) else insert_entry same_key (declared_keys (winner es) (keys_kept es)) key d)
        kept true same = same_at (winner es) (winner (es ++ (key, d) ∷ [])) (keys_kept es) (λ q. at q (same_key q key) refl)
          where
            at : (q : Key) (b : Bool) → same_key q key ≡ b → winner (es ++ (key, d) ∷ []) q ≡ winner es q
            at q true is = let e : q ≡ key = equal_keys q key is in subst (λ k. winner (es ++ (key, d) ∷ []) k ≡ winner es k) (sym e) same
            at q false is = winner-other es key d q is
        kept false new =
            put_there (winner es) key (winner (es ++ (key, d) ∷ [])) d (winner-other es key d) new (sym (stands-winner es key) ∙ is) (keys_kept es) (apart-keys_kept es) is
    by false is =
        filter_map-append (λ k. option_map (λ w. (k, w)) (winner (es ++ (key, d) ∷ []) k)) (keys_kept es) (key ∷ [])
        ∙ ap (λ l. l ++ declared_keys (winner (es ++ (key, d) ∷ [])) (key ∷ [])) (same_keys (winner es) (winner (es ++ (key, d) ∷ [])) (keys_kept es) key (winner-other es key d) is)
        ∙ ap (λ o. declared_keys (winner es) (keys_kept es) ++ cons_option (option_map (λ w. (key, w)) o) []) (new (winner es key) (sym (stands-winner es key) ∙ is) (winner-same es key d))
        ∙ sym (put_last (winner es) key d (keys_kept es) is)
        ∙ no_important d.important
      where
        new : (o : Option Decl) → is_some o ≡ false → winner (es ++ (key, d) ∷ []) key ≡ (if not d.important && is_important o then o else Some d) → winner (es ++ (key, d) ∷ []) key ≡ Some d
        new None none same = same ∙ cases d.important
          where
            cases : (b : Bool) → (if not b && false then None else Some d) ≡ Some d
            cases true = refl
            cases false = refl
        new (Some x) none same = cc

        no_important : (b : Bool) → insert_entry same_key (declared_keys (winner es) (keys_kept es)) key d ≡ (if not b && false then declared_keys (winner es) (keys_kept es) else insert_entry same_key (declared_keys (winner es) (keys_kept es)) key d)
        no_important true = refl
        no_important false = refl

-- where each of the keys has a declaration, the list has these keys
keys_of-declared_keys : (f : Key → Option Decl) (keys : List Key) → ((q : Key) → stands q keys ≡ true → is_some (f q) ≡ true) → keys_of (declared_keys f keys) ≡ keys
keys_of-declared_keys f [] some = refl
keys_of-declared_keys f (k ∷ ks) some =
    by (f k) (some k (ap (λ t. t || stands k ks) (same_itself k))) (keys_of-declared_keys f ks (λ q there. some q (or_true (same_key q k) (stands q ks) there)))
  where
    or_true : (a b : Bool) → b ≡ true → (a || b) ≡ true
    or_true true b holds = refl
    or_true false b holds = holds

    by : (o : Option Decl) → is_some o ≡ true → keys_of (declared_keys f ks) ≡ ks → keys_of (cons_option (option_map (λ d. (k, d)) o) (declared_keys f ks)) ≡ k ∷ ks
    by None there rest = cc
    by (Some d) there rest = ap (λ l. k ∷ l) rest

keys_of-winners : (es : Declarations) → keys_of (winners es) ≡ keys_kept es
unfolding winners
keys_of-winners es = keys_of-declared_keys (winner es) (keys_kept es) (λ q there. sym (stands-winner es q) ∙ there)

declaration_of-winners : (es : Declarations) (key : Key) → declaration_of (winners es) key ≡ winner es key
unfolding winners
declaration_of-winners es key =
    found_among (winner es) key (keys_kept es) ∙ ap (λ t. if t then winner es key else None) (stands-winner es key) ∙ by (winner es key)
  where
    by : (o : Option Decl) → (if is_some o then o else None) ≡ o
    by None = refl
    by (Some d) = refl

pub winners_are_by_key : WinnersAreByKey
winners_are_by_key = record { order = keys_of-winners; declaration = declaration_of-winners }
