-- Names and keys that are added one after another.
use Rattle.std.proofs.Common.{◌≡◌, ℕ, ◌+◌, List, [], ◌∷◌, ◌++◌, length, take, sym, ap, ◌∙◌, true}
use Rattle.std.specs.Prelude.{Some, bytes_eq, filter}
use Rattle.std.specs.List.{filter_map, slice_get}
use Rattle.std.specs.Map.{keys_of}
use Rattle.std.proofs.lemmas.List.{take_more, map-append}
use Rattle.std.proofs.lemmas.List.Sums.{fold-append}
use Rattle.std.proofs.lemmas.List.Elements.{All-head, All-tail, filter-append, filter_map-append}
use Rattle.std.proofs.lemmas.Option.{get_or_from_slice_get, slice_get_within}
use Rattle.indexmap.specs.IndexSet.{insert_all, insert_key}
use Rattle.cv_spec_text.specs.Keywords.{is_custom}
use Rattle.cv_doc.specs.declared.command.Command.{Command}
use Rattle.cv_doc.specs.Members.{is_name}
use Rattle.cv_props.specs.declared.decls.Decl.{Decl}
use Rattle.cv_valuation.specs.declared.key.Key.{Key}
use Rattle.cv_valuation.specs.Keys.{key_named, same_key}
use Rattle.cv_props.specs.declared.entry.Entry.{Entry}
use Rattle.cv_props.specs.Registered.{Registered}
use Rattle.cv_props.specs.Winners.{Declarations}
use Rattle.cv_tree.specs.Names.{AreNames, keys_in, name_of_command, name_of_key, named_keys, with_names}

-- one more item of a list
pub take_next : {X : Type 0} (xs : List X) (i : ℕ) (x : X) → slice_get xs i ≡ Some x → take (i + 1) xs ≡ take i xs ++ x ∷ []
take_next xs i x is = take_more xs i x (slice_get_within xs i x is) ∙ ap (λ y. take i xs ++ y ∷ []) (get_or_from_slice_get xs i x x is)

-- the keys of one more declaration
pub keys_next : (ds : Declarations) (i : ℕ) (k : Key) (d : Decl) → slice_get ds i ≡ Some (k, d) → keys_of (take (i + 1) ds) ≡ keys_of (take i ds) ++ k ∷ []
keys_next ds i k d is = ap keys_of (take_next ds i (k, d) is) ∙ map-append (λ e. e.0) (take i ds) ((k, d) ∷ [])

-- a key that is inserted behind others
pub seen_key : (keys : List Key) (ds : Declarations) (i : ℕ) (k : Key) (d : Decl) → slice_get ds i ≡ Some (k, d)
    → insert_all same_key keys (keys_of (take (i + 1) ds)) ≡ insert_key same_key (insert_all same_key keys (keys_of (take i ds))) k
seen_key keys ds i k d is =
    ap (insert_all same_key keys) (keys_next ds i k d is) ∙ fold-append (insert_key same_key) keys (keys_of (take i ds)) (k ∷ [])

-- the keys of declarations that are inserted behind others
pub seen_next : (keys : List Key) (ds : Declarations) (all : List Declarations)
    → insert_all same_key (insert_all same_key keys (keys_of ds)) (keys_in all) ≡ insert_all same_key keys (keys_in (ds ∷ all))
seen_next keys ds all = sym (fold-append (insert_key same_key) keys (keys_of ds) (keys_in all))

-- the properties of one more name
pub named_next : (name : List ℕ) (names : List (List ℕ)) → named_keys (name ∷ names) ≡ named_keys (name ∷ []) ++ named_keys names
named_next name names = filter_map-append key_named (name ∷ []) names

pub names_head : (name : List ℕ) (names : List (List ℕ)) → AreNames (name ∷ names) → is_name name ≡ true
names_head name names all = All-head (λ (x : List ℕ). is_name x ≡ true) name names all

pub names_tail : (name : List ℕ) (names : List (List ℕ)) → AreNames (name ∷ names) → AreNames names
names_tail name names all = All-tail (λ (x : List ℕ). is_name x ≡ true) name names all

-- names behind others
pub with_names_append : (names some more : List (List ℕ)) → with_names names (some ++ more) ≡ with_names (with_names names some) more
with_names_append names some more =
    ap (insert_all bytes_eq names) (filter-append is_custom some more)
    ∙ fold-append (insert_key bytes_eq) names (filter is_custom some) (filter is_custom more)

pub with_names_next : (names : List (List ℕ)) (name : List ℕ) (more : List (List ℕ)) → with_names names (name ∷ more) ≡ with_names (with_names names (name ∷ [])) more
with_names_next names name more = with_names_append names (name ∷ []) more

pub with_asked_next : (names : List (List ℕ)) (command : Command) (more : List Command)
    → with_names names (filter_map name_of_command (command ∷ more)) ≡ with_names (with_names names (filter_map name_of_command (command ∷ []))) (filter_map name_of_command more)
with_asked_next names command more =
    ap (with_names names) (filter_map-append name_of_command (command ∷ []) more)
    ∙ with_names_append names (filter_map name_of_command (command ∷ [])) (filter_map name_of_command more)

pub with_keys_next : (names : List (List ℕ)) (ds : Declarations) (more : List Declarations)
    → with_names names (filter_map name_of_key (keys_in (ds ∷ more))) ≡ with_names (with_names names (filter_map name_of_key (keys_of ds))) (filter_map name_of_key (keys_in more))
with_keys_next names ds more =
    ap (with_names names) (filter_map-append name_of_key (keys_of ds) (keys_in more))
    ∙ with_names_append names (filter_map name_of_key (keys_of ds)) (filter_map name_of_key (keys_in more))

pub with_key_next : (names : List (List ℕ)) (ds : Declarations) (i : ℕ) (k : Key) (d : Decl) → slice_get ds i ≡ Some (k, d)
    → with_names names (filter_map name_of_key (keys_of (take (i + 1) ds))) ≡ with_names (with_names names (filter_map name_of_key (keys_of (take i ds)))) (filter_map name_of_key (k ∷ []))
with_key_next names ds i k d is =
    ap (λ keys. with_names names (filter_map name_of_key keys)) (keys_next ds i k d is)
    ∙ ap (with_names names) (filter_map-append name_of_key (keys_of (take i ds)) (k ∷ []))
    ∙ with_names_append names (filter_map name_of_key (keys_of (take i ds))) (filter_map name_of_key (k ∷ []))

-- the names of one more registration
pub with_registered_next : (names : List (List ℕ)) (registered : Registered) (i : ℕ) (name : List ℕ) (entry : Entry) → slice_get registered i ≡ Some (name, entry)
    → with_names names (keys_of (take (i + 1) registered)) ≡ with_names (with_names names (keys_of (take i registered))) (name ∷ [])
with_registered_next names registered i name entry is =
    ap (with_names names) (ap keys_of (take_next registered i (name, entry) is) ∙ map-append (λ e. e.0) (take i registered) ((name, entry) ∷ []))
    ∙ with_names_append names (keys_of (take i registered)) (name ∷ [])

-- all names, which were added by kind
pub counted_are : (none first declared shown asked : List (List ℕ)) (rules some more others : List (List ℕ)) → none ≡ [] → first ≡ with_names none rules → declared ≡ with_names first some → shown ≡ with_names declared more → asked ≡ with_names shown others
    → asked ≡ with_names [] (rules ++ some ++ more ++ others)
counted_are none first declared shown asked rules some more others nothing zeroth one two three =
    three ∙ ap (λ n. with_names n others) (two ∙ ap (λ n. with_names n more) (one ∙ ap (λ n. with_names n some) (zeroth ∙ ap (λ n. with_names n rules) nothing)))
    ∙ sym (with_names_append [] ((rules ++ some) ++ more) others ∙ ap (λ n. with_names n others) (with_names_append [] (rules ++ some) more ∙ ap (λ n. with_names n more) (with_names_append [] rules some)))
