-- The names that a document may show are those of keys.
use Rattle.std.proofs.Common.{◌≡◌, ℕ, suc, Bool, true, false, cond, List, [], ◌∷◌, Option, Some, None, is_some, refl, sym, ◌∙◌, ap, length, map}
use Rattle.std.specs.Prelude.{◌||◌, All, find, option_map}
use Rattle.std.specs.List.{list_any, cons_option}
use Rattle.std.proofs.lemmas.List.Elements.{All-head, All-tail}
use Rattle.cv_spec_text.specs.Keywords.{is_custom}
use Rattle.cv_doc.specs.Members.{is_name}
use Rattle.cv_doc.specs.PropertyNames.{is_property, property_names, same_word}
use Rattle.cv_valuation.specs.declared.key.Key.{Key}
use Rattle.cv_valuation.specs.declared.key.Key.TheVariants.{Custom, Table}
use Rattle.cv_property.specs.declared.property.Property.{Property}
use Rattle.cv_valuation.specs.Keys.{key_named}
use Rattle.cv_property.specs.Table.{is_name_of, name_of, properties, property_named}
use Rattle.cv_tree.specs.Names.{named_keys}

-- the names of documents are those of the table, in its order
same_names : property_names ≡ map name_of properties
unfolding property_names
same_names = refl

found_or_not : (b : Bool) (property : Property) (rest : Bool) (found : Option Property) → rest ≡ is_some found → (b || rest) ≡ is_some (cond b (Some property) found)
found_or_not true property rest found same = refl
found_or_not false property rest found same = same

same_test : (name : List ℕ) (all : List Property) → list_any (same_word name) (map name_of all) ≡ is_some (find (is_name_of name) all)
same_test name [] = refl
same_test name (property ∷ all) = found_or_not (is_name_of name property) property (list_any (same_word name) (map name_of all)) (find (is_name_of name) all) (same_test name all)

same_property : (name : List ℕ) → is_property name ≡ is_some (property_named name)
unfolding is_property property_named
same_property name = ap (list_any (same_word name)) same_names ∙ same_test name properties

keyed_or_not : (b : Bool) (name : List ℕ) (rest : Bool) (found : Option Property) → rest ≡ is_some found → (b || rest) ≡ is_some (cond b (Some (Custom name)) (option_map Table found))
keyed_or_not true name rest found same = refl
keyed_or_not false name rest None same = same
keyed_or_not false name rest (Some property) same = same

pub names_are_keys : (name : List ℕ) → is_name name ≡ is_some (key_named name)
unfolding key_named
names_are_keys name = keyed_or_not (is_custom name) name (is_property name) (property_named name) (same_property name)

one_more : (key : Option Key) (keys : List Key) → is_some key ≡ true → length (cons_option key keys) ≡ suc (length keys)
one_more None keys some = let clash : false ≡ true = some in absurd cc
one_more (Some key) keys some = refl

pub all_are_named : (names : List (List ℕ)) → All (λ name. is_name name ≡ true) names → length (named_keys names) ≡ length names
all_are_named [] all = refl
all_are_named (name ∷ names) all =
    one_more (key_named name) (named_keys names) (sym (names_are_keys name) ∙ All-head (λ (x : List ℕ). is_name x ≡ true) name names all)
    ∙ ap suc (all_are_named names (All-tail (λ (x : List ℕ). is_name x ≡ true) name names all))
