-- What commands make of declarations speaks of no property but the declared ones and the one that is set.
use Rattle.std.proofs.Common.{◌≡◌, ℕ, ◌≤◌, Bool, true, false, List, length, Option, Some, None, Result, Ok, Err, refl, sym, ◌∙◌, ap, subst, arith}
use Rattle.std.specs.Prelude.{IfOk, IfSome}
use Rattle.std.specs.List.{IsDistinct}
use Rattle.std.specs.Map.{keys_of, remove_entry}
use Rattle.std.proofs.lemmas.Map.Steps.{list_any_congr}
use Rattle.indexmap.specs.IndexMap.{insert_entry}
use Rattle.cv_spec_text.specs.declared.token.Token.{Token}
use Rattle.cv_valuation.specs.declared.key.Key.{Key}
use Rattle.cv_valuation.specs.declared.key.Key.TheVariants.{Custom, Table}
use Rattle.cv_valuation.specs.Keys.{same_key}
use Rattle.cv_valuation.specs.KeyLaws.{same_key_equiv}
use Rattle.cv_props.specs.declared.entry.Entry.{Entry}
use Rattle.cv_props.specs.Registered.{Registered, entry_of}
use Rattle.cv_props.specs.Winners.{Declarations}
use Rattle.cv_map.specs.declared.error.MapErr.{MapErr}
use Rattle.cv_map.specs.Calls.{of_key}
use Rattle.cv_map.specs.Lists.{append_key, append_list, append_registered, between_items, new_list}
use Rattle.cv_map.specs.Values.{declares, list_if, plain, set_key, with_list}
use Rattle.cv_tree.specs.Contents.{AreFew}
use Rattle.cv_session.specs.Scenes.{AreAmong, IsAmong}
use Rattle.cv_session.proofs.Among.{found_inserted, found_left, no_more}

listed_among : (keys : List Key) (d : Declarations) (key : Key) (list : Option (List Token)) (made : Declarations) → with_list d key list ≡ Ok made
    → AreAmong keys d → IsAmong keys key → AreAmong keys made
listed_among keys d key None made is among there = cc
listed_among keys d key (Some list) made is among there =
    let same : insert_entry same_key d key (plain list) ≡ made = cc in
    subst (AreAmong keys) same
    (found_inserted same_key (IsAmong keys) d key (plain list) among (λ q same. list_any_congr same_key_equiv q key keys same ∙ there))

pub set_among : (keys : List Key) (d : Declarations) (value : List Token) (name : Option Key) (made : Declarations) → set_key d value name ≡ Ok made
    → AreAmong keys d → IfSome name (IsAmong keys) → AreAmong keys made
set_among keys d value None made is among there = cc
set_among keys d value (Some key) made is among there = listed_among keys d key (list_if (declares key value) value) made is among there

pub append_among : (keys : List Key) (registered : Registered) (d : Declarations) (value : List Token) (name : Option Key) (made : Declarations) → append_key registered d value name ≡ Ok made
    → AreAmong keys d → IfSome name (IsAmong keys) → AreAmong keys made
append_among keys registered d value None made is among there = cc
append_among keys registered d value (Some (Table property)) made is among there = cc
append_among keys registered d value (Some (Custom name)) made is among there = by (entry_of registered name) is
  where
    by : (o : Option Entry) → append_registered d (Custom name) value o ≡ Ok made → AreAmong keys made
    by None found = cc
    by (Some entry) found =
        elim (between_items entry.syntax) as (λ o. append_list d (Custom name) entry.syntax value o ≡ Ok made → AreAmong keys made) [
          | None ↦ (λ none. cc)
          | Some parted ↦ (λ some. listed_among keys d (Custom name) (new_list d (Custom name) entry.syntax parted value) made some among there)
        ]
        found

pub delete_among : (keys : List Key) (d : Declarations) (name : Option Key) (made : Declarations) → of_key (λ key. remove_entry (same_key key) d) name ≡ Ok made
    → AreAmong keys d → AreAmong keys made
delete_among keys d None made is among = cc
delete_among keys d (Some key) made is among =
    let same : remove_entry (same_key key) d ≡ made = cc in
    subst (AreAmong keys) same (found_left same_key (IsAmong keys) (same_key key) d among)

-- no more properties are declared than there are
pub few_among : (keys : List Key) (d : Declarations) → length keys ≤ 2083 → IsDistinct same_key (keys_of d) → AreAmong keys d → AreFew d
few_among keys d few distinct among = omega (arith, few, no_more same_key_equiv d keys distinct among)
