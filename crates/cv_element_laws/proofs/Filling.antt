-- Values that are those of a valuation: each key that is declared or registered, and each ordinary property, is given its value, over what
-- the parent has.
use Rattle.std.proofs.Common.{◌≡◌, ◌≢◌, ℕ, List, [], ◌∷◌, ◌++◌, map, Option, Some, None, is_some, ◌⊎◌, inl, inr, refl, sym, ◌∙◌, ap, subst}
use Rattle.std.specs.Prelude.{Contains, IsSome, slice_get}
use Rattle.std.specs.FinMap as finite
use Rattle.std.specs.Map.{keys_of}
use Rattle.std.proofs.Math.Path.{fun_ext}
use Rattle.std.proofs.lemmas.Map.Views.{Contains-keys_from_lookup}
use Rattle.std.proofs.lemmas.Option.{get_or_from_slice_get, slice_get_within}
use Rattle.std.proofs.lemmas.Slice.Eq.{bytes_eq-Decides}
use Rattle.cv_spec_text.specs.declared.token.Token.{Token}
use Rattle.cv_value.specs.declared.typed.Typed.{Typed}
use Rattle.cv_property.specs.declared.property.Property.{Property}
use Rattle.cv_property.specs.Table.{properties, numbered, number_of}
use Rattle.cv_spec_element.specs.Keywords.{unset, inherited, by_keyword}
use Rattle.cv_spec_element.specs.Element.{Outcome, invalid}
use Rattle.cv_spec_element.specs.Dependencies.{undeclared_value}
use Rattle.cv_spec_element.proofs.Members.{In, In-from_Contains}
use Rattle.cv_valuation.specs.declared.key.Key.{Key}
use Rattle.cv_valuation.specs.declared.key.Key.TheVariants.{Custom, Table}
use Rattle.cv_valuation.specs.TableLaws.{PropertiesAreFound}
use Rattle.cv_valuation.specs.Valuations.{Values, with_outcome}
use Rattle.cv_valuation.specs.ValuationLaws.{OutcomesAreByKey}
use Rattle.cv_props.specs.declared.decls.Decl.{Decl}
use Rattle.cv_props.specs.declared.entry.Entry.{Entry}
use Rattle.cv_props.specs.Registered.{Registered, entry_of}
use Rattle.cv_props.specs.Winners.{Declarations, declaration_of}
use Rattle.cv_spec_valuation.specs.declared.place.Place.{Place}
use Rattle.cv_spec_valuation.specs.Registered.{as_read, initial_by, inherits_by}
use Rattle.cv_spec_valuation.specs.Element.{pieces_in, values_of, parent_in, the_element}
use Rattle.cv_element.specs.Values.{AnElement}
use Rattle.cv_element.proofs.SameKeys.{same_or_not}
use Rattle.cv_element_laws.proofs.Reading.{kept_as, kept_as_read}

-- ---- members

in_left : {X : Type 0} (xs ys : List X) (x : X) → In x xs → In x (xs ++ ys)
in_left [] ys x held = absurd held
in_left (first ∷ xs) ys x (inl here) = inl here
in_left (first ∷ xs) ys x (inr later) = inr (in_left xs ys x later)

in_right : {X : Type 0} (xs ys : List X) (x : X) → In x ys → In x (xs ++ ys)
in_right [] ys x held = held
in_right (first ∷ xs) ys x held = inr (in_right xs ys x held)

in_map : {X Y : Type 0} (f : X → Y) (xs : List X) (x : X) → In x xs → In (f x) (map f xs)
in_map f [] x held = absurd held
in_map f (first ∷ xs) x (inl here) = inl (ap f here)
in_map f (first ∷ xs) x (inr later) = inr (in_map f xs x later)

in_at : {X : Type 0} (xs : List X) (i : ℕ) (x : X) → slice_get xs i ≡ Some x → In x xs
in_at xs i x is = In-from_Contains xs x (i, slice_get_within xs i x is, get_or_from_slice_get xs i x x is)

in_table : PropertiesAreFound → (property : Property) → In property properties
unfolding numbered
in_table found property = in_at properties (number_of property) property (found.numbered_so property)

in_registry : (registered : Registered) (name : List ℕ) (entry : Entry) → entry_of registered name ≡ Some entry → In name (keys_of registered)
in_registry registered name entry is =
    In-from_Contains (keys_of registered) name (Contains-keys_from_lookup (λ a b. (bytes_eq-Decides a b).0) name registered (ap is_some is))

-- ---- values

-- what the parent has; nothing on the root
abbrev base : Option Values → Values
base None = finite.empty
base (Some values) = values

base_read : OutcomesAreByKey → (parent : Option Values) (key : Key) → values_of (base parent) key ≡ inherited invalid (parent_in parent key)
base_read by_key None key = ap as_read (by_key.none key)
base_read by_key (Some values) key = refl

module _ (found : PropertiesAreFound) (by_key : OutcomesAreByKey) (v : Key → Outcome Token Typed) (start : Values) where
  -- these keys have the outcomes of the valuation
  abbrev given : List Key → Values
  given [] = start
  given (k ∷ keys) = with_outcome (given keys) k (kept_as (v k))

  given_is : (keys : List Key) (p : Key) → In p keys ⊎ (values_of start p ≡ v p) → values_of (given keys) p ≡ v p
  given_is [] p (inl held) = absurd held
  given_is [] p (inr is) = is
  given_is (k ∷ keys) p known = by (given_is keys p) (same_or_not found p k)
    where
      rest : p ≢ k → In p (k ∷ keys) ⊎ (values_of start p ≡ v p) → In p keys ⊎ (values_of start p ≡ v p)
      rest apart (inl (inl here)) = absurd (apart (sym here))
      rest apart (inl (inr later)) = inl later
      rest apart (inr is) = inr is

      by : (In p keys ⊎ (values_of start p ≡ v p) → values_of (given keys) p ≡ v p) → (p ≡ k) ⊎ (p ≢ k) → values_of (given (k ∷ keys)) p ≡ v p
      by rest_is (inl here) = subst (λ x. values_of (given (k ∷ keys)) x ≡ v x) (sym here) (ap as_read (by_key.here (given keys) k (kept_as (v k))) ∙ kept_as_read (v k))
      by rest_is (inr apart) = ap as_read (by_key.elsewhere (given keys) k (kept_as (v k)) p apart) ∙ rest_is (rest apart known)

module _ (registered : Registered) (decls : Declarations) (parent : Option Values) (place : Place) (most : ℕ) where
  abbrev e : AnElement
  e = the_element registered decls parent place most

  -- the keys that are given their values
  abbrev keys : List Key
  keys = keys_of decls ++ (map Custom (keys_of registered) ++ map Table properties)

  module _ (found : PropertiesAreFound) (by_key : OutcomesAreByKey) (v : Key → Outcome Token Typed) (listed : (p : Key) → IsSome (e.declarations.pieces p) → Contains (keys_of decls) p) (undeclared : (p : Key) → e.declarations.pieces p ≡ None → v p ≡ undeclared_value e p) where
    -- a name that is neither declared nor registered has what the parent has
    loose_read : (name : List ℕ) → entry_of registered name ≡ None → undeclared_value e (Custom name) ≡ inherited invalid (parent_in parent (Custom name))
    loose_read name at = ap (λ o. by_keyword (as_read (initial_by o)) (parent_in parent (Custom name)) (inherits_by o) unset) at

    known : (p : Key) → In p keys ⊎ (values_of (base parent) p ≡ v p)
    known (Table property) =
        inl (in_right (keys_of decls) (map Custom (keys_of registered) ++ map Table properties) (Table property) (in_right (map Custom (keys_of registered)) (map Table properties) (Table property) (in_map Table properties property (in_table found property))))
    known (Custom name) = by (declaration_of decls (Custom name)) refl (entry_of registered name) refl
      where
        by : (o : Option Decl) → declaration_of decls (Custom name) ≡ o → (entry : Option Entry) → entry_of registered name ≡ entry → In (Custom name) keys ⊎ (values_of (base parent) (Custom name) ≡ v (Custom name))
        by (Some d) is entry at =
            inl (in_left (keys_of decls) (map Custom (keys_of registered) ++ map Table properties) (Custom name) (In-from_Contains (keys_of decls) (Custom name) (listed (Custom name) (ap (λ o. is_some (pieces_in o)) is))))
        by None is (Some entry) at =
            inl (in_right (keys_of decls) (map Custom (keys_of registered) ++ map Table properties) (Custom name) (in_left (map Custom (keys_of registered)) (map Table properties) (Custom name) (in_map Custom (keys_of registered) name (in_registry registered name entry at))))
        by None is None at =
            inr (base_read by_key parent (Custom name) ∙ sym (loose_read name at) ∙ sym (undeclared (Custom name) (ap pieces_in is)))

    abbrev pub filled : Values
    filled = given found by_key v (base parent) keys

    pub values_are : values_of filled ≡ v
    values_are = fun_ext (λ p. given_is found by_key v (base parent) keys p (known p))
