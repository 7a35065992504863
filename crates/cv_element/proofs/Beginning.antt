-- A declaration begins a font unit, as the code asks it.
use Rattle.std.proofs.Common.{◌≡◌, ℕ, ◌<◌, ◌↔◌, Bool, true, List, Option, Some, refl, sym, ◌∙◌, ap, subst}
use Rattle.std.specs.Prelude.{Contains, is_none, slice_get, ◌||◌}
use Rattle.std.specs.List.{IsDistinct, list_any}
use Rattle.std.specs.Map.{keys_of}
use Rattle.cv_spec_element.specs.Pieces.{RefersTo}
use Rattle.cv_var.specs.References.{pieces_of}
use Rattle.cv_valuation.specs.declared.key.Key.{Key}
use Rattle.cv_valuation.specs.Keys.{same_key}
use Rattle.cv_valuation.specs.Valuations.{Values}
use Rattle.cv_props.specs.declared.decls.Decl.{Decl}
use Rattle.cv_props.specs.Registered.{Registered, AreEntries}
use Rattle.cv_props.specs.Winners.{Declarations}
use Rattle.cv_spec_valuation.specs.declared.place.Place.{Place}
use Rattle.cv_spec_valuation.specs.Computed.{ParentStandsUnder}
use Rattle.cv_spec_valuation.specs.Element.{the_element}
use Rattle.cv_element.specs.Holding.{BeginsFont, owns_font, lends_font}
use Rattle.cv_element.specs.Settling.{key_in}
use Rattle.cv_element.proofs.Lawful.{Laws}
use Rattle.cv_element.proofs.Looping.{any_some, some_any}
use Rattle.cv_element.proofs.Owning.{begins_is}
use Rattle.cv_element.proofs.Placing.{declared_at}

pub begins_here : (laws : Laws) (registered : Registered) (entries : AreEntries registered) (decls : Declarations) (once : IsDistinct same_key (keys_of decls)) (parent : Option Values) (stands : ParentStandsUnder registered parent) (place : Place) (most : ℕ) (at : ℕ) (key : Key) (d : Decl) → slice_get decls at ≡ Some (key, d) → (root owns lent result : Bool) → root ≡ is_none place.root → owns ≡ owns_font root registered parent key d.value → (names : List (List ℕ)) → ((name : List ℕ) → Contains names name ↔ RefersTo (pieces_of d.value) name) → lent ≡ list_any (lends_font root registered decls parent) names → result ≡ (owns || lent) → (result ≡ true) ↔ BeginsFont (the_element registered decls parent place most) decls at
begins_here laws registered entries decls once parent stands place most at key d entry root owns lent result root_is owns_is names refers lent_is result_is =
    subst (λ b. (b ≡ true) ↔ BeginsFont (the_element registered decls parent place most) decls at) (sym (result_is ∙ ap (λ b. b || lent) (owns_is ∙ ap (λ r. owns_font r registered parent key d.value) root_is)))
    (begins_is laws registered entries decls parent stands place most at key d (ap key_in entry) (declared_at laws.found decls once at key d entry) lent (to, from))
  where
    lent_now : lent ≡ list_any (lends_font (is_none place.root) registered decls parent) names
    lent_now = lent_is ∙ ap (λ r. list_any (lends_font r registered decls parent) names) root_is

    to : lent ≡ true → (name : List ℕ) × RefersTo (pieces_of d.value) name × (lends_font (is_none place.root) registered decls parent name ≡ true)
    to is =
        let some = any_some (lends_font (is_none place.root) registered decls parent) names (sym lent_now ∙ is) in
        (some.0, (refers some.0).0 some.1, some.2)

    from : (name : List ℕ) × RefersTo (pieces_of d.value) name × (lends_font (is_none place.root) registered decls parent name ≡ true) → lent ≡ true
    from (name, there, lends) =
        let has = (refers name).1 there in
        lent_now ∙ some_any (lends_font (is_none place.root) registered decls parent) names name has.0 has.1 has.2 lends
