-- The held units of a property are found by walking references backwards.
use Rattle.std.proofs.Common.{◌≡◌, ℕ, ◌<◌, ◌↔◌, Bool, true, false, List, [], ◌∷◌, length, Option, Some, None, ◌⊎◌, inl, inr, refl, sym, ◌∙◌, ap, subst, arith}
use Rattle.std.specs.List.{IsDistinct}
use Rattle.std.specs.Map.{keys_of}
use Rattle.std.specs.Prelude.{slice_get}
use Rattle.cv_cycle.specs.Marks.{IsMarked}
use Rattle.cv_cycle.specs.Reversing.{LeadsThrough, IsReachedBack}
use Rattle.cv_graph.specs.Edges.{HasEdge}
use Rattle.cv_calc.specs.declared.unit.Unit.{Unit as Measure}
use Rattle.cv_spec_element.specs.Pieces.{Pieces, RefersTo}
use Rattle.cv_spec_element.specs.Walks.{Walk, Reaches}
use Rattle.cv_spec_element.specs.Dependencies.{Owns, Refers, RefersLoosely, Holds}
use Rattle.cv_var.specs.References.{pieces_of}
use Rattle.cv_valuation.specs.declared.key.Key.{Key}
use Rattle.cv_valuation.specs.declared.key.Key.TheVariants.{Custom}
use Rattle.cv_valuation.specs.Keys.{same_key}
use Rattle.cv_valuation.specs.TableLaws.{PropertiesAreFound}
use Rattle.cv_valuation.specs.Valuations.{Values}
use Rattle.cv_props.specs.declared.decls.Decl.{Decl}
use Rattle.cv_props.specs.Registered.{Registered}
use Rattle.cv_props.specs.Winners.{Declarations, declaration_of}
use Rattle.cv_spec_valuation.specs.declared.place.Place.{Place}
use Rattle.cv_spec_valuation.specs.Registered.{is_loose}
use Rattle.cv_spec_valuation.specs.Element.{keyed, pieces_in, the_element}
use Rattle.cv_element.specs.Holding.{OwnsFont, HoldsFont, BeginsFont}
use Rattle.cv_element.specs.Places.{RefersAt}
use Rattle.cv_element.specs.Settling.{key_at, key_in}
use Rattle.cv_element.specs.Values.{AnElement}
use Rattle.cv_element.proofs.Keying.{keyed-RefersTo, RefersTo-keyed}
use Rattle.cv_element.proofs.Placing.{entry_at, declared_at, place_of}

declared_or : (o : Option Decl) → ((d : Decl) × (o ≡ Some d)) ⊎ (o ≡ None)
declared_or None = inr refl
declared_or (Some d) = inl (d, refl)

module _ (registered : Registered) (decls : Declarations) (parent : Option Values) (place : Place) (most : ℕ) (found : PropertiesAreFound) (once : IsDistinct same_key (keys_of decls)) (rows : List (List ℕ)) (count : length rows ≡ length decls) (edges : (from to : ℕ) → from < length rows → HasEdge rows from to ↔ RefersAt decls from to) where
  abbrev e : AnElement
  e = the_element registered decls parent place most

  abbrev key : ℕ → Key
  key = key_at decls

  -- a reference of one declaration to another
  pub refers_key : (i j : ℕ) → RefersAt decls i j → Refers e (key i) (key j)
  refers_key i j reference =
      let declared : declaration_of decls (key i) ≡ Some reference.declaration = subst (λ k. declaration_of decls k ≡ Some reference.declaration) (sym (ap key_in reference.at)) (declared_at found decls once i reference.key reference.declaration reference.at) in
      (keyed (pieces_of reference.declaration.value), ap pieces_in declared, subst (λ k. RefersTo (keyed (pieces_of reference.declaration.value)) k) (sym reference.named) (keyed-RefersTo (pieces_of reference.declaration.value) reference.name reference.refers))

  pub key_refers : (i j : ℕ) → i < length decls → j < length decls → Refers e (key i) (key j) → RefersAt decls i j
  key_refers i j below_i below_j refers = by (declared_or (declaration_of decls (key i)))
    where
      by : ((d : Decl) × (declaration_of decls (key i) ≡ Some d)) ⊎ (declaration_of decls (key i) ≡ None) → RefersAt decls i j
      by (inr none) = let clash : None ≡ Some refers.0 = sym (ap pieces_in none) ∙ refers.1 in absurd cc
      by (inl (d, is)) =
          let same : refers.0 ≡ keyed (pieces_of d.value) = let both : Some refers.0 ≡ Some (keyed (pieces_of d.value)) = sym refers.1 ∙ ap pieces_in is in cc in
          let named = RefersTo-keyed (pieces_of d.value) (key j) (subst (λ p. RefersTo p (key j)) same refers.2) in
          let entry = entry_at decls i below_i in
          let own : entry.1 ≡ d = let both : Some entry.1 ≡ Some d = sym (subst (λ k. declaration_of decls k ≡ Some entry.1) (sym entry.3) (declared_at found decls once i entry.0 entry.1 entry.2)) ∙ is in cc in
          record { below = below_j; key = entry.0; declaration = d; at = entry.2 ∙ ap (λ x. Some (entry.0, x)) own; name = named.0; named = sym named.1; refers = named.2 }

  module _ (loose starts : List Bool) (loose_is : (i : ℕ) → i < length decls → IsMarked loose i ↔ (is_loose registered (key i) ≡ true)) (starts_are : (i : ℕ) → i < length decls → IsMarked starts i ↔ BeginsFont e decls i) (starts_below : (i : ℕ) → IsMarked starts i → i < length decls) where
    through : (p q : Key) → RefersLoosely e p q → HoldsFont e q → HoldsFont e p
    through p q loosely (u, font, inl owns) = (u, font, inr (q, ([], loosely), owns))
    through p q loosely (u, font, inr far) = (u, font, inr (far.0, (q ∷ far.1.0, (loosely, far.1.1)), far.2))

    begun_holds : (i : ℕ) → BeginsFont e decls i → HoldsFont e (key i)
    begun_holds i (inl own) = (own.0, own.1, inl own.2)
    begun_holds i (inr (name, loosely, none, owns)) = (owns.0, owns.1, inr (Custom name, ([], loosely), owns.2))

    leads_loosely : (i j : ℕ) → i < length decls → LeadsThrough rows loose i j → RefersLoosely e (key i) (key j) × (j < length decls)
    leads_loosely i j below leads =
        let reference = (edges i j (omega (arith, below, count))).0 leads.0 in
        ((refers_key i j reference, (loose_is j reference.below).0 leads.1), reference.below)

    back_walk : (i : ℕ) (via : List ℕ) (j : ℕ) → i < length decls → Walk (LeadsThrough rows loose) i via j → IsMarked starts j → HoldsFont e (key i)
    back_walk i [] j below walk start =
        let step = leads_loosely i j below walk in
        through (key i) (key j) step.0 (begun_holds j ((starts_are j step.1).0 start))
    back_walk i (c ∷ via) j below walk start =
        let step = leads_loosely i c below walk.0 in
        through (key i) (key c) step.0 (back_walk c via j step.1 walk.1 start)

    pub reached_holds : (i : ℕ) → i < length decls → IsReachedBack rows loose starts i → HoldsFont e (key i)
    reached_holds i below (inl start) = begun_holds i ((starts_are i below).0 start)
    reached_holds i below (inr (to, start, reaches)) = back_walk i reaches.0 to below reaches.1 start

    -- one more edge before
    before : (i j : ℕ) → LeadsThrough rows loose i j → IsReachedBack rows loose starts j → IsReachedBack rows loose starts i
    before i j leads (inl start) = inr (j, start, ([], leads))
    before i j leads (inr (to, start, reaches)) = inr (to, start, (j ∷ reaches.0, (leads, reaches.1)))

    leads_to : (i j : ℕ) → i < length decls → j < length decls → RefersLoosely e (key i) (key j) → LeadsThrough rows loose i j
    leads_to i j below_i below_j loosely =
        ((edges i j (omega (arith, below_i, count))).1 (key_refers i j below_i below_j loosely.0), (loose_is j below_j).1 loosely.1)

    custom_of : (p q : Key) → Refers e p q → (n : List ℕ) × (Custom n ≡ q)
    custom_of p q refers = by (declared_or (declaration_of decls p))
      where
        by : ((d : Decl) × (declaration_of decls p ≡ Some d)) ⊎ (declaration_of decls p ≡ None) → (n : List ℕ) × (Custom n ≡ q)
        by (inr none) = let clash : None ≡ Some refers.0 = sym (ap pieces_in none) ∙ refers.1 in absurd cc
        by (inl (d, is)) =
            let same : refers.0 ≡ keyed (pieces_of d.value) = let both : Some refers.0 ≡ Some (keyed (pieces_of d.value)) = sym refers.1 ∙ ap pieces_in is in cc in
            let named = RefersTo-keyed (pieces_of d.value) q (subst (λ p. RefersTo p q) same refers.2) in
            (named.0, named.1)

    -- the walk from a declared key to one that owns a unit
    forth_walk : (i : ℕ) → i < length decls → (via : List Key) (q : Key) → Walk (RefersLoosely e) (key i) via q → OwnsFont e q → IsReachedBack rows loose starts i
    forth_walk i below [] q walk owns = by (declared_or (declaration_of decls q))
      where
        by : ((d : Decl) × (declaration_of decls q ≡ Some d)) ⊎ (declaration_of decls q ≡ None) → IsReachedBack rows loose starts i
        by (inl (d, is)) =
            let at = place_of found decls once q d is in
            before i at.0 (leads_to i at.0 below at.1 (subst (λ k. RefersLoosely e (key i) k) (sym at.2) walk)) (inl ((starts_are at.0 at.1).1 (inl (subst (λ k. OwnsFont e k) (sym at.2) owns))))
        by (inr none) =
            let n = custom_of (key i) q walk.0 in
            inl ((starts_are i below).1 (inr (n.0, subst (λ k. RefersLoosely e (key i) k) (sym n.1) walk, ap (λ k. pieces_in (declaration_of decls k)) n.1 ∙ ap pieces_in none, subst (λ k. OwnsFont e k) (sym n.1) owns)))
    forth_walk i below (c ∷ via) q walk owns = by (λ j below_j same. forth_walk j below_j via q (subst (λ k. Walk (RefersLoosely e) k via q) (sym same) walk.1) owns) (declared_or (declaration_of decls c))
      where
        next_refers : (via : List Key) → Walk (RefersLoosely e) c via q → (r : Key) × Refers e c r
        next_refers [] step = (q, step.0)
        next_refers (d ∷ more) step = (d, step.0.0)

        by : ((j : ℕ) → j < length decls → key j ≡ c → IsReachedBack rows loose starts j) → ((d : Decl) × (declaration_of decls c ≡ Some d)) ⊎ (declaration_of decls c ≡ None) → IsReachedBack rows loose starts i
        by shorter (inr none) =
            let next = next_refers via walk.1 in
            let clash : None ≡ Some next.1.0 = sym (ap pieces_in none) ∙ next.1.1 in
            absurd cc
        by shorter (inl (d, is)) =
            let at = place_of found decls once c d is in
            before i at.0 (leads_to i at.0 below at.1 (subst (λ k. RefersLoosely e (key i) k) (sym at.2) walk.0)) (shorter at.0 at.1 at.2)

    pub holds_reached : (i : ℕ) → i < length decls → HoldsFont e (key i) → IsReachedBack rows loose starts i
    holds_reached i below (u, font, inl owns) = inl ((starts_are i below).1 (inl (u, font, owns)))
    holds_reached i below (u, font, inr (q, reaches, owns)) = forth_walk i below reaches.0 q reaches.1 (u, font, owns)
