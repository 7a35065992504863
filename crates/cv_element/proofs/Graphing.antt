-- The edges of one declaration, one reference after another, and the graph as a numbering of what is declared.
use Rattle.std.proofs.Common.{◌≡◌, ◌≢◌, ℕ, ◌+◌, ◌<◌, ◌≤◌, ◌↔◌, Bool, true, false, cond, List, [], ◌∷◌, ◌++◌, length, take, get_or, Option, Some, None, is_some, ◌⊎◌, inl, inr, refl, sym, ◌∙◌, ap, subst, arith}
use Rattle.std.specs.Prelude.{Contains, bytes_eq, eqb, count_by, slice_get}
use Rattle.std.specs.List.{IsDistinct}
use Rattle.std.specs.Map.{keys_of}
use Rattle.std.proofs.Math.Seq.{take-length}
use Rattle.std.proofs.lemmas.Bool.{cases_lt, cases_eq}
use Rattle.std.proofs.lemmas.List.{get_or_default, get_or-take, length-take-le, take_more, length_push}
use Rattle.std.proofs.lemmas.List.Elements.{Contains-push, Contains-push_cases, Contains-append_left}
use Rattle.std.proofs.lemmas.List.Sums.{sum_by_push}
use Rattle.std.proofs.lemmas.Map.Made.{AllPairs-from_IsDistinct}
use Rattle.std.proofs.lemmas.Slice.Eq.{bytes_eq-Decides}
use Rattle.cv_graph.specs.Edges.{targets, HasEdge}
use Rattle.cv_spec_element.specs.Pieces.{RefersTo}
use Rattle.cv_var.specs.References.{pieces_of}
use Rattle.cv_valuation.specs.declared.key.Key.{Key}
use Rattle.cv_valuation.specs.declared.key.Key.TheVariants.{Custom}
use Rattle.cv_valuation.specs.Keys.{same_key}
use Rattle.cv_valuation.specs.TableLaws.{PropertiesAreFound}
use Rattle.cv_props.specs.declared.decls.Decl.{Decl}
use Rattle.cv_props.specs.Winners.{Declarations, declaration_of}
use Rattle.cv_element.specs.Counting.{declared_count}
use Rattle.cv_element.specs.Places.{IsPlaceOf, RefersAt, Connects}
use Rattle.cv_element.specs.Settling.{key_at}
use Rattle.cv_element.proofs.Counting.{once-push}
use Rattle.cv_element.proofs.Placing.{distinct, entry_at, declared_at}

names_apart : (names : List (List ℕ)) → IsDistinct bytes_eq names → (i j : ℕ) → i < length names → j < length names → get_or names i [] ≡ get_or names j [] → i ≡ j
names_apart names once i j below_i below_j same =
    let pairs = AllPairs-from_IsDistinct bytes_eq-Decides names once in
    elim (cases_lt i j) [
      | inl lower ↦ absurd (pairs i j [] lower below_j same)
      | inr upper ↦ elim (cases_lt j i) [
        | inl higher ↦ absurd (pairs j i [] higher below_i (sym same))
        | inr equal ↦ omega arith
      ]
    ]

custom_same : (a b : List ℕ) → Custom a ≡ Custom b → a ≡ b
custom_same a b same = cc

module _ (found : PropertiesAreFound) (decls : Declarations) (all_once : IsDistinct same_key (keys_of decls)) where
  -- what stands at a place is declared
  declared_there : (to : ℕ) → to < length decls → (key : Key) → key_at decls to ≡ key → is_some (declaration_of decls key) ≡ true
  declared_there to below key named =
      let at = entry_at decls to below in
      ap (λ k. is_some (declaration_of decls k)) (sym named ∙ at.3) ∙ ap (λ o. is_some o) (declared_at found decls all_once to at.0 at.1 at.2)

  module _ (references : List (List ℕ)) (place : ℕ) (below : place < length references) (ref : List ℕ) (ref_is : ref ≡ get_or references place []) (row row' : List ℕ) (before : (x : ℕ) → Contains row x ↔ IsPlaceOf decls (take place references) x) where
    next : take (place + 1) references ≡ take place references ++ ref ∷ []
    next = take_more references place [] below ∙ ap (λ r. take place references ++ r ∷ []) (sym ref_is)

    old_more : (x : ℕ) → IsPlaceOf decls (take place references) x → IsPlaceOf decls (take (place + 1) references) x
    old_more x is = record {
      below = is.below;
      name = is.name;
      named = is.named;
      refers = subst (λ l. Contains l is.name) (sym next) (Contains-append_left (take place references) (ref ∷ []) is.name is.refers);
    }

    found_step : (to : ℕ) → to < length decls → key_at decls to ≡ Custom ref → row' ≡ row ++ to ∷ [] → (x : ℕ) → Contains row' x ↔ IsPlaceOf decls (take (place + 1) references) x
    found_step to within named is x = (forth, back)
      where
        forth : Contains row' x → IsPlaceOf decls (take (place + 1) references) x
        forth has =
            elim (Contains-push_cases row to x (subst (λ r. Contains r x) is has)) [
              | inl old ↦ old_more x ((before x).0 old)
              | inr same ↦ record {
                below = subst (λ n. n < length decls) same within;
                name = ref;
                named = subst (λ n. key_at decls n ≡ Custom ref) same named;
                refers = subst (λ l. Contains l ref) (sym next) (Contains-push (take place references) ref);
              }
            ]

        back : IsPlaceOf decls (take (place + 1) references) x → Contains row' x
        back number =
            subst (λ r. Contains r x) (sym is) (elim (Contains-push_cases (take place references) ref number.name (subst (λ l. Contains l number.name) next number.refers)) [
              | inl old ↦ Contains-append_left row (to ∷ []) x ((before x).1 (record { below = number.below; name = number.name; named = number.named; refers = old }))
              | inr same ↦ subst (λ n. Contains (row ++ to ∷ []) n) (distinct found decls all_once to x within number.below (named ∙ ap Custom same ∙ sym number.named)) (Contains-push row to)
            ])

    none_step : ((x : ℕ) → x < length decls → key_at decls x ≢ Custom ref) → (x : ℕ) → Contains row x ↔ IsPlaceOf decls (take (place + 1) references) x
    none_step none x = ((λ has. old_more x ((before x).0 has)), back)
      where
        back : IsPlaceOf decls (take (place + 1) references) x → Contains row x
        back number =
            elim (Contains-push_cases (take place references) ref number.name (subst (λ l. Contains l number.name) next number.refers)) [
              | inl old ↦ (before x).1 (record { below = number.below; name = number.name; named = number.named; refers = old })
              | inr same ↦ absurd (none x number.below (number.named ∙ ap Custom (sym same)))
            ]

    pub connects_step : Connects decls ref row row' → (x : ℕ) → Contains row' x ↔ IsPlaceOf decls (take (place + 1) references) x
    connects_step (inl (to, within, named, is)) = found_step to within named is
    connects_step (inr (none, is)) = λ x. subst (λ r. Contains r x ↔ IsPlaceOf decls (take (place + 1) references) x) (sym is) (none_step none x)

    count_next : declared_count decls (take (place + 1) references) ≡ declared_count decls (take place references) + cond (is_some (declaration_of decls (Custom ref))) 1 0
    count_next =
        ap (declared_count decls) next ∙ sum_by_push (λ name. cond (is_some (declaration_of decls (Custom name))) 1 0) (take place references) ref

    pub connects_few : Connects decls ref row row' → length row ≤ declared_count decls (take place references) → length row' ≤ declared_count decls (take (place + 1) references)
    connects_few (inl (to, within, named, is)) few =
        let one : ◌≡◌ {A = ℕ} (cond (is_some (declaration_of decls (Custom ref))) 1 0) 1 = ap (λ b. cond b 1 0) (declared_there to within (Custom ref) named) in
        omega (arith, few, one, count_next, ap (λ l. length l) is ∙ length_push row to)
    connects_few (inr (none, is)) few = omega (arith, few, count_next, ap (λ l. length l) is)

    -- no number of the row is that of the reference
    pub unmet : IsDistinct bytes_eq references → (x : ℕ) → Contains row x → key_at decls x ≢ Custom ref
    unmet once x has same =
        let placed = (before x).0 has in
        let name_is : placed.name ≡ ref = custom_same placed.name ref (sym placed.named ∙ same) in
        let at = placed.refers in
        let early : at.0 < place = omega (arith, at.1, length-take-le place references (omega (arith, below))) in
        let earlier : get_or references at.0 [] ≡ ref = sym (get_or-take place references at.0 [] early) ∙ get_or_default (take place references) at.0 [] placed.name at.1 ∙ at.2 ∙ name_is in
        let clash : at.0 ≡ place = names_apart references once at.0 place (omega (arith, early, below)) below (earlier ∙ ref_is) in
        omega (arith, early, clash)

    pub connects_once : IsDistinct bytes_eq references → Connects decls ref row row' → IsDistinct eqb row → IsDistinct eqb row'
    connects_once references_once (inl (to, within, named, is)) once =
        subst (IsDistinct eqb) (sym is) (once-push row to once (λ has. unmet references_once to has named))
    connects_once references_once (inr (none, is)) once = subst (IsDistinct eqb) (sym is) once

-- before the first reference
pub none_connected : (decls : Declarations) (row : List ℕ) → row ≡ [] → (x : ℕ) → Contains row x ↔ IsPlaceOf decls [] x
none_connected decls row none x = (
  (λ has. absurd (omega (arith, has.1, ap (λ (l : List ℕ). length l) none))),
  (λ number. absurd (omega (arith, number.refers.1))),
)

pub all_connected : (decls : Declarations) (references : List (List ℕ)) (place : ℕ) → place ≡ length references → (row : List ℕ) → ((x : ℕ) → Contains row x ↔ IsPlaceOf decls (take place references) x) → (x : ℕ) → Contains row x ↔ IsPlaceOf decls references x
all_connected decls references place whole row edges x =
    subst (λ l. Contains row x ↔ IsPlaceOf decls l x) (ap (λ n. take n references) whole ∙ take-length references) (edges x)

pub all_few : (decls : Declarations) (references : List (List ℕ)) (place : ℕ) → place ≡ length references → (row : List ℕ) → length row ≤ declared_count decls (take place references) → length row ≤ declared_count decls references
all_few decls references place whole row few =
    subst (λ l. length row ≤ declared_count decls l) (ap (λ n. take n references) whole ∙ take-length references) few

entry_same : (a b : Key × Decl) → Some a ≡ Some b → a ≡ b
entry_same a b same = cc

-- the references of the declaration at a place
pub references_are : (decls : Declarations) (place : ℕ) (key : Key) (d : Decl) → slice_get decls place ≡ Some (key, d) → (references : List (List ℕ)) → ((name : List ℕ) → Contains references name ↔ RefersTo (pieces_of d.value) name) → (row : List ℕ) → ((to : ℕ) → Contains row to ↔ IsPlaceOf decls references to) → (to : ℕ) → Contains row to ↔ RefersAt decls place to
references_are decls place key d at references refers row edges to = (
  (λ has.
      let placed = (edges to).0 has in
      record { below = placed.below; key = key; declaration = d; at = at; name = placed.name; named = placed.named; refers = (refers placed.name).0 placed.refers }),
  (λ reference.
      let both : Some (key, d) ≡ Some (reference.key, reference.declaration) = sym at ∙ reference.at in
      let same : d ≡ reference.declaration = ap (λ (x : Key × Decl). x.1) (entry_same (key, d) (reference.key, reference.declaration) both) in
      (edges to).1 (record { below = reference.below; name = reference.name; named = reference.named; refers = (refers reference.name).1 (subst (λ x. RefersTo (pieces_of x.value) reference.name) (sym same) reference.refers) })),
)

-- the rows of one more place
module _ (rows rows' : List (List ℕ)) (number : ℕ) (others : (node : ℕ) → node ≢ number → targets rows' node ≡ targets rows node) where
  pub rows_keep : (P : ℕ → List ℕ → Type 0) → P number (targets rows' number) → ((from : ℕ) → from < number → P from (targets rows from)) → (from : ℕ) → from < number + 1 → P from (targets rows' from)
  rows_keep P here old from below =
      elim (cases_eq from number) [
        | inl same ↦ subst (λ n. P n (targets rows' n)) (sym same) here
        | inr different ↦ subst (P from) (sym (others from different)) (old from (omega (arith, below, different)))
      ]

  pub rows_none : ((from : ℕ) → number ≤ from → targets rows from ≡ []) → (from : ℕ) → number + 1 ≤ from → targets rows' from ≡ []
  rows_none none from below =
      let different : from ≢ number = omega (arith, below) in
      others from different ∙ none from (omega (arith, below))
