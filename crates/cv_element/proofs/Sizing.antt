-- The edges to `font-size` are those of the properties that read it, and there are few.
use Rattle.std.proofs.Common.{◌≡◌, ◌≢◌, ℕ, zero, suc, ◌+◌, ◌<◌, ◌≤◌, ◌↔◌, zero-le, Bool, true, false, not, List, [], ◌∷◌, ◌++◌, length, get_or, Option, Some, None, ◌⊎◌, inl, inr, refl, sym, ◌∙◌, ap, subst, arith}
use Rattle.std.specs.Prelude.{Contains, IsSome, IfSome, is_some, if◌then◌else◌, eqb, sum_by, slice_get, slice_index_or, ◌&&◌}
use Rattle.std.specs.List.{IsDistinct}
use Rattle.std.specs.Map.{keys_of}
use Rattle.std.proofs.lemmas.Bool.{eqb-true}
use Rattle.std.proofs.lemmas.List.{length_push}
use Rattle.std.proofs.lemmas.List.Elements.{Contains-push, Contains-push_cases, Contains-append_left}
use Rattle.std.proofs.lemmas.List.Sums.{sum_by-cons}
use Rattle.std.proofs.lemmas.Cmp.{nat_eq_equiv}
use Rattle.std.proofs.lemmas.Option.{slice_get_within}
use Rattle.cv_cycle.specs.Marks.{IsMarked}
use Rattle.cv_graph.specs.Edges.{targets, edge_count, HasEdge}
use Rattle.cv_property.specs.declared.property.Property.{Property}
use Rattle.cv_property.specs.declared.property.Property.TheVariants.{FontSize}
use Rattle.cv_property.specs.Table.{number_of, numbered}
use Rattle.cv_spec_element.specs.Dependencies.{Needs, ReadsFontSize, IsReadAtFontSize}
use Rattle.cv_valuation.specs.declared.key.Key.{Key}
use Rattle.cv_valuation.specs.declared.key.Key.TheVariants.{Custom, Table}
use Rattle.cv_valuation.specs.Keys.{same_key}
use Rattle.cv_valuation.specs.TableLaws.{PropertiesAreFound}
use Rattle.cv_valuation.specs.Valuations.{Values}
use Rattle.cv_props.specs.declared.decls.Decl.{Decl}
use Rattle.cv_props.specs.declared.entry.Entry.{Entry}
use Rattle.cv_props.specs.Registered.{Registered, entry_of}
use Rattle.cv_props.specs.Winners.{Declarations, declaration_of}
use Rattle.cv_syntax.specs.declared.syntax.Syntax.{Syntax}
use Rattle.cv_syntax.specs.declared.syntax.Syntax.TheVariants.{Any, Of}
use Rattle.cv_syntax.specs.Told.{has_no_length}
use Rattle.cv_spec_valuation.specs.declared.place.Place.{Place}
use Rattle.cv_spec_valuation.specs.Registered.{is_any, is_loose_by, has_lengths_by, is_loose, has_lengths}
use Rattle.cv_spec_valuation.specs.Element.{pieces_in, the_element}
use Rattle.cv_element.specs.Counting.{references_of, references_at, references_in, reference_count, size_count, edge_most}
use Rattle.cv_element.specs.Holding.{HoldsFont, NeedsAt, IsSizedAt, reads_size, with_size}
use Rattle.cv_element.specs.Places.{RefersAt}
use Rattle.cv_element.specs.Settling.{key_in, key_at}
use Rattle.cv_element.specs.Values.{AnElement}
use Rattle.cv_element.proofs.Counting.{has_room}
use Rattle.cv_element.proofs.Fonts.{and_cases, and_both}
use Rattle.cv_element.proofs.Placing.{distinct, entry_at, declared_at, place_of}
use Rattle.cv_element.proofs.Reaching.{refers_key, key_refers}

-- ---- tests

not_true : (b : Bool) → not b ≡ true → b ≡ false
not_true true is = cc
not_true false is = refl

false_not : (b : Bool) → (b ≢ true) → not b ≡ true
false_not true is = absurd (is refl)
false_not false is = refl

-- a syntax with lengths isn't the universal one
typed_by : (o : Option Entry) → has_lengths_by o ≡ true → is_loose_by o ≡ false
typed_by None has = let clash : false ≡ true = has in absurd cc
typed_by (Some entry) has = by entry.syntax refl
  where
    by : (s : Syntax) → entry.syntax ≡ s → is_any entry.syntax ≡ false
    by Any is = let clash : false ≡ true = sym (ap (λ x. not (has_no_length x)) is) ∙ has in absurd cc
    by (Of components) is = ap is_any is

module _ (registered : Registered) (key : Key) (holds : Bool) (size : ℕ) (row : List ℕ) where
  pub with_on : reads_size registered key holds ≡ true → with_size registered key holds size row ≡ row ++ size ∷ []
  with_on is = ap (λ (b : Bool). if b then row ++ size ∷ [] else row) is

  pub with_off : reads_size registered key holds ≡ false → with_size registered key holds size row ≡ row
  with_off is = ap (λ (b : Bool). if b then row ++ size ∷ [] else row) is

  with_cases : (to : ℕ) → Contains (with_size registered key holds size row) to → Contains row to ⊎ ((to ≡ size) × (reads_size registered key holds ≡ true))
  with_cases to has = by (reads_size registered key holds) refl
    where
      by : (b : Bool) → reads_size registered key holds ≡ b → Contains row to ⊎ ((to ≡ size) × (reads_size registered key holds ≡ true))
      by true is = elim (Contains-push_cases row size to (subst (λ r. Contains r to) (with_on is) has)) [ inl old ↦ inl old | inr same ↦ inr (sym same, is) ]
      by false is = inl (subst (λ r. Contains r to) (with_off is) has)

  with_old : (to : ℕ) → Contains row to → Contains (with_size registered key holds size row) to
  with_old to has = by (reads_size registered key holds) refl
    where
      by : (b : Bool) → reads_size registered key holds ≡ b → Contains (with_size registered key holds size row) to
      by true is = subst (λ r. Contains r to) (sym (with_on is)) (Contains-append_left row (size ∷ []) to has)
      by false is = subst (λ r. Contains r to) (sym (with_off is)) has

  with_new : reads_size registered key holds ≡ true → Contains (with_size registered key holds size row) size
  with_new is = subst (λ r. Contains r size) (sym (with_on is)) (Contains-push row size)

  pub with_few : (n : ℕ) → length row ≤ n → length (with_size registered key holds size row) ≤ n + 1
  with_few n few = by (reads_size registered key holds) refl
    where
      by : (b : Bool) → reads_size registered key holds ≡ b → length (with_size registered key holds size row) ≤ n + 1
      by true is = omega (arith, few, ap (λ (r : List ℕ). length r) (with_on is), length_push row size)
      by false is = omega (arith, few, ap (λ (r : List ℕ). length r) (with_off is))

-- ---- sums

row_zero : (row : List ℕ) (rows : List (List ℕ)) → targets (row ∷ rows) 0 ≡ row
row_zero row rows = refl

sum_few : (all decls : Declarations) (rows : List (List ℕ)) → length rows ≡ length decls → ((i : ℕ) → i < length decls → length (targets rows i) ≤ references_in all (slice_get decls i)) → sum_by length rows ≤ sum_by (λ (entry : Key × Decl). references_of all entry.1) decls
sum_few all [] [] same few = omega arith
sum_few all [] (row ∷ rows) same few = absurd (omega (arith, same))
sum_few all (entry ∷ decls) [] same few = absurd (omega (arith, same))
sum_few all (entry ∷ decls) (row ∷ rows) same few =
    let rest = sum_few all decls rows (omega (arith, same)) (λ i below. few (suc i) (omega (arith, below))) in
    let first : length row ≤ references_of all entry.1 = few 0 (omega arith) in
    omega (arith, rest, first, sum_by-cons (λ (r : List ℕ). length r) row rows, sum_by-cons (λ (x : Key × Decl). references_of all x.1) entry decls)

sum_more : (all decls : Declarations) (rows : List (List ℕ)) → length rows ≡ length decls → ((i : ℕ) → i < length decls → length (targets rows i) ≤ references_in all (slice_get decls i) + 1) → sum_by length rows ≤ sum_by (λ (entry : Key × Decl). references_of all entry.1) decls + length decls
sum_more all [] [] same few = omega arith
sum_more all [] (row ∷ rows) same few = absurd (omega (arith, same))
sum_more all (entry ∷ decls) [] same few = absurd (omega (arith, same))
sum_more all (entry ∷ decls) (row ∷ rows) same few =
    let rest = sum_more all decls rows (omega (arith, same)) (λ i below. few (suc i) (omega (arith, below))) in
    let first : length row ≤ references_of all entry.1 + 1 = few 0 (omega arith) in
    omega (arith, rest, first, sum_by-cons (λ (r : List ℕ). length r) row rows, sum_by-cons (λ (x : Key × Decl). references_of all x.1) entry decls)

sized : (decls : Declarations) → is_some (declaration_of decls (Table FontSize)) ≡ true → size_count decls ≡ length decls
sized decls is = ap (λ (b : Bool). if b then length decls else 0) is

pub all_more : (decls : Declarations) (rows : List (List ℕ)) → length rows ≡ length decls → is_some (declaration_of decls (Table FontSize)) ≡ true → ((i : ℕ) → i < length decls → length (targets rows i) ≤ references_at decls i + 1) → edge_count rows ≤ edge_most decls
all_more decls rows same is few = omega (arith, sum_more decls decls rows same few, sized decls is)

pub all_few : (decls : Declarations) (rows : List (List ℕ)) → length rows ≡ length decls → ((i : ℕ) → i < length decls → length (targets rows i) ≤ references_at decls i) → edge_count rows ≤ edge_most decls
all_few decls rows same few = omega (arith, sum_few decls decls rows same few)

-- ---- edges

declared_or : (o : Option Decl) → ((d : Decl) × (o ≡ Some d)) ⊎ (o ≡ None)
declared_or None = inr refl
declared_or (Some d) = inl (d, refl)

some_of : (o : Option Decl) (d : Decl) → o ≡ Some d → IsSome (pieces_in o)
some_of (Some x) d is = refl
some_of None d is = cc

module _ (registered : Registered) (decls : Declarations) (parent : Option Values) (place : Place) (found : PropertiesAreFound) (once : IsDistinct same_key (keys_of decls)) (rows : List (List ℕ)) (count : length rows ≡ length decls) (edges : (from to : ℕ) → from < length rows → HasEdge rows from to ↔ RefersAt decls from to) where
  -- without a declaration of `font-size`
  module _ (none : declaration_of decls (Table FontSize) ≡ None) (most : ℕ) where
    unread : (key : Key) → key ≡ Table FontSize → (to : ℕ) → to < length decls → key_at decls to ≡ key → ⊥
    unread key size to below is =
        let entry = entry_at decls to below in
        let clash : None ≡ Some entry.1 = sym none ∙ ap (declaration_of decls) (sym size ∙ sym is ∙ entry.3) ∙ declared_at found decls once to entry.0 entry.1 entry.2 in
        cc

    pub needs_none : (from to : ℕ) → from < length rows → HasEdge rows from to ↔ NeedsAt (the_element registered decls parent place most) decls from to
    needs_none from to below = (forth, back)
      where
        forth : HasEdge rows from to → NeedsAt (the_element registered decls parent place most) decls from to
        forth has =
            let reference = (edges from to below).0 has in
            (reference.below, inl (inl (refers_key registered decls parent place most found once rows count edges from to reference)))

        back : NeedsAt (the_element registered decls parent place most) decls from to → HasEdge rows from to
        back (within, inl (inl refers)) = (edges from to below).1 (key_refers registered decls parent place most found once rows count edges from to (omega (arith, below, count)) within refers)
        back (within, inl (inr size)) = absurd (unread (key_at decls to) size.0 to within refl)
        back (within, inr size) = absurd (unread (key_at decls to) size.0 to within refl)

  module _ (size : ℕ) (within : size < length decls) (named : key_at decls size ≡ Table FontSize) (marks : List Bool) (marks_are : (i : ℕ) → i < length decls → (most : ℕ) → IsMarked marks i ↔ HoldsFont (the_element registered decls parent place most) (key_at decls i)) (rows' : List (List ℕ)) (rows_are : (i : ℕ) → i < length decls → targets rows' i ≡ with_size registered (key_at decls i) (slice_index_or marks i false) size (targets rows i)) (most : ℕ) where
    abbrev e : AnElement
    e = the_element registered decls parent place most

    declared_some : (i : ℕ) → i < length decls → IsSome (pieces_in (declaration_of decls (key_at decls i)))
    declared_some i below =
        let entry = entry_at decls i below in
        some_of (declaration_of decls (key_at decls i)) entry.1 (ap (declaration_of decls) entry.3 ∙ declared_at found decls once i entry.0 entry.1 entry.2)

    one_property : (p : Property) → number_of p ≡ number_of FontSize → p ≡ FontSize
    one_property p same =
        let both : Some p ≡ Some FontSize = sym (found.numbered_so p) ∙ ap numbered same ∙ found.numbered_so FontSize in
        cc

    size_read : (i : ℕ) → i < length decls → (key : Key) → key_at decls i ≡ key → reads_size registered key (slice_index_or marks i false) ≡ true → Needs e key (Table FontSize)
    size_read i below (Custom name) at is =
        let both = and_cases (slice_index_or marks i false) (has_lengths registered (Custom name)) is in
        let holds = subst (HoldsFont e) at ((marks_are i below most).0 both.0) in
        inl (inr (
          refl,
          record {
            declared = subst (λ k. IsSome (pieces_in (declaration_of decls k))) at (declared_some i below);
            is_typed = typed_by (entry_of registered name) both.1;
            custom = refl;
            has_lengths = both.1;
            unit = holds.0;
            relative = holds.1;
            held = holds.2;
          },
        ))
    size_read i below (Table p) at is =
        inr (
          refl,
          record {
            ordinary = refl;
            other = λ same.
                let clash : eqb (number_of p) (number_of FontSize) ≡ true = (let own : p ≡ FontSize = cc in ap (λ x. eqb (number_of x) (number_of FontSize)) own ∙ nat_eq_equiv.refl (number_of FontSize)) in
                let other : eqb (number_of p) (number_of FontSize) ≡ false = not_true (eqb (number_of p) (number_of FontSize)) is in
                let end : true ≡ false = sym clash ∙ other in
                cc;
            declared = subst (λ k. IsSome (pieces_in (declaration_of decls k))) at (declared_some i below);
          },
        )

    size_is_read : (i : ℕ) → i < length decls → (key : Key) → key_at decls i ≡ key → ReadsFontSize e key ⊎ IsReadAtFontSize e key → reads_size registered key (slice_index_or marks i false) ≡ true
    size_is_read i below (Custom name) at (inl reads) =
        and_both (slice_index_or marks i false) (has_lengths registered (Custom name)) ((marks_are i below most).1 (subst (HoldsFont e) (sym at) (reads.unit, reads.relative, reads.held))) reads.has_lengths
    size_is_read i below (Custom name) at (inr reads) = let clash : true ≡ false = reads.ordinary in absurd cc
    size_is_read i below (Table p) at (inl reads) = let clash : false ≡ true = reads.custom in absurd cc
    size_is_read i below (Table p) at (inr reads) =
        false_not (eqb (number_of p) (number_of FontSize)) (λ same. reads.other (ap Table (one_property p (eqb-true (number_of p) (number_of FontSize) same))))

    pub needs_are : (from to : ℕ) → from < length decls → HasEdge rows' from to ↔ NeedsAt e decls from to
    needs_are from to below = (forth, back)
      where
        forth : HasEdge rows' from to → NeedsAt e decls from to
        forth has =
            elim (with_cases registered (key_at decls from) (slice_index_or marks from false) size (targets rows from) to (subst (λ r. Contains r to) (rows_are from below) has)) [
              | inl old ↦
                  let reference = (edges from to (omega (arith, below, count))).0 old in
                  (reference.below, inl (inl (refers_key registered decls parent place most found once rows count edges from to reference)))
              | inr new ↦
                  let needs = size_read from below (key_at decls from) refl new.1 in
                  (subst (λ n. n < length decls) (sym new.0) within, subst (Needs e (key_at decls from)) (sym named ∙ ap (key_at decls) (sym new.0)) needs)
            ]

        to_size : to < length decls → key_at decls to ≡ Table FontSize → ReadsFontSize e (key_at decls from) ⊎ IsReadAtFontSize e (key_at decls from) → HasEdge rows' from to
        to_size below_to is reads =
            let same : size ≡ to = distinct found decls once size to within below_to (named ∙ sym is) in
            subst (λ n. Contains (targets rows' from) n) same (subst (λ r. Contains r size) (sym (rows_are from below)) (with_new registered (key_at decls from) (slice_index_or marks from false) size (targets rows from) (size_is_read from below (key_at decls from) refl reads)))

        back : NeedsAt e decls from to → HasEdge rows' from to
        back (below_to, inl (inl refers)) =
            let old = (edges from to (omega (arith, below, count))).1 (key_refers registered decls parent place most found once rows count edges from to below below_to refers) in
            subst (λ r. Contains r to) (sym (rows_are from below)) (with_old registered (key_at decls from) (slice_index_or marks from false) size (targets rows from) to old)
        back (below_to, inl (inr reads)) = to_size below_to reads.0 (inl reads.1)
        back (below_to, inr reads) = to_size below_to reads.0 (inr reads.1)

    pub more_few : ((from : ℕ) → from < length rows → length (targets rows from) ≤ references_at decls from) → (i : ℕ) → i < length decls → length (targets rows' i) ≤ references_at decls i + 1
    more_few few i below =
        omega (arith, ap (λ (r : List ℕ). length r) (rows_are i below), with_few registered (key_at decls i) (slice_index_or marks i false) size (targets rows i) (references_at decls i) (few i (omega (arith, below, count))))

-- whether `font-size` is declared
module _ (found : PropertiesAreFound) (decls : Declarations) (once : IsDistinct same_key (keys_of decls)) where
  pub undeclared : (result : Option ℕ) → result ≡ None → ((i : ℕ) → ((d : Decl) × (slice_get decls i ≡ Some (Table FontSize, d))) → result ≡ Some i) → declaration_of decls (Table FontSize) ≡ None
  undeclared result is exactly =
      elim (declared_or (declaration_of decls (Table FontSize))) [
        | inr none ↦ none
        | inl some ↦
            let at = place_of found decls once (Table FontSize) some.0 some.1 in
            let clash : None ≡ Some at.0 = sym is ∙ exactly at.0 (some.0, at.3) in
            absurd cc
      ]

  pub declared : (i : ℕ) (d : Decl) → slice_get decls i ≡ Some (Table FontSize, d) → is_some (declaration_of decls (Table FontSize)) ≡ true
  declared i d is = ap (λ (o : Option Decl). is_some o) (declared_at found decls once i (Table FontSize) d is)

  pub size_found : (result : Option ℕ) → IfSome result (λ i. (d : Decl) × (slice_get decls i ≡ Some (Table FontSize, d))) → ((i : ℕ) → ((d : Decl) × (slice_get decls i ≡ Some (Table FontSize, d))) → result ≡ Some i) → IsSizedAt decls result
  size_found None only exactly = undeclared None refl exactly
  size_found (Some i) only exactly = (slice_get_within decls i (Table FontSize, only.0) only.1, ap key_in only.1, declared i only.0 only.1)

-- a row that goes on where it is said so
pub sized_row : (registered : Registered) (key : Key) (holds : Bool) (size : ℕ) (reads : Bool) → reads ≡ reads_size registered key holds → (row before : List ℕ) → row ≡ before → (row' : List ℕ) → row' ≡ (if reads then row ++ size ∷ [] else row) → row' ≡ with_size registered key holds size before
sized_row registered key holds size reads is row before same row' made =
    made ∙ ap (λ (b : Bool). if b then row ++ size ∷ [] else row) is ∙ ap (with_size registered key holds size) same

-- a row of references has room for the place of `font-size`
pub size_room : (decls : Declarations) (size : ℕ) → key_at decls size ≡ Table FontSize → (rows : List (List ℕ)) → ((from to : ℕ) → from < length rows → HasEdge rows from to ↔ RefersAt decls from to) → (from : ℕ) → from < length rows → size < length decls → IsDistinct eqb (targets rows from) → length (targets rows from) < length decls
size_room decls size named rows edges from below within once =
    has_room (targets rows from) size once (λ has. let reference = (edges from size below).0 has in let clash : Table FontSize ≡ Custom reference.name = sym named ∙ reference.named in cc) (length decls) (λ x has. ((edges from x below).0 has).below) within
