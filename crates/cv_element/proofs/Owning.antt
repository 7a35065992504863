-- Which properties hold a unit that is relative to the font size.
use Rattle.std.proofs.Common.{◌≡◌, ◌≢◌, ℕ, ◌<◌, ◌↔◌, Bool, true, false, List, [], ◌∷◌, length, get_or, Option, Some, None, ◌⊎◌, inl, inr, refl, sym, ◌∙◌, ap, subst, arith}
use Rattle.std.specs.Prelude.{Contains, IfSome, is_none, is_some, slice_get, ◌&&◌, ◌||◌}
use Rattle.std.specs.List.{IsDistinct, list_any}
use Rattle.std.specs.Map.{keys_of}
use Rattle.cv_cycle.specs.Marks.{IsMarked}
use Rattle.cv_cycle.specs.Reversing.{LeadsThrough, IsReachedBack}
use Rattle.cv_graph.specs.Edges.{HasEdge}
use Rattle.cv_spec_text.specs.declared.token.Token.{Token}
use Rattle.cv_calc.specs.declared.unit.Unit.{Unit as Measure}
use Rattle.cv_calc_laws.specs.Fonts.{is_font_unit}
use Rattle.cv_value.specs.Text.{typed_text}
use Rattle.cv_spec_element.specs.Keywords.{unset}
use Rattle.cv_spec_element.specs.Pieces.{Pieces, RefersTo}
use Rattle.cv_spec_element.specs.Walks.{Walk, Reaches}
use Rattle.cv_spec_element.specs.Words.{HasUnit}
use Rattle.cv_spec_element.specs.Dependencies.{DeclaresUnit, DeclaresKeyword, tokens_of, undeclared_value, OutcomeHasUnit, HoldsKeyword, Owns, declares, takes_undeclared, takes_initial, takes_parent, Refers, RefersLoosely, Holds}
use Rattle.cv_var.specs.Flat.{flattened}
use Rattle.cv_var.specs.References.{pieces_of}
use Rattle.cv_valuation.specs.declared.key.Key.{Key}
use Rattle.cv_valuation.specs.declared.key.Key.TheVariants.{Custom}
use Rattle.cv_valuation.specs.declared.outcome.Outcome.{Outcome as Kept}
use Rattle.cv_valuation.specs.declared.outcome.Outcome.TheVariants as kept
use Rattle.cv_valuation.specs.Keys.{same_key}
use Rattle.cv_valuation.specs.Valuations.{Values, outcome_at}
use Rattle.cv_props.specs.declared.decls.Decl.{Decl}
use Rattle.cv_props.specs.Registered.{Registered, AreEntries}
use Rattle.cv_props.specs.Winners.{Declarations, declaration_of}
use Rattle.cv_spec_valuation.specs.declared.place.Place.{Place}
use Rattle.cv_spec_valuation.specs.Registered.{as_read, is_loose, initial_at}
use Rattle.cv_spec_valuation.specs.Element.{keyed, pieces_in, words_at, values_of, parent_in, the_element}
use Rattle.cv_spec_valuation.specs.Computed.{MayStand, ParentStandsUnder}
use Rattle.cv_element.specs.Holding.{OwnsFont, HoldsFont, BeginsFont, piece_has_font, piece_is_keyword, declares_font, declares_keyword, outcome_has_font, some_has_font, takes_font, owns_font, lends_font}
use Rattle.cv_element.specs.Places.{RefersAt}
use Rattle.cv_element.specs.Settling.{key_at}
use Rattle.cv_element.specs.Values.{AnElement, held_by, start_at}
use Rattle.cv_element.proofs.Fonts.{SomeFont, or_cases, or_left, or_right, and_cases, and_both, list_font, pieces_font, pieces_keyword}
use Rattle.cv_element.proofs.Judged.{start_read}
use Rattle.cv_element.proofs.Keying.{keyed-RefersTo, RefersTo-keyed}
use Rattle.cv_element.proofs.Lawful.{Laws, holds_unit}
use Rattle.cv_element.proofs.Standing.{initial_stands, keyword_stands}

module _ (laws : Laws) (registered : Registered) (entries : AreEntries registered) (decls : Declarations) (parent : Option Values) (stands : ParentStandsUnder registered parent) (place : Place) (most : ℕ) where
  abbrev e : AnElement
  e = the_element registered decls parent place most

  abbrev root : Bool
  root = is_none place.root

  outcome_font : (key : Key) (o : Kept) → MayStand registered key o → (outcome_has_font root o ≡ true) ↔ SomeFont place (OutcomeHasUnit e (as_read o))
  outcome_font key (kept.Tokens list) may = (
    (λ is. let some = (list_font laws.fonts place list).0 is in (some.0, some.1, (list, refl, some.2))),
    (λ some. (list_font laws.fonts place list).1 (some.0, some.1, subst (λ l. HasUnit (words_at place) l some.0) (let both : Some list ≡ Some some.2.0 = some.2.1 in let same : list ≡ some.2.0 = cc in sym same) some.2.2)),
  )
  outcome_font key (kept.Value value) may = (
    (λ is. let clash : false ≡ true = is in absurd cc),
    (λ some.
        let same : typed_text value ≡ some.2.0 = let both : Some (typed_text value) ≡ Some some.2.0 = some.2.1 in cc in
        absurd (laws.fonts.none root (typed_text value) (laws.items.no_font_unit root value may.0.1.canonical) some.0 some.1 (holds_unit place (typed_text value) some.0 (subst (λ l. HasUnit (words_at place) l some.0) (sym same) some.2.2)))),
  )
  outcome_font key kept.Invalid may = (
    (λ is. let clash : false ≡ true = is in absurd cc),
    (λ some. let clash : None ≡ Some some.2.0 = some.2.1 in absurd cc),
  )

  initial_font : (key : Key) → (outcome_has_font root (initial_at registered key) ≡ true) ↔ SomeFont place (OutcomeHasUnit e (as_read (initial_at registered key)))
  initial_font key = outcome_font key (initial_at registered key) (initial_stands laws.tables registered entries key)

  parent_font : (given : Option Values) → ParentStandsUnder registered given → (key : Key) → (some_has_font root (held_by given key) ≡ true) ↔ SomeFont place (λ u. (value : _) × (parent_in given key ≡ Some value) × OutcomeHasUnit e value u)
  parent_font None under key = (
    (λ is. let clash : false ≡ true = is in absurd cc),
    (λ some. let clash : None ≡ Some some.2.0 = some.2.1 in absurd cc),
  )
  parent_font (Some values) under key = (
    (λ is. let some = (outcome_font key (outcome_at values key) (under key)).0 is in (some.0, some.1, (values_of values key, refl, some.2))),
    (λ some. (outcome_font key (outcome_at values key) (under key)).1 (some.0, some.1, subst (λ o. OutcomeHasUnit e o some.0) (let both : Some (values_of values key) ≡ Some some.2.0 = some.2.1 in let same : values_of values key ≡ some.2.0 = cc in sym same) some.2.2)),
  )

  module _ (key : Key) (d : Decl) (declared : declaration_of decls key ≡ Some d) where
    own_pieces : (pieces : Pieces Key Token) → e.declarations.pieces key ≡ Some pieces → pieces ≡ keyed (pieces_of d.value)
    own_pieces pieces is = let both : Some pieces ≡ Some (keyed (pieces_of d.value)) = sym is ∙ ap pieces_in declared in cc

    keyword_is : (declares_keyword d.value ≡ true) ↔ HoldsKeyword e key
    keyword_is = (
      (λ is. (keyed (pieces_of d.value), ap pieces_in declared, (pieces_keyword laws.fonts place (pieces_of d.value)).0 is)),
      (λ holds. (pieces_keyword laws.fonts place (pieces_of d.value)).1 (subst (λ p. DeclaresKeyword (words_at place) p) (own_pieces holds.0 holds.1) holds.2)),
    )

    abbrev D : Bool
    D = declares_font root d.value

    abbrev L : Bool
    L = is_loose registered key

    abbrev W : Bool
    W = declares_keyword d.value

    abbrev I : Bool
    I = outcome_has_font root (initial_at registered key)

    abbrev Q : Bool
    Q = some_has_font root (held_by parent key)

    pub owns_is : (owns_font root registered parent key d.value ≡ true) ↔ OwnsFont e key
    owns_is = (to, from)
      where
        taken : L ≡ true → HoldsKeyword e key → (I || Q) ≡ true → OwnsFont e key
        taken loose word is =
            elim (or_cases I Q is) [
              | inl first ↦ let some = (initial_font key).0 first in (some.0, some.1, takes_initial loose word some.2)
              | inr second ↦ let some = (parent_font parent stands key).0 second in (some.0, some.1, takes_parent loose word some.2.0 some.2.1 some.2.2)
            ]

        to : (D || (L && (W && (I || Q)))) ≡ true → OwnsFont e key
        to is =
            elim (or_cases D (L && (W && (I || Q))) is) [
              | inl own ↦ let some = (pieces_font laws.fonts place (pieces_of d.value)).0 own in (some.0, some.1, declares (keyed (pieces_of d.value)) (ap pieces_in declared) some.2)
              | inr rest ↦
                  let a = and_cases L (W && (I || Q)) rest in
                  let b = and_cases W (I || Q) a.1 in
                  taken a.0 (keyword_is.0 b.0) b.1
            ]

        by : (u : Measure) → is_font_unit root u ≡ true → Owns e key u → (D || (L && (W && (I || Q)))) ≡ true
        by u font (declares pieces is has) =
            or_left D (L && (W && (I || Q))) ((pieces_font laws.fonts place (pieces_of d.value)).1 (u, font, subst (λ p. DeclaresUnit (words_at place) p u) (own_pieces pieces is) has))
        by u font (takes_undeclared loose none has) = let clash : None ≡ Some (keyed (pieces_of d.value)) = sym none ∙ ap pieces_in declared in absurd cc
        by u font (takes_initial loose word has) =
            or_right D (L && (W && (I || Q))) (and_both L (W && (I || Q)) loose (and_both W (I || Q) (keyword_is.1 word) (or_left I Q ((initial_font key).1 (u, font, has)))))
        by u font (takes_parent loose word value is has) =
            or_right D (L && (W && (I || Q))) (and_both L (W && (I || Q)) loose (and_both W (I || Q) (keyword_is.1 word) (or_right I Q ((parent_font parent stands key).1 (u, font, (value, is, has))))))

        from : OwnsFont e key → (D || (L && (W && (I || Q)))) ≡ true
        from some = by some.0 some.1 some.2

  -- a name that isn't declared
  none_is : (o : Option Decl) → is_none o ≡ true → o ≡ None
  none_is None is = refl
  none_is (Some d) is = cc

  is_none_of : (o : Option Decl) → pieces_in o ≡ None → is_none o ≡ true
  is_none_of None is = refl
  is_none_of (Some d) is = let clash : Some (keyed (pieces_of d.value)) ≡ None = is in absurd cc

  start_font : (key : Key) → (outcome_has_font root (start_at registered parent key) ≡ true) ↔ SomeFont place (OutcomeHasUnit e (undeclared_value e key))
  start_font key =
      subst (λ o. (outcome_has_font root (start_at registered parent key) ≡ true) ↔ SomeFont place (OutcomeHasUnit e o)) (start_read registered decls parent place most key) (outcome_font key (start_at registered parent key) (keyword_stands laws.tables registered entries parent stands key unset))

  pub lends_is : (name : List ℕ) → (lends_font root registered decls parent name ≡ true) ↔ ((pieces_in (declaration_of decls (Custom name)) ≡ None) × (is_loose registered (Custom name) ≡ true) × OwnsFont e (Custom name))
  lends_is name = (to, from)
    where
      to : (is_none (declaration_of decls (Custom name)) && (is_loose registered (Custom name) && outcome_has_font root (start_at registered parent (Custom name)))) ≡ true → (pieces_in (declaration_of decls (Custom name)) ≡ None) × (is_loose registered (Custom name) ≡ true) × OwnsFont e (Custom name)
      to is =
          let a = and_cases (is_none (declaration_of decls (Custom name))) (is_loose registered (Custom name) && outcome_has_font root (start_at registered parent (Custom name))) is in
          let b = and_cases (is_loose registered (Custom name)) (outcome_has_font root (start_at registered parent (Custom name))) a.1 in
          let none = ap pieces_in (none_is (declaration_of decls (Custom name)) a.0) in
          let some = (start_font (Custom name)).0 b.1 in
          (none, b.0, (some.0, some.1, takes_undeclared b.0 none some.2))

      unit : (u : Measure) → is_font_unit root u ≡ true → pieces_in (declaration_of decls (Custom name)) ≡ None → Owns e (Custom name) u → outcome_has_font root (start_at registered parent (Custom name)) ≡ true
      unit u font none (declares pieces is has) = let clash : None ≡ Some pieces = sym none ∙ is in absurd cc
      unit u font none (takes_undeclared loose also has) = (start_font (Custom name)).1 (u, font, has)
      unit u font none (takes_initial loose word has) = let clash : None ≡ Some word.0 = sym none ∙ word.1 in absurd cc
      unit u font none (takes_parent loose word value is has) = let clash : None ≡ Some word.0 = sym none ∙ word.1 in absurd cc

      from : (pieces_in (declaration_of decls (Custom name)) ≡ None) × (is_loose registered (Custom name) ≡ true) × OwnsFont e (Custom name) → (is_none (declaration_of decls (Custom name)) && (is_loose registered (Custom name) && outcome_has_font root (start_at registered parent (Custom name)))) ≡ true
      from (none, loose, owns) =
          and_both (is_none (declaration_of decls (Custom name))) (is_loose registered (Custom name) && outcome_has_font root (start_at registered parent (Custom name))) (is_none_of (declaration_of decls (Custom name)) none)
          (and_both (is_loose registered (Custom name)) (outcome_has_font root (start_at registered parent (Custom name))) loose (unit owns.0 owns.1 none owns.2))

  -- a declaration with its own or a lent font unit
  pub begins_is : (place_at : ℕ) (key : Key) (d : Decl) → key_at decls place_at ≡ key → declaration_of decls key ≡ Some d → (lent : Bool) → (lent ≡ true) ↔ ((name : List ℕ) × RefersTo (pieces_of d.value) name × (lends_font root registered decls parent name ≡ true)) → ((owns_font root registered parent key d.value || lent) ≡ true) ↔ BeginsFont e decls place_at
  begins_is place_at key d at declared lent lends = (to, from)
    where
      refers : (name : List ℕ) → RefersTo (pieces_of d.value) name → Refers e (key_at decls place_at) (Custom name)
      refers name there = (keyed (pieces_of d.value), ap (λ k. pieces_in (declaration_of decls k)) at ∙ ap pieces_in declared, keyed-RefersTo (pieces_of d.value) name there)

      named : (name : List ℕ) → Refers e (key_at decls place_at) (Custom name) → RefersTo (pieces_of d.value) name
      named name there =
          let same : there.0 ≡ keyed (pieces_of d.value) = let both : Some there.0 ≡ Some (keyed (pieces_of d.value)) = sym there.1 ∙ ap (λ k. pieces_in (declaration_of decls k)) at ∙ ap pieces_in declared in cc in
          let found = RefersTo-keyed (pieces_of d.value) (Custom name) (subst (λ p. RefersTo p (Custom name)) same there.2) in
          let name_is : found.0 ≡ name = let both : Custom found.0 ≡ Custom name = found.1 in cc in
          subst (λ n. RefersTo (pieces_of d.value) n) name_is found.2

      to : (owns_font root registered parent key d.value || lent) ≡ true → BeginsFont e decls place_at
      to is =
          elim (or_cases (owns_font root registered parent key d.value) lent is) [
            | inl own ↦ inl (subst (λ k. OwnsFont e k) (sym at) ((owns_is key d declared).0 own))
            | inr far ↦
                let some = lends.0 far in
                let lent_there = (lends_is some.0).0 some.2 in
                inr (some.0, (refers some.0 some.1, lent_there.1), lent_there.0, lent_there.2)
          ]

      from : BeginsFont e decls place_at → (owns_font root registered parent key d.value || lent) ≡ true
      from (inl own) = or_left (owns_font root registered parent key d.value) lent ((owns_is key d declared).1 (subst (λ k. OwnsFont e k) at own))
      from (inr (name, loosely, none, owns)) =
          or_right (owns_font root registered parent key d.value) lent (lends.1 (name, named name loosely.0, (lends_is name).1 (none, loosely.1, owns)))
