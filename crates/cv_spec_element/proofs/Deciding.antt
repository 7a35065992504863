-- Which properties depend on themselves can be told, since finitely many are declared.
use Rattle.std.proofs.Common.{◌≡◌, Bool, true, false, Option, Some, None, ◌⊎◌, inl, inr, refl, sym, ◌∙◌, subst}
use Rattle.std.specs.Prelude.{IsSome}
use Rattle.std.specs.Bool.{Decides}
use Rattle.cv_spec_element.specs.Pieces.{Pieces, RefersTo}
use Rattle.cv_spec_element.specs.Element.{Outcome, Element}
use Rattle.cv_spec_element.specs.Dependencies.{DeclaresUnit, DeclaresKeyword, undeclared_value, OutcomeHasUnit, HoldsKeyword, Owns, declares, takes_undeclared, takes_initial, takes_parent, Refers, RefersLoosely, Holds, ReadsFontSize, Edge, DependsOnItself}
use Rattle.cv_spec_element.specs.Premises.{IsNamed}
use Rattle.cv_spec_element.proofs.Members.{In, In-from_Contains}
use Rattle.cv_spec_element.proofs.Substitution.{refers_to_some}
use Rattle.cv_spec_element.proofs.Units.{SomeFontUnit, NoFontUnit, declared_font_unit, declared_keyword, outcome_font_unit}
use Rattle.cv_spec_element.proofs.Reaching.{reaches_some_or_none, cyclic_or_not}

pub holds_or_not : {P : Type 0} → (r : Bool) → Decides r P → P ⊎ (¬ P)
holds_or_not true decides = inl (decides.0 refl)
holds_or_not false decides = inr (λ holds. let clash : false ≡ true = decides.1 holds in cc)

pub is_or_not : (b : Bool) → (c : Bool) → (b ≡ c) ⊎ (¬ (b ≡ c))
is_or_not true true = inl refl
is_or_not true false = inr (λ e. cc)
is_or_not false true = inr (λ e. cc)
is_or_not false false = inl refl

module _ {K T V U M : Type 0} (e : Element K T V U M) (named : IsNamed e) where
  pub same_or_not : (p q : K) → (p ≡ q) ⊎ (¬ (p ≡ q))
  same_or_not p q = holds_or_not (e.properties.is_same p q) (named.same p q)

  pub declared_in : (p : K) (pieces : Pieces K T) → e.declarations.pieces p ≡ Some pieces → In p e.declarations.names
  declared_in p pieces is = In-from_Contains e.declarations.names p (named.listed p (subst (λ o. IsSome o) (sym is) refl))

  refers_some : (P : K → Type 0) → ((q : K) → P q ⊎ (¬ P q)) → (p : K) → ((q : K) × Refers e p q × P q) ⊎ ((q : K) → Refers e p q → ¬ P q)
  refers_some P choose p = by_declaration (e.declarations.pieces p) refl
    where
      by_declaration : (o : Option (Pieces K T)) → e.declarations.pieces p ≡ o → ((q : K) × Refers e p q × P q) ⊎ ((q : K) → Refers e p q → ¬ P q)
      by_declaration None is = inr (λ q refers. absurd (let clash : None ≡ Some refers.0 = sym is ∙ refers.1 in cc))
      by_declaration (Some pieces) is =
          elim (refers_to_some P choose pieces) [
            | inl some ↦ inl (some.0, (pieces, is, some.1), some.2)
            | inr none ↦ inr (λ q refers. let both : Some pieces ≡ Some refers.0 = sym is ∙ refers.1 in let pieces_are : refers.0 ≡ pieces = cc in none q (subst (λ x. RefersTo x q) pieces_are refers.2))
          ]

  loose_and : (P : K → Type 0) → ((q : K) → P q ⊎ (¬ P q)) → (q : K) → ((e.properties.is_loose q ≡ true) × P q) ⊎ (¬ ((e.properties.is_loose q ≡ true) × P q))
  loose_and P choose q =
      elim (is_or_not (e.properties.is_loose q) true) [
        | inl loose ↦ elim (choose q) [ inl holds ↦ inl (loose, holds) | inr fails ↦ inr (λ both. fails both.1) ]
        | inr firm ↦ inr (λ both. firm both.0)
      ]

  loosely_some : (P : K → Type 0) → ((q : K) → P q ⊎ (¬ P q)) → (p : K) → ((q : K) × RefersLoosely e p q × P q) ⊎ ((q : K) → RefersLoosely e p q → ¬ P q)
  loosely_some P choose p =
      elim (refers_some (λ q. (e.properties.is_loose q ≡ true) × P q) (loose_and P choose) p) [
        | inl some ↦ inl (some.0, (some.1, some.2.0), some.2.1)
        | inr none ↦ inr (λ q refers holds. none q refers.0 (refers.1, holds))
      ]

  loosely_from : (p q : K) → RefersLoosely e p q → In p e.declarations.names
  loosely_from p q refers = declared_in p refers.0.0 refers.0.1

  -- a declaration that there is, is the one
  same_pieces : (p : K) (pieces other : Pieces K T) → e.declarations.pieces p ≡ Some pieces → e.declarations.pieces p ≡ Some other → other ≡ pieces
  same_pieces p pieces other first second = let both : Some pieces ≡ Some other = sym first ∙ second in cc

  none_clash : (p : K) (pieces : Pieces K T) → e.declarations.pieces p ≡ None → e.declarations.pieces p ≡ Some pieces → ⊥
  none_clash p pieces none some = let clash : None ≡ Some pieces = sym none ∙ some in cc

  abbrev OwnsFontUnit : K → Type 0
  OwnsFontUnit p = SomeFontUnit e.words (Owns e p)

  undeclared_owns : (p : K) → e.declarations.pieces p ≡ None → OwnsFontUnit p ⊎ (¬ OwnsFontUnit p)
  undeclared_owns p none =
      elim (is_or_not (e.properties.is_loose p) true) [
        | inl loose ↦ elim (outcome_font_unit e (undeclared_value e p)) [
          | inl some ↦ inl (some.0, some.1, takes_undeclared loose none some.2)
          | inr no_unit ↦ inr (λ owns. by_owns no_unit owns.0 owns.1 owns.2)
        ]
        | inr firm ↦ inr (λ owns. firm_owns firm owns.0 owns.2)
      ]
    where
      by_owns : NoFontUnit e.words (OutcomeHasUnit e (undeclared_value e p)) → (u : U) → e.words.is_font_unit u ≡ true → Owns e p u → ⊥
      by_owns no_unit u font (declares pieces is has) = none_clash p pieces none is
      by_owns no_unit u font (takes_undeclared loose is has) = no_unit u font has
      by_owns no_unit u font (takes_initial loose keyword has) = none_clash p keyword.0 none keyword.1
      by_owns no_unit u font (takes_parent loose keyword value is has) = none_clash p keyword.0 none keyword.1

      firm_owns : ¬ (e.properties.is_loose p ≡ true) → (u : U) → Owns e p u → ⊥
      firm_owns firm u (declares pieces is has) = none_clash p pieces none is
      firm_owns firm u (takes_undeclared loose is has) = firm loose
      firm_owns firm u (takes_initial loose keyword has) = firm loose
      firm_owns firm u (takes_parent loose keyword value is has) = firm loose

  -- the lists that a keyword may bring have a font unit
  abbrev TakesFontUnit : K → Type 0
  TakesFontUnit p = SomeFontUnit e.words (λ u. OutcomeHasUnit e (e.values.initial p) u ⊎ ((value : Outcome T V) × (e.values.parent p ≡ Some value) × OutcomeHasUnit e value u))

  takes_or_not : (p : K) → TakesFontUnit p ⊎ (¬ TakesFontUnit p)
  takes_or_not p =
      elim (outcome_font_unit e (e.values.initial p)) [
        | inl some ↦ inl (some.0, some.1, inl some.2)
        | inr none ↦ by_parent none (e.values.parent p) refl
      ]
    where
      by_parent : NoFontUnit e.words (OutcomeHasUnit e (e.values.initial p)) → (o : Option (Outcome T V)) → e.values.parent p ≡ o → TakesFontUnit p ⊎ (¬ TakesFontUnit p)
      by_parent none None is =
          inr (λ some. elim some.2 [
            | inl first ↦ none some.0 some.1 first
            | inr second ↦ let clash : None ≡ Some second.0 = sym is ∙ second.1 in cc
          ])
      by_parent none (Some value) is =
          elim (outcome_font_unit e value) [
            | inl some ↦ inl (some.0, some.1, inr (value, is, some.2))
            | inr no_unit ↦ inr (λ some. elim some.2 [
              | inl first ↦ none some.0 some.1 first
              | inr second ↦
                  let both : Some value ≡ Some second.0 = sym is ∙ second.1 in
                  let same : second.0 ≡ value = cc in
                  no_unit some.0 some.1 (subst (λ o. OutcomeHasUnit e o some.0) same second.2)
            ])
          ]

  declared_owns : (p : K) (pieces : Pieces K T) → e.declarations.pieces p ≡ Some pieces → OwnsFontUnit p ⊎ (¬ OwnsFontUnit p)
  declared_owns p pieces is =
      elim (declared_font_unit e.words pieces) [
        | inl some ↦ inl (some.0, some.1, declares pieces is some.2)
        | inr no_unit ↦ elim (is_or_not (e.properties.is_loose p) true) [
          | inr firm ↦ inr (λ owns. by_owns no_unit (λ loose keyword. absurd (firm loose)) owns.0 owns.1 owns.2)
          | inl loose ↦ elim (declared_keyword e.words pieces) [
            | inr no_keyword ↦ inr (λ owns. by_owns no_unit (λ _ keyword. absurd (no_keyword (subst (λ x. DeclaresKeyword e.words x) (same_pieces p pieces keyword.0 is keyword.1) keyword.2))) owns.0 owns.1 owns.2)
            | inl keyword ↦ elim (takes_or_not p) [
              | inl takes ↦ inl (taken loose (pieces, is, keyword) takes)
              | inr not_taken ↦ inr (λ owns. by_owns no_unit (λ _ _ takes. not_taken takes) owns.0 owns.1 owns.2)
            ]
          ]
        ]
      ]
    where
      taken : e.properties.is_loose p ≡ true → HoldsKeyword e p → TakesFontUnit p → OwnsFontUnit p
      taken loose keyword (u, font, inl first) = (u, font, takes_initial loose keyword first)
      taken loose keyword (u, font, inr second) = (u, font, takes_parent loose keyword second.0 second.1 second.2)

      by_owns : NoFontUnit e.words (DeclaresUnit e.words pieces) → (e.properties.is_loose p ≡ true → HoldsKeyword e p → ¬ TakesFontUnit p) → (u : U) → e.words.is_font_unit u ≡ true → Owns e p u → ⊥
      by_owns no_unit not_taken u font (declares other other_is has) = no_unit u font (subst (λ x. DeclaresUnit e.words x u) (same_pieces p pieces other is other_is) has)
      by_owns no_unit not_taken u font (takes_undeclared loose none has) = none_clash p pieces none is
      by_owns no_unit not_taken u font (takes_initial loose keyword has) = not_taken loose keyword (u, font, inl has)
      by_owns no_unit not_taken u font (takes_parent loose keyword value value_is has) = not_taken loose keyword (u, font, inr (value, value_is, has))

  owns_or_not : (p : K) → OwnsFontUnit p ⊎ (¬ OwnsFontUnit p)
  owns_or_not p = by_declaration (e.declarations.pieces p) refl
    where
      by_declaration : (o : Option (Pieces K T)) → e.declarations.pieces p ≡ o → OwnsFontUnit p ⊎ (¬ OwnsFontUnit p)
      by_declaration None is = undeclared_owns p is
      by_declaration (Some pieces) is = declared_owns p pieces is

  holds_font_unit : (p : K) → SomeFontUnit e.words (Holds e p) ⊎ (¬ SomeFontUnit e.words (Holds e p))
  holds_font_unit p =
      elim (owns_or_not p) [
        | inl owns ↦ inl (owns.0, owns.1, inl owns.2)
        | inr none ↦ elim (reaches_some_or_none (RefersLoosely e) e.declarations.names loosely_from same_or_not loosely_some OwnsFontUnit owns_or_not p) [
          | inl some ↦ inl (some.2.0, some.2.1, inr (some.0, some.1, some.2.2))
          | inr none_reached ↦ inr (λ holds. elim holds.2 [
            | inl owns ↦ none (holds.0, holds.1, owns)
            | inr far ↦ none_reached far.0 far.1 (holds.0, holds.1, far.2)
          ])
        ]
      ]

  reads_font_size : (p : K) → ReadsFontSize e p ⊎ (¬ ReadsFontSize e p)
  reads_font_size p = by_declaration (e.declarations.pieces p) refl
    where
      by_declaration : (o : Option (Pieces K T)) → e.declarations.pieces p ≡ o → ReadsFontSize e p ⊎ (¬ ReadsFontSize e p)
      by_declaration None is = inr (λ reads. let clash : IsSome {T = Pieces K T} None = subst (λ o. IsSome o) is reads.declared in cc)
      by_declaration (Some pieces) is =
          elim (is_or_not (e.properties.is_loose p) false) [
            | inr loose ↦ inr (λ reads. loose reads.is_typed)
            | inl firm ↦ elim (is_or_not (e.properties.is_custom p) true) [
              | inr ordinary ↦ inr (λ reads. ordinary reads.custom)
              | inl custom ↦ elim (is_or_not (e.properties.has_lengths p) true) [
                | inr plain ↦ inr (λ reads. plain reads.has_lengths)
                | inl lengths ↦ elim (holds_font_unit p) [
                  | inr none ↦ inr (λ reads. none (reads.unit, reads.relative, reads.held))
                  | inl some ↦ inl (record {
                    declared = subst (λ o. IsSome o) (sym is) refl;
                    is_typed = firm;
                    custom = custom;
                    has_lengths = lengths;
                    unit = some.0;
                    relative = some.1;
                    held = some.2;
                  })
                ]
              ]
            ]
          ]

  edge_some : (P : K → Type 0) → ((q : K) → P q ⊎ (¬ P q)) → (p : K) → ((q : K) × Edge e p q × P q) ⊎ ((q : K) → Edge e p q → ¬ P q)
  edge_some P choose p =
      elim (refers_some P choose p) [
        | inl some ↦ inl (some.0, inl some.1, some.2)
        | inr none ↦ elim (reads_font_size p) [
          | inr plain ↦ inr (λ q edge. elim edge [ inl refers ↦ none q refers | inr size ↦ absurd (plain size.1) ])
          | inl reads ↦ elim (choose e.properties.font_size) [
            | inl holds ↦ inl (e.properties.font_size, inr (refl, reads), holds)
            | inr fails ↦ inr (λ q edge. elim edge [ inl refers ↦ none q refers | inr size ↦ λ h. fails (subst P size.0 h) ])
          ]
        ]
      ]

  pub some_declared : (p : K) → IsSome (e.declarations.pieces p) → In p e.declarations.names
  some_declared p declared = In-from_Contains e.declarations.names p (named.listed p declared)

  pub edge_from : (p q : K) → Edge e p q → In p e.declarations.names
  edge_from p q (inl refers) = declared_in p refers.0 refers.1
  edge_from p q (inr size) = some_declared p size.1.declared

  -- a property depends on itself or doesn't
  pub depends_or_not : (p : K) → DependsOnItself e p ⊎ (¬ DependsOnItself e p)
  depends_or_not p = cyclic_or_not (Edge e) e.declarations.names edge_from same_or_not edge_some p
